-- The states of a run, and their ranks. A step's states fall: a visit ends in FAILED at the most, and then each piece passes from a state of
-- n at the most to one below n, from FAILED to WAY, LIST and AGENDA, and from there to TASK, since OVER is no state of a machine at work. So
-- each piece is called once, in this order, and a step is proved by one fact for each piece.
-- Assumes nothing.
use Rattle.std.specs.Prelude.{ℕ, zero, suc, ◌≤◌, ◌≡◌}
use Rattle.std.proofs.Common.{refl, sym, ap, ◌∙◌}
use Rattle.memory.specs.declared.run.State.{State}
use Rattle.memory.specs.declared.run.State.TheVariants.{Task, Agenda, List, Way, Failed, Over, Spent, Full}

-- ---- named apart from tasks, agendas and lists

abbrev pub TASK : State
TASK = Task

abbrev pub AGENDA : State
AGENDA = Agenda

abbrev pub LIST : State
LIST = List

abbrev pub WAY : State
WAY = Way

abbrev pub FAILED : State
FAILED = Failed

abbrev pub OVER : State
OVER = Over

abbrev pub SPENT : State
SPENT = Spent

abbrev pub FULL : State
FULL = Full

-- ---- their order

abbrev pub rank : State → ℕ
rank Task = 0
rank Over = 1
rank Agenda = 2
rank List = 3
rank Way = 4
rank Failed = 5
rank Spent = 6
rank Full = 7

of_rank : ℕ → State
of_rank zero = Task
of_rank (suc zero) = Over
of_rank (suc (suc zero)) = Agenda
of_rank (suc (suc (suc zero))) = List
of_rank (suc (suc (suc (suc zero)))) = Way
of_rank (suc (suc (suc (suc (suc zero))))) = Failed
of_rank (suc (suc (suc (suc (suc (suc zero)))))) = Spent
of_rank (suc (suc (suc (suc (suc (suc (suc n))))))) = Full

rank_back : (s : State) → of_rank (rank s) ≡ s
unfolding of_rank
rank_back Task = refl
rank_back Over = refl
rank_back Agenda = refl
rank_back List = refl
rank_back Way = refl
rank_back Failed = refl
rank_back Spent = refl
rank_back Full = refl

-- a rank tells its state
pub rank_tells : (s t : State) → rank s ≡ rank t → s ≡ t
rank_tells s t e = sym (rank_back s) ∙ ap of_rank e ∙ rank_back t

-- the states that a piece passes on from
abbrev pub Passing : State → Type 0
Passing n = (rank AGENDA ≤ rank n) × (rank n ≤ rank FAILED)
