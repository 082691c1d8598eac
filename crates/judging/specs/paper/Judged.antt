-- The judge's answer to every image and every set, after paper 01, 6; its promise; and what each answer says in words of the meaning.
-- Assumes nothing.
use Rattle.std.specs.Prelude.{ℕ, ◌^◌, ◌≡◌, true, ◌⊎◌, List, leb, ltb, length, Result, Ok, Err}
use Rattle.base.specs.paper.Bools.{choose}
use Rattle.image.specs.paper.Book.{Book}
use Rattle.image.specs.paper.Decode.{Decoded, accepted, refused, decode}
use Rattle.image.specs.paper.Refusals.{number_of}
use Rattle.meaning.specs.paper.Meaning.{true_in, all_true, value, holds, explains, Members}
use Rattle.judging.specs.paper.Failing.{First, first_failing}
use Rattle.judging.specs.declared.Judgement.{Judgement as Found}
use Rattle.judging.specs.declared.Judgement.TheVariants as found
use Rattle.judging.specs.declared.NoJudgement.{NoJudgement}
use Rattle.judging.specs.declared.NoJudgement.TheVariants as none

-- ---- the answer

pub data Judgement : Type 0 where
  Explains : Judgement
  FalseGoal : (place : ℕ) → Judgement
  BrokenConstraint : (place : ℕ) → Judgement
  Broken : (number place : ℕ) → Judgement
  Refused : (number : ℕ) → Judgement

-- what `judge` returns, as a judgement
abbrev pub judgement : Result Found NoJudgement → Judgement
judgement (Ok found.Explains) = Explains
judgement (Ok (found.FalseGoal i)) = FalseGoal i
judgement (Ok (found.BrokenConstraint i)) = BrokenConstraint i
judgement (Err (none.Broken fault)) = Broken (number_of fault.refusal) fault.place
judgement (Err (none.Refused refusal)) = Refused (number_of refusal)

-- the place of the first goal literal that is false; where all are true, their number
abbrev pub first_false : Book → ℕ → ℕ
first_false b d = first_failing (true_in (value b d)) b.goal

-- the place of the first constraint that is broken; where all hold, their number
abbrev pub first_broken : Book → ℕ → ℕ
first_broken b d = first_failing (holds (value b d)) b.constraints

-- On an accepted book: "23 where a member of the set is not below B; then the goal literals, and if one is false the answer is the place
-- of the first such; then, with all of them true, the constraints, and if one does not hold the answer is the place of the first such";
-- else it explains.
unfoldable pub judged_book : Book → ℕ → Judgement
judged_book b d =
    choose (leb (2 ^ b.abducibles) d) (Refused 23)
    (choose (ltb (first_false b d) (length b.goal)) (FalseGoal (first_false b d))
    (choose (ltb (first_broken b d) (length b.constraints)) (BrokenConstraint (first_broken b d)) Explains))

abbrev pub judged_of : Decoded → ℕ → Judgement
judged_of (accepted b) d = judged_book b d
judged_of (refused n at) d = Broken n at

unfoldable pub judged : List ℕ → ℕ → Judgement
judged s d = judged_of (decode s) d

-- what `judge` promises of its answer r to an image s and a set d
pub record Judges (s : List ℕ) (d : ℕ) (r : Judgement) : Type 0 where
  pub answer : r ≡ judged s d

-- ---- in words

-- what each answer says of an accepted book and a set
abbrev pub Means : Book → ℕ → Judgement → Type 0
Means b d Explains = Members b d × (explains b d ≡ true)
Means b d (FalseGoal i) = Members b d × First (true_in (value b d)) b.goal i
Means b d (BrokenConstraint i) = Members b d × (all_true (value b d) b.goal ≡ true) × First (holds (value b d)) b.constraints i
Means b d (Broken n at) = ⊥
Means b d (Refused n) = (n ≡ 23) × (Members b d → ⊥)

-- what each answer says of an image and a set
abbrev pub Said : List ℕ → ℕ → Judgement → Type 0
Said s d r = ((n : ℕ) × (at : ℕ) × (decode s ≡ refused n at) × (r ≡ Broken n at)) ⊎ ((b : Book) × (decode s ≡ accepted b) × Means b d r)
