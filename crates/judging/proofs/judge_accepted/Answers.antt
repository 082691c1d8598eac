-- `judging::judge_accepted` meets its contract. Assumes nothing.
use Rattle.std.proofs.Common.{ℕ, Bool, List, sym, ap, subst, ◌∙◌, arith, Option}
use Rattle.image.specs.paper.Book.{Lit}
use Rattle.image.specs.Sound.{Known}
use Rattle.image.specs.Accepted.{book_in}
use Rattle.image.specs.Shown.{goal_at, shown_front}
use Rattle.image.specs.Places.{shows, clauses_fit, goal_before}
use Rattle.meaning.specs.paper.Meaning.{true_in, value, holds}
use Rattle.judging.specs.FailingLaws.{failing_at}
use Rattle.judging.specs.Notes.{Given, lits_of}
use Rattle.judging.proofs.Image.{part}
use Rattle.judging.proofs.Answer.{place_in_goal, place_in_constraints, goal_known, answers_above, answers_goal, answers_constraint, answers_explains}
use Rattle.judging.proofs.judge_accepted.Goals as goal

pub abducibles-requires : goal.abducibles-requires
abducibles-requires c = shown_front (shows _ c.requires)

pub returns-then-names_above : goal.returns-then-names_above
returns-then-names_above c = answers_above _ c.requires _ _ _ c.abducibles.ensures.0 c.names_above.ensures c.if-names_above.true

pub clauses-requires : goal.clauses-requires
clauses-requires c = shown_front (shows _ c.requires)

pub slice_bounds-goal-count : goal.slice_bounds-goal-count
slice_bounds-goal-count c = omega (arith, goal_before c.args.image.now, c.clauses.ensures)

pub slice_bounds-goal-start : goal.slice_bounds-goal-start
slice_bounds-goal-start c = omega (arith, goal_before c.args.image.now, c.clauses.ensures)

pub slice_bounds-goal-end : goal.slice_bounds-goal-end
slice_bounds-goal-end c = omega (arith, clauses_fit _ c.requires, c.clauses.ensures)

pub first_false-requires : goal.first_false-requires
first_false-requires c =
    subst (λ (l : List ℕ). Known (book_in l) (lits_of (part c.args.image.now goal_at c.clauses.result))) (sym (ap (λ (g : Given). g.image) c.new-judge.ensures)) (goal_known _ c.requires _ c.clauses.ensures)

-- by what the judge was given
abbrev values : Given → ℕ → Bool
values g = value (book_in g.image) g.set

abbrev broken : Given → Option ℕ
broken g = failing_at (holds (values g)) (book_in g.image).constraints

-- a literal of the goal that is false, by the set itself
pub overflow_cast-result : goal.overflow_cast-result
overflow_cast-result c = omega (arith, place_in_goal _ c.requires _ _ c.clauses.ensures _ c.in-Some.ensures.place)

pub returns-in-Some : goal.returns-in-Some
returns-in-Some c =
    let lits : List Lit = lits_of (part c.args.image.now goal_at c.clauses.result) in
    answers_goal _ c.requires _ _ _ c.abducibles.ensures.0 c.names_above.ensures c.if-names_above.false _ c.clauses.ensures _
    (c.in-Some.ensures.place ∙ ap (λ (v : ℕ → Bool). failing_at (true_in v) lits) (ap values c.new-judge.ensures))

pub overflow_cast-result-in-Some-first_broken : goal.overflow_cast-result-in-Some-first_broken
overflow_cast-result-in-Some-first_broken c =
    omega (arith, place_in_constraints _ c.requires _ _ (c.in-Some-first_broken.ensures.place ∙ ap broken (c.first_false.ensures.same ∙ c.new-judge.ensures)))

pub returns-in-Some-first_broken : goal.returns-in-Some-first_broken
returns-in-Some-first_broken c =
    let lits : List Lit = lits_of (part c.args.image.now goal_at c.clauses.result) in
    answers_constraint _ c.requires _ _ _ c.abducibles.ensures.0 c.names_above.ensures c.if-names_above.false _ c.clauses.ensures
    (c.in_default.ensures.place ∙ ap (λ (v : ℕ → Bool). failing_at (true_in v) lits) (ap values c.new-judge.ensures))
    _ (c.in-Some-first_broken.ensures.place ∙ ap broken (c.first_false.ensures.same ∙ c.new-judge.ensures))

pub returns-in-None : goal.returns-in-None
returns-in-None c =
    let lits : List Lit = lits_of (part c.args.image.now goal_at c.clauses.result) in
    answers_explains _ c.requires _ _ _ c.abducibles.ensures.0 c.names_above.ensures c.if-names_above.false _ c.clauses.ensures
    (c.in_default.ensures.place ∙ ap (λ (v : ℕ → Bool). failing_at (true_in v) lits) (ap values c.new-judge.ensures))
    (c.in-None.ensures.place ∙ ap broken (c.first_false.ensures.same ∙ c.new-judge.ensures))
