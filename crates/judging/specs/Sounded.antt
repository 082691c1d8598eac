-- The judge's answers to the example image of paper 01, 9.3, from the definitions: fish 0, rock 1, bubbles 2, spike 3, wake 4; the spike
-- comes from each of the first three; with bubbles there is a wake, and there is none.
-- Assumes nothing.
use Rattle.std.specs.Prelude.{ℕ, ◌≡◌, refl, List, [], ◌∷◌, map}
use Rattle.base.specs.paper.Lists.{flat, below}
use Rattle.image.specs.paper.Walk.{field_at, field, running}
use Rattle.image.specs.paper.Faults.{wrong_atoms, wrong_abducibles, wrong_count, wrong_lit, wrong_head, wrong_size, wrong_clause, wrong_conditions, wrong_alternative}
use Rattle.image.specs.paper.Loops.{pending, quiet, loop_free}
use Rattle.image.specs.paper.Decode.{literal, clause, alternative, alternatives, inside, constraint, counted, clauses_and_constraints, book, ends, whole, length_field, wrong_front, in_order, decode}
use Rattle.image.specs.Spell.{two}
use Rattle.meaning.specs.paper.Meaning.{clauses_for, valued}
use Rattle.judging.specs.paper.Failing.{first_failing}
use Rattle.judging.specs.paper.Judged.{Explains, FalseGoal, BrokenConstraint, Refused, judged_book, judged}

-- version, length, then the fields: A, B; the goal; three clauses; one constraint
image : List ℕ
image =
    1 ∷ 0 ∷ 0 ∷ 0 ∷ 40 ∷ flat two (
    5 ∷ 3 ∷ 1 ∷ 6 ∷ 3 ∷ 4 ∷ 3 ∷ 0 ∷ 4 ∷ 3 ∷ 2 ∷ 4 ∷ 3 ∷ 4 ∷ 1 ∷ 8 ∷ 1 ∷ 4 ∷ 1 ∷ 8 ∷ []
    )

-- nothing; fish; bubbles; fish, rock and bubbles; a fourth abducible
answers : map (judged image) (0 ∷ 1 ∷ 4 ∷ 7 ∷ 8 ∷ []) ≡ FalseGoal 0 ∷ Explains ∷ BrokenConstraint 0 ∷ BrokenConstraint 0 ∷ Refused 23 ∷ []
unfolding image field_at field running wrong_atoms wrong_abducibles wrong_count wrong_lit wrong_head wrong_size wrong_clause wrong_conditions wrong_alternative pending below quiet loop_free literal clause alternative alternatives inside constraint counted clauses_and_constraints book ends whole length_field wrong_front in_order decode clauses_for valued first_failing judged_book judged
answers = refl
