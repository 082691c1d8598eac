-- The scan of literals for the first false one.
-- Assumes nothing.
use Prim.Native.Nat.{ℕ, suc, ◌+◌, ◌<◌}
use mathlib.Core.Path.{◌≡◌, ap, subst, ◌∙◌}
use mathlib.Core.Bool.{Bool, true, false}
use mathlib.Core.List.{List, [], ◌∷◌, ◌++◌}
use native.Mathlib.Omega.{arith}
use lib.ListN.{length}
use Rattle.std.specs.Prelude.{Some, None}
use Rattle.base.specs.Lists.{every_first, every_rest}
use Rattle.image.specs.paper.Book.{Lit}
use Rattle.image.specs.paper.Walk.{field_at}
use Rattle.image.specs.paper.Decode.{lit_of}
use Rattle.image.specs.Sound.{Known}
use Rattle.image.specs.Accepted.{book_in}
use Rattle.meaning.specs.paper.Meaning.{true_in, value}
use Rattle.judging.specs.paper.Failing.{first_failing}
use Rattle.judging.specs.FailingLaws.{failing_at, failing_none, failing_later, failing_now, some_fails, none_fails}
use Rattle.judging.specs.Notes.{lits_of}
use Rattle.judging.proofs.Image.{lits_less, lits_first}

-- the first i of these literals are true, and the rest is left
pub record Run (s : List ℕ) (d : ℕ) (all : List ℕ) (i : ℕ) (rest : List ℕ) : Type 0 where
  pub known : Known (book_in s) (lits_of rest)
  pub count : length (lits_of all) ≡ i + length (lits_of rest)
  pub left : first_failing (true_in (value (book_in s) d)) (lits_of all) ≡ i + first_failing (true_in (value (book_in s) d)) (lits_of rest)

pub run_start : (s : List ℕ) (d : ℕ) (all : List ℕ) → Known (book_in s) (lits_of all) → Run s d all 0 all
run_start s d all known = record { known = known; count = omega arith; left = omega arith }

module _ (s : List ℕ) (d : ℕ) (all : List ℕ) (i : ℕ) (rest : List ℕ) (run : Run s d all i rest) where
  abbrev test : Lit → Bool
  test = true_in (value (book_in s) d)

  pub run_over : length rest < 2 → None ≡ failing_at test (lits_of all)
  run_over h =
      let none : lits_of rest ≡ [] = lits_less rest h in
      let place : first_failing test (lits_of rest) ≡ 0 = ap (first_failing test) none ∙ failing_none test in
      none_fails test (lits_of all) (omega (arith, run.count, run.left, ap length none, place))

  module _ (x more : List ℕ) (split : rest ≡ x ++ more) (two : length x ≡ 2) where
    abbrev first : Lit
    first = lit_of (field_at x 0)

    lits : lits_of rest ≡ first ∷ lits_of more
    lits = lits_first rest x more split two

    pub run_known : first.atom < (book_in s).atoms
    run_known = every_first (subst (Known (book_in s)) lits run.known)

    pub run_false : test first ≡ false → Some i ≡ failing_at test (lits_of all)
    run_false e =
        let place : first_failing test (lits_of rest) ≡ 0 = ap (first_failing test) lits ∙ failing_now test first (lits_of more) e in
        let size : length (lits_of rest) ≡ suc (length (lits_of more)) = ap length lits in
        some_fails test (lits_of all) i (omega (arith, run.left, place)) (omega (arith, run.count, size))

    pub run_true : test first ≡ true → Run s d all (i + 1) more
    run_true e =
        let place : first_failing test (lits_of rest) ≡ suc (first_failing test (lits_of more)) = ap (first_failing test) lits ∙ failing_later test first (lits_of more) e in
        let size : length (lits_of rest) ≡ suc (length (lits_of more)) = ap length lits in
        record {
          known = every_rest (subst (Known (book_in s)) lits run.known);
          count = omega (arith, run.count, size);
          left = omega (arith, run.left, place);
        }
