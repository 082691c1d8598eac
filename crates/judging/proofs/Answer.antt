-- The ways to the judge's answer, by the tests that its code makes.
-- Assumes nothing.
use Prim.Native.Nat.{ℕ, ◌+◌, ◌*◌, ◌^◌, ◌<◌}
use mathlib.Core.Path.{◌≡◌, refl, sym, ap, subst, ◌∙◌}
use mathlib.Core.Bool.{Bool, true, false}
use mathlib.Core.List.{List}
use native.Mathlib.Omega.{arith}
use lib.Dec.{leb, ltb}
use lib.ListN.{length}
use borrow.Author.Tests.{lt-ltb, le-ltb}
use Rattle.base.specs.paper.Bools.{choose}
use Rattle.base.specs.Bools.{choose_true, choose_false}
use Rattle.image.specs.paper.Book.{Lit, Book}
use Rattle.image.specs.Sound.{Known}
use Rattle.image.specs.paper.Walk.{field_at}
use Rattle.image.specs.paper.Decode.{Decoded, refused, decode}
use Rattle.image.specs.Accepted.{book_in, IsBook, within}
use Rattle.image.proofs.Accepted.{orderly}
use Rattle.meaning.specs.paper.Meaning.{true_in, value, holds}
use Rattle.std.specs.Prelude.{Option, Some, None}
use Rattle.judging.specs.FailingLaws.{failing_at, fails_some, fails_none}
use Rattle.judging.specs.paper.Judged.{Judgement, Explains, FalseGoal, BrokenConstraint, Broken, Refused, first_false, first_broken, judged_book, judged_of, judged, Judges}
use Rattle.judging.specs.Notes.{lits_of}
use Rattle.image.specs.Shown.{clause_count_at, abducibles_at, goals_at, goal_at}
use Rattle.image.specs.Places.{shows}
use Rattle.judging.proofs.Image.{lits_stand, part}
use Rattle.judging.proofs.Constraint.{Counted, counted_part}

-- ---- the goal

pub goal_counted : (s : List ℕ) → IsBook s → Counted s goals_at (book_in s).goal
goal_counted s e =
    let sh = shows s e in
    let n : field_at s goals_at ≡ length (book_in s).goal = sh.goals in
    record {
      count = n;
      within = omega (arith, sh.front, sh.fits);
      lits = lits_stand s (goal_at + 2 * field_at s goals_at) goal_at (book_in s).goal sh.goal (omega arith);
    }

-- the part of the image behind the goal count, to the clause count
goal_part : (s : List ℕ) → IsBook s → (behind : ℕ) → behind ≡ clause_count_at s → lits_of (part s goal_at behind) ≡ (book_in s).goal
unfolding clause_count_at
goal_part s e behind q =
    ap (λ (k : ℕ). lits_of (part s goal_at k)) q ∙ counted_part s goals_at (book_in s).goal (field_at s goals_at) (goal_counted s e) refl

pub goal_known : (s : List ℕ) → IsBook s → (behind : ℕ) → behind ≡ clause_count_at s → Known (book_in s) (lits_of (part s goal_at behind))
goal_known s e behind q = subst (λ (ls : List Lit). Known (book_in s) ls) (sym (goal_part s e behind q)) (orderly s (book_in s) e).goal_known

-- a place among the goal's literals, and among the constraints, is a small number
pub place_in_goal : (s : List ℕ) → IsBook s → (v : ℕ → Bool) (behind : ℕ) → behind ≡ clause_count_at s → (i : ℕ) → Some i ≡ failing_at (true_in v) (lits_of (part s goal_at behind)) → i < 16
place_in_goal s e v behind q i h =
    let f = fails_some (true_in v) (book_in s).goal i (ap (failing_at (true_in v)) (sym (goal_part s e behind q)) ∙ sym h) in
    omega (arith, f.1, (within s (book_in s) e).goal)

pub place_in_constraints : (s : List ℕ) → IsBook s → (v : ℕ → Bool) (i : ℕ) → Some i ≡ failing_at (holds v) (book_in s).constraints → i < 128
place_in_constraints s e v i h = omega (arith, (fails_some (holds v) (book_in s).constraints i (sym h)).1, (within s (book_in s) e).constraints)

-- ---- an accepted image

module _ (s : List ℕ) (accepts : IsBook s) (d abducibles : ℕ) (r : Bool) (e : abducibles ≡ field_at s abducibles_at) (f : r ≡ leb (2 ^ abducibles) d) where
  abbrev b : Book
  b = book_in s

  named : leb (2 ^ b.abducibles) d ≡ r
  named = ap (λ (n : ℕ). leb (2 ^ n) d) (sym (e ∙ (shows s accepts).abducibles)) ∙ sym f

  abbrev after_goal : Judgement
  after_goal = choose (ltb (first_broken b d) (length b.constraints)) (BrokenConstraint (first_broken b d)) Explains

  abbrev after_set : Judgement
  after_set = choose (ltb (first_false b d) (length b.goal)) (FalseGoal (first_false b d)) after_goal

  pub answers_above : r ≡ true → Refused 23 ≡ judged_book b d
  unfolding judged_book
  answers_above h = sym (choose_true (Refused 23) after_set (named ∙ h))

  module _ (h : r ≡ false) (behind : ℕ) (q : behind ≡ clause_count_at s) where
    -- by the goal's literals
    goal_at_fault : (f : Option ℕ) → f ≡ failing_at (true_in (value b d)) (lits_of (part s goal_at behind)) → failing_at (true_in (value b d)) b.goal ≡ f
    goal_at_fault f g = ap (failing_at (true_in (value b d))) (sym (goal_part s accepts behind q)) ∙ sym g

    pub answers_goal : (place : ℕ) → Some place ≡ failing_at (true_in (value b d)) (lits_of (part s goal_at behind)) → FalseGoal place ≡ judged_book b d
    unfolding judged_book
    answers_goal place g =
        let f = fails_some (true_in (value b d)) b.goal place (goal_at_fault (Some place) g) in
        ap FalseGoal (sym f.0)
        ∙ sym
        (choose_false (Refused 23) after_set (named ∙ h)
        ∙ choose_true (FalseGoal (first_false b d)) after_goal (lt-ltb (first_false b d) (length b.goal) (omega (arith, f.0, f.1))))

    module _ (g : None ≡ failing_at (true_in (value b d)) (lits_of (part s goal_at behind))) where
      goal_true : judged_book b d ≡ after_goal
      unfolding judged_book
      goal_true =
          choose_false (Refused 23) after_set (named ∙ h)
          ∙ choose_false (FalseGoal (first_false b d)) after_goal
          (le-ltb (first_false b d) (length b.goal) (fails_none (true_in (value b d)) b.goal (goal_at_fault None g)))

      pub answers_constraint : (place : ℕ) → Some place ≡ failing_at (holds (value b d)) b.constraints → BrokenConstraint place ≡ judged_book b d
      answers_constraint place k =
          let f = fails_some (holds (value b d)) b.constraints place (sym k) in
          ap BrokenConstraint (sym f.0)
          ∙ sym (goal_true ∙ choose_true (BrokenConstraint (first_broken b d)) Explains (lt-ltb (first_broken b d) (length b.constraints) (omega (arith, f.0, f.1))))

      pub answers_explains : None ≡ failing_at (holds (value b d)) b.constraints → Explains ≡ judged_book b d
      answers_explains k =
          sym
          (goal_true
          ∙ choose_false (BrokenConstraint (first_broken b d)) Explains
          (le-ltb (first_broken b d) (length b.constraints) (fails_none (holds (value b d)) b.constraints (sym k))))

-- ---- what the reader found

pub refused_judged : (s : List ℕ) (d n at : ℕ) → decode s ≡ refused n at → Judges s d (Broken n at)
unfolding judged
refused_judged s d n at e = record { answer = sym (ap (λ (x : Decoded). judged_of x d) e) }

pub accepted_judged : (s : List ℕ) (d : ℕ) (r : Judgement) → IsBook s → r ≡ judged_book (book_in s) d → Judges s d r
unfolding judged
accepted_judged s d r e h = record { answer = h ∙ sym (ap (λ (x : Decoded). judged_of x d) e) }
