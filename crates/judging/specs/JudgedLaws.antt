-- The judge's promise fixes its answer, and the answer says what is so in words of the meaning.
-- Assumes nothing.
use Rattle.std.specs.Prelude.{ℕ, ◌^◌, ◌≡◌, Bool, ◌↔◌, List, length, Result, Ok, Err}
use Rattle.std.proofs.Math.Path.{refl, sym, ap}
use Rattle.std.proofs.Common.{subst, ap₂, ◌∙◌, inl, inr, ⊎_elim, arith, not-le_of_lt, leb-true, leb-false, ltb-true, ltb-false, lt-ltb, le-ltb}
use Rattle.std.proofs.Math.Bool.{true, false}
use Rattle.std.proofs.Math.Dec.{leb, ltb}
use Rattle.std.proofs.lemmas.Bool.{lt-leb}
use Rattle.base.specs.paper.Bools.{choose}
use Rattle.base.specs.Bools.{choose_true, choose_false, decide, both, both_left, both_right}
use Rattle.base.specs.paper.Lists.{all}
use Rattle.sets.specs.SetLaws.{within_has, has_within}
use Rattle.image.specs.paper.Book.{Lit, Constraint, Book}
use Rattle.image.specs.paper.Decode.{Decoded, accepted, refused, decode}
use Rattle.meaning.specs.paper.Meaning.{true_in, all_true, value, holds, explains, Members}
use Rattle.image.proofs.Accepted.{orderly}
use Rattle.judging.specs.FailingLaws.{failing_first, first_failing_lem, failing_all, all_failing}
use Rattle.meaning.specs.paper.Completion.{Answer}
use Rattle.meaning.proofs.Entailed.{answer_explains}
use Rattle.image.specs.paper.Refusals.{number_of}
use Rattle.image.specs.RefusalLaws.{number_tells}
use Rattle.image.specs.declared.refusals.Refusal.{Refusal}
use Rattle.judging.specs.declared.Judgement.{Judgement as Found}
use Rattle.judging.specs.declared.Judgement.TheVariants as found
use Rattle.judging.specs.declared.NoJudgement.{NoJudgement}
use Rattle.judging.specs.declared.NoJudgement.TheVariants as none
use Rattle.judging.specs.paper.Judged.{Judgement, Explains, FalseGoal, BrokenConstraint, Broken, Refused, judgement, first_false, first_broken, judged_book, judged_of, judged, Judges, Means, Said}

-- two answers that meet the promise are equal
pub judges_unique : (s : List ℕ) (d : ℕ) (q r : Judgement) → Judges s d q → Judges s d r → q ≡ r
judges_unique s d q r h k = h.answer ∙ sym k.answer

-- what `judge` returns is told by its judgement, so two of its results that meet the promise are equal too
judgement_tells : (q r : Result Found NoJudgement) → judgement q ≡ judgement r → q ≡ r
judgement_tells (Ok found.Explains) (Ok found.Explains) e = refl
judgement_tells (Ok found.Explains) (Ok (found.FalseGoal j)) e = cc
judgement_tells (Ok found.Explains) (Ok (found.BrokenConstraint j)) e = cc
judgement_tells (Ok found.Explains) (Err (none.Broken g)) e = cc
judgement_tells (Ok found.Explains) (Err (none.Refused b)) e = cc
judgement_tells (Ok (found.FalseGoal i)) (Ok found.Explains) e = cc
judgement_tells (Ok (found.FalseGoal i)) (Ok (found.FalseGoal j)) e = cc
judgement_tells (Ok (found.FalseGoal i)) (Ok (found.BrokenConstraint j)) e = cc
judgement_tells (Ok (found.FalseGoal i)) (Err (none.Broken g)) e = cc
judgement_tells (Ok (found.FalseGoal i)) (Err (none.Refused b)) e = cc
judgement_tells (Ok (found.BrokenConstraint i)) (Ok found.Explains) e = cc
judgement_tells (Ok (found.BrokenConstraint i)) (Ok (found.FalseGoal j)) e = cc
judgement_tells (Ok (found.BrokenConstraint i)) (Ok (found.BrokenConstraint j)) e = cc
judgement_tells (Ok (found.BrokenConstraint i)) (Err (none.Broken g)) e = cc
judgement_tells (Ok (found.BrokenConstraint i)) (Err (none.Refused b)) e = cc
judgement_tells (Err (none.Broken f)) (Ok found.Explains) e = cc
judgement_tells (Err (none.Broken f)) (Ok (found.FalseGoal j)) e = cc
judgement_tells (Err (none.Broken f)) (Ok (found.BrokenConstraint j)) e = cc
judgement_tells (Err (none.Broken f)) (Err (none.Broken g)) e =
    let number : number_of f.refusal ≡ number_of g.refusal = cc in
    let place : f.place ≡ g.place = cc in
    ap₂ (λ (r : Refusal) (p : ℕ). Err (none.Broken (record { refusal = r; place = p }))) (number_tells _ _ number) place
judgement_tells (Err (none.Broken f)) (Err (none.Refused b)) e = cc
judgement_tells (Err (none.Refused a)) (Ok found.Explains) e = cc
judgement_tells (Err (none.Refused a)) (Ok (found.FalseGoal j)) e = cc
judgement_tells (Err (none.Refused a)) (Ok (found.BrokenConstraint j)) e = cc
judgement_tells (Err (none.Refused a)) (Err (none.Broken g)) e = cc
judgement_tells (Err (none.Refused a)) (Err (none.Refused b)) e =
    let number : number_of a ≡ number_of b = cc in
    ap (λ (r : Refusal). Err (none.Refused r)) (number_tells _ _ number)

pub results_unique : (s : List ℕ) (d : ℕ) (q r : Result Found NoJudgement) → Judges s d (judgement q) → Judges s d (judgement r) → q ≡ r
results_unique s d q r h k = judgement_tells q r (judges_unique s d _ _ h k)

module _ (book : Book) (set : ℕ) where
  abbrev goals : List Lit
  goals = book.goal

  abbrev constraints : List Constraint
  constraints = book.constraints

  abbrev is_true : Lit → Bool
  is_true = true_in (value book set)

  abbrev is_held : Constraint → Bool
  is_held = holds (value book set)

  -- the last two tests of the answer
  abbrev after_goal : Judgement
  after_goal = choose (ltb (first_broken book set) (length constraints)) (BrokenConstraint (first_broken book set)) Explains

  abbrev after_set : Judgement
  after_set = choose (ltb (first_false book set) (length goals)) (FalseGoal (first_false book set)) after_goal

  -- the answer says what is so
  pub judged_so : Means book set (judged_book book set)
  unfolding judged_book
  judged_so = of_set (leb (2 ^ book.abducibles) set) refl
    where
      rule : Members book set → all_true (value book set) goals ≡ true → (t : Bool) → ltb (first_broken book set) (length constraints) ≡ t
          → Means book set (choose t (BrokenConstraint (first_broken book set)) Explains)
      rule m g true e = (m, g, failing_first is_held constraints (ltb-true (first_broken book set) (length constraints) e))
      rule m g false e =
          (m, both (all_true (value book set) goals) (all is_held constraints) g (failing_all is_held constraints (ltb-false (first_broken book set) (length constraints) e)))

      goal : Members book set → (t : Bool) → ltb (first_false book set) (length goals) ≡ t → Means book set (choose t (FalseGoal (first_false book set)) after_goal)
      goal m true e = (m, failing_first is_true goals (ltb-true (first_false book set) (length goals) e))
      goal m false e = rule m (failing_all is_true goals (ltb-false (first_false book set) (length goals) e)) (ltb (first_broken book set) (length constraints)) refl

      of_set : (t : Bool) → leb (2 ^ book.abducibles) set ≡ t → Means book set (choose t (Refused 23) after_set)
      of_set true e = (refl, λ m. not-le_of_lt (has_within set book.abducibles m) (leb-true (2 ^ book.abducibles) set e))
      of_set false e = goal (within_has set book.abducibles (leb-false (2 ^ book.abducibles) set e)) (ltb (first_false book set) (length goals)) refl

  within : Members book set → leb (2 ^ book.abducibles) set ≡ false
  within m = lt-leb (2 ^ book.abducibles) set (has_within set book.abducibles m)

  goal_true : all_true (value book set) goals ≡ true → ltb (first_false book set) (length goals) ≡ false
  goal_true e = le-ltb (first_false book set) (length goals) (all_failing is_true goals e)

  -- an answer that says what is so is the answer
  pub so_judged : (r : Judgement) → Means book set r → r ≡ judged_book book set
  unfolding judged_book
  so_judged Explains h =
      let g : all_true (value book set) goals ≡ true = both_left (all_true (value book set) goals) (all is_held constraints) h.1 in
      let k : all is_held constraints ≡ true = both_right (all_true (value book set) goals) (all is_held constraints) h.1 in
      sym
      (choose_false (Refused 23) after_set (within h.0)
      ∙ choose_false (FalseGoal (first_false book set)) after_goal (goal_true g)
      ∙ choose_false (BrokenConstraint (first_broken book set)) Explains (le-ltb (first_broken book set) (length constraints) (all_failing is_held constraints k)))
  so_judged (FalseGoal i) h =
      let f = first_failing_lem is_true goals i h.1 in
      ap FalseGoal (sym f.0)
      ∙ sym
      (choose_false (Refused 23) after_set (within h.0)
      ∙ choose_true (FalseGoal (first_false book set)) after_goal (lt-ltb (first_false book set) (length goals) (omega (arith, f.0, f.1))))
  so_judged (BrokenConstraint i) h =
      let f = first_failing_lem is_held constraints i h.2 in
      ap BrokenConstraint (sym f.0)
      ∙ sym
      (choose_false (Refused 23) after_set (within h.0)
      ∙ choose_false (FalseGoal (first_false book set)) after_goal (goal_true h.1)
      ∙ choose_true (BrokenConstraint (first_broken book set)) Explains (lt-ltb (first_broken book set) (length constraints) (omega (arith, f.0, f.1))))
  so_judged (Broken n at) h = absurd h
  so_judged (Refused n) h =
      ap Refused h.0
      ∙ sym
      (choose_true (Refused 23) after_set
      (⊎_elim (λ e. e)
      (λ (e : leb (2 ^ book.abducibles) set ≡ false). absurd (h.1 (within_has set book.abducibles (leb-false (2 ^ book.abducibles) set e))))
      (decide (leb (2 ^ book.abducibles) set))))

-- An answer is the judge's exactly if it says what is so.
pub judged_means : (s : List ℕ) (d : ℕ) (r : Judgement) → (r ≡ judged s d) ↔ Said s d r
unfolding judged
judged_means s d r = (λ h. mp (decode s) refl h, mpr)
  where
    mp : (x : Decoded) → decode s ≡ x → r ≡ judged_of x d → Said s d r
    mp (accepted b) e h = inr (b, e, subst (Means b d) (sym h) (judged_so b d))
    mp (refused n at) e h = inl (n, at, e, h)

    mpr : Said s d r → r ≡ judged_of (decode s) d
    mpr (inl h) = h.3 ∙ sym (ap (λ (x : Decoded). judged_of x d) h.2)
    mpr (inr h) = so_judged h.0 d r h.2 ∙ sym (ap (λ (x : Decoded). judged_of x d) h.1)

-- It answers that the set explains exactly if the image is accepted, the members are abducibles of its book, and they explain.
pub judged_explains : (s : List ℕ) (d : ℕ) → (judged s d ≡ Explains) ↔ ((b : Book) × (decode s ≡ accepted b) × Members b d × (explains b d ≡ true))
judged_explains s d = (λ h. mp ((judged_means s d Explains).0 (sym h)), λ h. sym ((judged_means s d Explains).1 (inr (h.0, h.1, (h.2, h.3)))))
  where
    mp : Said s d Explains → (b : Book) × (decode s ≡ accepted b) × Members b d × (explains b d ≡ true)
    mp (inl h) = let no : ◌≡◌ {A = ℕ} 0 1 = cc h.3 in absurd (omega arith)
    mp (inr h) = (h.0, h.1, h.2.0, h.2.1)

-- So it answers exactly by Fung and Kowalski's meaning.
pub judged_answer : (s : List ℕ) (d : ℕ) → (judged s d ≡ Explains) ↔ ((b : Book) × (decode s ≡ accepted b) × Members b d × Answer b d)
judged_answer s d = (
  λ h.
      let e = (judged_explains s d).0 h in
      (e.0, e.1, e.2, (answer_explains e.0 (orderly s e.0 e.1) d).1 e.3),
  λ h. (judged_explains s d).1 (h.0, h.1, h.2, (answer_explains h.0 (orderly s h.0 h.1) d).0 h.3),
)
