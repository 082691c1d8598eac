-- `judging::values::Judge::first_broken` meets its contract. Assumes nothing.
use Rattle.std.proofs.Common.{◌≡◌, ℕ, Bool, List, refl, sym, ap, subst, ◌∙◌, arith}
use Rattle.image.specs.paper.Book.{Constraint}
use Rattle.image.specs.Spell.{Stands, of_constraint}
use Rattle.image.specs.Accepted.{book_in}
use Rattle.image.specs.Places.{shows}
use Rattle.meaning.specs.paper.Meaning.{value, holds}
use Rattle.base.specs.paper.Lists.{◌∈◌}
use Rattle.judging.specs.FailingLaws.{failing_at}
use Rattle.judging.specs.Notes.{Given}
use Rattle.judging.proofs.Memo.{same_values}
use Rattle.judging.proofs.Constraint.{held_start, held_over, held_here, held_within, held_false, held_true}
use Rattle.judging.proofs.values.Judge.first_broken.Goals as goal

-- what is said of the constraint at a place in the image as it was given
says : (s : List ℕ) (g h : Given) → g ≡ h → s ≡ h.image → (place : ℕ) (r : Bool)
    → ((k : Constraint) → k ∈ (book_in g.image).constraints → Stands g.image place (of_constraint k) → r ≡ holds (value (book_in g.image) g.set) k)
    → (k : Constraint) → k ∈ (book_in s).constraints → Stands s place (of_constraint k) → r ≡ holds (value (book_in s) h.set) k
says s g h e f place r told k m p =
    let same : s ≡ g.image = f ∙ sym (ap (λ (x : Given). x.image) e) in
    told k (subst (λ (l : List ℕ). k ∈ (book_in l).constraints) same m) (subst (λ (l : List ℕ). Stands l place (of_constraint k)) same p)
    ∙ ap (λ (v : ℕ → Bool). holds v k) (same_values g h s e f)

pub overflow_add-place : goal.overflow_add-place
overflow_add-place c = omega (arith, (shows _ c.self.invariant.book).fits, c.constraints-counted.ensures, c.self.told)

pub field_at-i-end-requires : goal.field_at-i-end-requires
field_at-i-end-requires c = omega (arith, (shows _ c.self.invariant.book).fits, c.constraints-counted.ensures)

pub loop-i-init : goal.loop-i-init
loop-i-init c = (refl, held_start _ c.self.invariant.book _ _ _ c.constraints-counted.ensures c.field_at-i-end.ensures.0)

pub holds-requires : goal.holds-requires
holds-requires c =
    let same : c.self.inside.image.now ≡ c.loop-i.self.image = ap (λ (g : Given). g.image) c.self.view_is ∙ sym (ap (λ (g : Given). g.image) c.loop-i.invariant.0) in
    let k = held_here _ c.self.invariant.book _ _ _ _ c.loop-i.invariant.1 c.loop-i-test.true in
    (k.0, subst (λ (l : List ℕ). k.0 ∈ (book_in l).constraints) same k.1, subst (λ (l : List ℕ). Stands l c.loop-i.place (of_constraint k.0)) same k.2)

pub returns-then-not-holds-clause-place : goal.returns-then-not-holds-clause-place
returns-then-not-holds-clause-place c =
    let image : c.self.inside.image.now ≡ c.args.self.now.image = ap (λ (g : Given). g.image) c.self.view_is in
    let told = says c.self.inside.image.now _ _ c.loop-i.invariant.0 image _ _ c.holds.ensures.held in
    held_false _ c.self.invariant.book _ _ _ _ c.loop-i.invariant.1 c.loop-i-test.true _ told c.if-not-holds.true
    ∙ ap (λ (l : List ℕ). failing_at (holds (value (book_in l) c.args.self.now.set)) (book_in l).constraints) image

pub returns-then-not-holds-clause-same : goal.returns-then-not-holds-clause-same
returns-then-not-holds-clause-same c = c.holds.ensures.same ∙ c.loop-i.invariant.0

pub overflow_add-place-in-loop-i : goal.overflow_add-place-in-loop-i
overflow_add-place-in-loop-i c = omega (arith, held_within _ c.self.invariant.book _ _ _ _ c.loop-i.invariant.1 c.loop-i-test.true, c.self.told)

pub field_at-requires : goal.field_at-requires
field_at-requires c = omega (arith, held_within _ c.self.invariant.book _ _ _ _ c.loop-i.invariant.1 c.loop-i-test.true)

pub overflow_add-place-in-loop-i-2 : goal.overflow_add-place-in-loop-i-2
overflow_add-place-in-loop-i-2 c =
    omega (arith, held_within _ c.self.invariant.book _ _ _ _ c.loop-i.invariant.1 c.loop-i-test.true, c.field_at.ensures.0, c.self.told)

pub loop-i-preserved : goal.loop-i-preserved
loop-i-preserved c =
    let image : c.self.inside.image.now ≡ c.args.self.now.image = ap (λ (g : Given). g.image) c.self.view_is in
    let told = says c.self.inside.image.now _ _ c.loop-i.invariant.0 image _ _ c.holds.ensures.held in (
      c.holds.ensures.same ∙ c.loop-i.invariant.0,
      held_true _ c.self.invariant.book _ _ _ _ c.loop-i.invariant.1 c.loop-i-test.true _ told _ c.field_at.ensures.0 c.if-not-holds.false,
    )

pub returns-clause-place : goal.returns-clause-place
returns-clause-place c =
    let image : c.self.inside.image.now ≡ c.args.self.now.image = ap (λ (g : Given). g.image) c.self.view_is in
    held_over _ c.self.invariant.book _ _ _ _ c.loop-i.invariant.1 (omega (arith, c.loop-i.auto.i-end, c.loop-i-test.false))
    ∙ ap (λ (l : List ℕ). failing_at (holds (value (book_in l) c.args.self.now.set)) (book_in l).constraints) image

pub returns-clause-same : goal.returns-clause-same
returns-clause-same c = c.loop-i.invariant.0
