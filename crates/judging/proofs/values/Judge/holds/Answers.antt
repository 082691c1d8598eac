-- `judging::values::Judge::holds` meets its contract. Assumes nothing.
use Rattle.std.proofs.Common.{◌≡◌, ◌+◌, ◌*◌, ℕ, Bool, List, refl, sym, ap, subst, ◌∙◌, arith}
use Rattle.base.specs.paper.Lists.{◌∈◌, any}
use Rattle.image.specs.paper.Book.{Lit, Constraint}
use Rattle.image.specs.Spell.{Stands, of_constraint}
use Rattle.image.specs.Accepted.{IsBook, book_in}
use Rattle.image.specs.Sound.{Known}
use Rattle.meaning.specs.paper.Meaning.{true_in, all_true, value, holds}
use Rattle.judging.specs.FailingLaws.{failing_at}
use Rattle.judging.specs.Notes.{Given, Ways, lits_of}
use Rattle.judging.proofs.Image.{part}
use Rattle.judging.proofs.Memo.{same_values, none_of, some_of}
use Rattle.judging.proofs.Constraint.{Standing, standing, counted_part, standing_false, standing_true, standing_ways}
use Rattle.judging.proofs.values.Judge.holds.Goals as goal

-- the constraint that stands at the place in the image as it was given
here : (s : List ℕ) → IsBook s → (g : Given) → s ≡ g.image → (place : ℕ) (k : Constraint) → k ∈ (book_in g.image).constraints → Stands g.image place (of_constraint k) → Standing s place k
here s book g e place k m h =
    standing s book place k (subst (λ (l : List ℕ). k ∈ (book_in l).constraints) (sym e) m) (subst (λ (l : List ℕ). Stands l place (of_constraint k)) (sym e) h)

-- the literals of its conditions
abbrev conditions : (s : List ℕ) → ℕ → ℕ → List Lit
conditions s place count = lits_of (part s (place + 2 + 2) (place + 2 + 2 + 2 * count))

pub field_at-requires-2 : goal.field_at-requires-2
field_at-requires-2 c =
    let k = here _ c.self.invariant.book c.args.self.now (ap (λ (g : Given). g.image) c.self.view_is) _ _ c.requires.1 c.requires.2 in
    omega (arith, k.middle, k.within)

pub slice_bounds-first_false-end : goal.slice_bounds-first_false-end
slice_bounds-first_false-end c =
    let k = here _ c.self.invariant.book c.args.self.now (ap (λ (g : Given). g.image) c.self.view_is) _ _ c.requires.1 c.requires.2 in
    omega (arith, k.middle, k.within, c.field_at-2.ensures.0)

pub first_false-requires : goal.first_false-requires
first_false-requires c =
    let image : c.self.inside.image.now ≡ c.args.self.now.image = ap (λ (g : Given). g.image) c.self.view_is in
    let k = here _ c.self.invariant.book c.args.self.now image _ _ c.requires.1 c.requires.2 in
    subst (λ (l : List ℕ). Known (book_in l) (conditions c.self.inside.image.now c.args.place c.field_at-2.result)) image
    (subst (λ (ls : List Lit). Known (book_in c.self.inside.image.now) ls) (sym (counted_part _ _ _ _ k.conditions c.field_at-2.ensures.0)) k.known)

pub some_way-requires : goal.some_way-requires
some_way-requires c =
    let image : c.self.inside.image.now ≡ c.args.self.now.image = ap (λ (g : Given). g.image) c.self.view_is in
    let k = here _ c.self.invariant.book c.args.self.now image _ _ c.requires.1 c.requires.2 in
    let from : ℕ = c.args.place + 2 + 2 + 2 * c.field_at-2.result in
    let to : ℕ = c.args.place + 2 + c.field_at.result in
    (_, subst (λ (l : List ℕ). Ways l from to c.requires.0.alternatives) (image ∙ sym (ap (λ (g : Given). g.image) c.first_false.ensures.same)) (standing_ways _ _ _ k _ _ c.field_at-2.ensures.0 c.field_at.ensures.0))

pub returns-then-is_some-clause-held : goal.returns-then-is_some-clause-held
returns-then-is_some-clause-held c = λ k m h.
    let image : c.self.inside.image.now ≡ c.args.self.now.image = ap (λ (g : Given). g.image) c.self.view_is in
    let lits : List Lit = conditions c.self.inside.image.now c.args.place c.field_at-2.result in
    let some = some_of _ (sym c.if-is_some.ensures) in
    let told = ap (λ (f : ℕ → Bool). failing_at (true_in f) lits) (sym (same_values c.args.self.now c.args.self.now _ refl image)) ∙ sym c.first_false.ensures.place ∙ some.1 in
    c.if-is_some.true
    ∙ sym
    (ap (λ (l : List ℕ). holds (value (book_in l) c.args.self.now.set) k) (sym image)
    ∙ standing_false _ _ _ k (here _ c.self.invariant.book c.args.self.now image _ k m h) _ c.field_at-2.ensures.0 some.0 told)

pub returns-else-is_some-clause-held : goal.returns-else-is_some-clause-held
returns-else-is_some-clause-held c = λ k m h.
    let image : c.self.inside.image.now ≡ c.args.self.now.image = ap (λ (g : Given). g.image) c.self.view_is in
    let same : c.first_false.new.self ≡ c.args.self.now = c.first_false.ensures.same in
    let lits : List Lit = conditions c.self.inside.image.now c.args.place c.field_at-2.result in
    let stands = here _ c.self.invariant.book c.args.self.now image _ k m h in
    let from : ℕ = c.args.place + 2 + 2 + 2 * c.field_at-2.result in
    let to : ℕ = c.args.place + 2 + c.field_at.result in
    let told = ap (λ (f : ℕ → Bool). failing_at (true_in f) lits) (sym (same_values c.args.self.now c.args.self.now _ refl image)) ∙ sym c.first_false.ensures.place ∙ none_of _ (sym c.if-is_some.ensures) in
    let ways : Ways c.first_false.new.self.image from to k.alternatives =
    subst (λ (l : List ℕ). Ways l from to k.alternatives) (image ∙ sym (ap (λ (g : Given). g.image) same)) (standing_ways _ _ _ stands _ _ c.field_at-2.ensures.0 c.field_at.ensures.0) in
    c.some_way.ensures.met _ ways
    ∙ ap (λ (f : ℕ → Bool). any (all_true f) k.alternatives) (same_values _ _ _ same image)
    ∙ sym
    (ap (λ (l : List ℕ). holds (value (book_in l) c.args.self.now.set) k) (sym image)
    ∙ standing_true _ _ _ k stands _ c.field_at-2.ensures.0 told)
