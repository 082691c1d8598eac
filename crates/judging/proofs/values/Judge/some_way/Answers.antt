-- `judging::values::Judge::some_way` meets its contract. Assumes nothing.
use Rattle.std.proofs.Common.{◌≡◌, ◌+◌, ◌*◌, ◌<◌, ℕ, Bool, List, sym, ap, subst, ◌∙◌, arith}
use Rattle.base.specs.paper.Lists.{any}
use Rattle.image.specs.paper.Book.{Lit}
use Rattle.image.specs.Accepted.{book_in}
use Rattle.image.specs.Sound.{Known}
use Rattle.meaning.specs.paper.Meaning.{true_in, all_true, value}
use Rattle.judging.specs.FailingLaws.{failing_at}
use Rattle.judging.specs.Notes.{Given, Ways, lits_of}
use Rattle.judging.proofs.Image.{part}
use Rattle.judging.proofs.Memo.{same_values, none_of, some_of}
use Rattle.judging.proofs.Constraint.{First, Tried, counted_part, tried_over, tried_first, tried_true, tried_false}
use Rattle.judging.proofs.values.Judge.some_way.Goals as goal

-- the alternative that is tried, of those that stand in the image as it was given
first : (s : List ℕ) (g : Given) → s ≡ g.image → (start end at : ℕ) (tried : Tried s g.set start end at) → (ways : (l : List (List Lit)) × Ways g.image start end l) → at < end
    → (rest : List (List Lit)) × First s at end rest
first s g e start end at tried ways more =
    let w : Ways s start end ways.0 = subst (λ (l : List ℕ). Ways l start end ways.0) (sym e) ways.1 in
    (_, tried_first s g.set start end at tried ways.0 w more)

pub slice_bounds-first_false-end : goal.slice_bounds-first_false-end
slice_bounds-first_false-end c =
    let f = first _ _ (ap (λ (g : Given). g.image) c.self.view_is) _ _ _ c.loop-at.invariant.1 c.requires c.loop-at-test.true in
    omega (arith, f.1.counted.within, f.1.counted.count, c.field_at.ensures.0)

pub first_false-requires : goal.first_false-requires
first_false-requires c =
    let image : c.self.inside.image.now ≡ c.args.self.now.image = ap (λ (g : Given). g.image) c.self.view_is in
    let f = first _ _ image _ _ _ c.loop-at.invariant.1 c.requires c.loop-at-test.true in
    let known : Known (book_in c.self.inside.image.now) (lits_of (part c.self.inside.image.now (c.loop-at.at + 2) (c.loop-at.at + 2 + 2 * c.field_at.result))) =
    subst (λ (ls : List Lit). Known (book_in c.self.inside.image.now) ls) (sym (counted_part _ _ _ _ f.1.counted c.field_at.ensures.0)) f.1.known in
    subst (λ (l : List ℕ). Known (book_in l) (lits_of (part c.self.inside.image.now (c.loop-at.at + 2) (c.loop-at.at + 2 + 2 * c.field_at.result))))
    (image ∙ sym (ap (λ (g : Given). g.image) c.loop-at.invariant.0)) known

pub returns-then-is_none-clause-met : goal.returns-then-is_none-clause-met
returns-then-is_none-clause-met c = λ ways w.
    let image : c.self.inside.image.now ≡ c.args.self.now.image = ap (λ (g : Given). g.image) c.self.view_is in
    let lits : List Lit = lits_of (part c.self.inside.image.now (c.loop-at.at + 2) (c.loop-at.at + 2 + 2 * c.field_at.result)) in
    let here : Ways c.self.inside.image.now c.args.start c.args.end ways = subst (λ (l : List ℕ). Ways l c.args.start c.args.end ways) (sym image) w in
    let told = ap (λ (f : ℕ → Bool). failing_at (true_in f) lits) (sym (same_values _ _ _ c.loop-at.invariant.0 image)) ∙ sym c.first_false.ensures.place ∙ none_of _ c.if-is_none.ensures in
    sym
    (ap (λ (l : List ℕ). any (all_true (value (book_in l) c.args.self.now.set)) ways) (sym image)
    ∙ tried_true _ _ _ _ _ c.loop-at.invariant.1 ways here c.loop-at-test.true _ c.field_at.ensures.0 told)

pub loop-at-preserved : goal.loop-at-preserved
loop-at-preserved c =
    let image : c.self.inside.image.now ≡ c.args.self.now.image = ap (λ (g : Given). g.image) c.self.view_is in
    let lits : List Lit = lits_of (part c.self.inside.image.now (c.loop-at.at + 2) (c.loop-at.at + 2 + 2 * c.field_at.result)) in
    let some = some_of _ c.if-is_none.ensures in
    let told = ap (λ (f : ℕ → Bool). failing_at (true_in f) lits) (sym (same_values _ _ _ c.loop-at.invariant.0 image)) ∙ sym c.first_false.ensures.place ∙ some.1 in (
      c.first_false.ensures.same ∙ c.loop-at.invariant.0,
      record { left = λ ways w. tried_false _ _ _ _ _ c.loop-at.invariant.1 ways w c.loop-at-test.true _ c.field_at.ensures.0 some.0 told },
    )

pub returns-clause-met : goal.returns-clause-met
returns-clause-met c = λ ways w.
    let image : c.self.inside.image.now ≡ c.args.self.now.image = ap (λ (g : Given). g.image) c.self.view_is in
    let here : Ways c.self.inside.image.now c.args.start c.args.end ways = subst (λ (l : List ℕ). Ways l c.args.start c.args.end ways) (sym image) w in
    sym
    (ap (λ (l : List ℕ). any (all_true (value (book_in l) c.args.self.now.set)) ways) (sym image)
    ∙ tried_over _ _ _ _ _ c.loop-at.invariant.1 ways here c.loop-at-test.false)
