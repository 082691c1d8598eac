-- `image::front::constraints` meets its contract. Assumes nothing.
use Prim.Native.Nat.{ℕ, ◌+◌, ◌≤◌, ◌<◌}
use lib.ListN.{length}
use mathlib.Core.List.{List}
use mathlib.Core.Path.{◌≡◌, ap, ◌∙◌}
use native.Mathlib.Omega.{arith}
use Rattle.image.specs.paper.Walk.{field_at}
use Rattle.image.specs.Places.{shows, clause_within, place_next, clauses_fit}
use Rattle.image.specs.Accepted.{IsBook}
use Rattle.image.specs.Shown.{clause_place, clause_count_at, constraint_count_at, skip, shown_front}
use Rattle.image.proofs.front.constraints.Goals as goal

pub clauses-counted-requires : goal.clauses-counted-requires
clauses-counted-requires c = shown_front (shows _ c.requires)

pub field_at-count-requires : goal.field_at-count-requires
field_at-count-requires c = omega (arith, clauses_fit c.args.image.now c.requires, c.clauses-counted.ensures)

pub overflow_add-place : goal.overflow_add-place
overflow_add-place c = omega (arith, clauses_fit c.args.image.now c.requires, c.clauses-counted.ensures, c.well_formed.0.0)

pub loop-init : goal.loop-init
unfolding skip
loop-init c = ap (λ (k : ℕ). k + 2) c.clauses-counted.ensures

-- the record that is skipped lies within the image
within : (s : List ℕ) (book : IsBook s) (counted count at i : ℕ) → counted ≡ clause_count_at s → count ≡ field_at s counted
    → at ≡ clause_place s i → i < count → at + 2 + field_at s at ≤ length s
within s book counted count at i is_counted is_count is_at less = clause_within s book count at i (is_count ∙ ap (field_at s) is_counted) is_at less

pub field_at-requires : goal.field_at-requires
field_at-requires c =
    omega (arith, within _ c.requires _ _ _ _ c.clauses-counted.ensures c.field_at-count.ensures.0 c.loop.invariant c.loop-test.true)

pub overflow_add-place-in-loop-2 : goal.overflow_add-place-in-loop-2
overflow_add-place-in-loop-2 c =
    omega (
      arith,
      within _ c.requires _ _ _ _ c.clauses-counted.ensures c.field_at-count.ensures.0 c.loop.invariant c.loop-test.true,
      c.field_at.ensures.0,
      c.well_formed.0.0,
    )

pub loop-preserved : goal.loop-preserved
loop-preserved c = omega (arith, place_next _ _ _ _ _ c.loop.invariant c.field_at.ensures.0)

pub returns : goal.returns
unfolding constraint_count_at
returns c =
    let s = c.args.image.now in
    let all : c.loop.counter ≡ c.field_at-count.result = omega arith in
    c.loop.invariant ∙ ap (clause_place s) (all ∙ c.field_at-count.ensures.0 ∙ ap (field_at s) c.clauses-counted.ensures)
