-- `loops::clauses::Clauses::of` meets its contract. Assumes nothing.
use Prim.Native.Nat.{ℕ, ◌+◌, ◌-◌}
use mathlib.Core.List.{List}
use mathlib.Core.Path.{◌≡◌, ap, ap₂, ◌∙◌}
use lib.ListN.{length, take, drop}
use native.Mathlib.Omega.{arith}
use Rattle.std.proofs.lemmas.List.{take_rest}
use Rattle.image.specs.paper.Walk.{field_at}
use Rattle.image.specs.Shown.{shown_front, shown_clauses, clause_count_at}
use Rattle.loops.specs.Records.{recorded, clauses_in, found_ready, ready_recorded, ready_clauses}
use Rattle.loops.proofs.clauses.Clauses.of.Goals as goal

-- what is left behind the clause count, and how many records that says
left : (s : List ℕ) (at : ℕ) → at ≡ clause_count_at s → take (length s - (at + 2)) (drop (at + 2) s) ≡ drop (clause_count_at s + 2) s
left s at e = take_rest s (at + 2) ∙ ap (λ (k : ℕ). drop (k + 2) s) e

pub clauses-at-requires : goal.clauses-at-requires
clauses-at-requires c = shown_front (found_ready _ _ _ c.requires.2).shown

pub overflow_add-result : goal.overflow_add-result
overflow_add-result c = omega (arith, shown_clauses (found_ready _ _ _ c.requires.2).shown, c.clauses-at.ensures, c.well_formed.0.0)

pub slice_bounds-result-count : goal.slice_bounds-result-count
slice_bounds-result-count c = omega (arith, shown_clauses (found_ready _ _ _ c.requires.2).shown, c.clauses-at.ensures)

pub slice_bounds-result-start : goal.slice_bounds-result-start
slice_bounds-result-start c = omega (arith, shown_clauses (found_ready _ _ _ c.requires.2).shown, c.clauses-at.ensures)

pub field_at-requires : goal.field_at-requires
field_at-requires c = omega (arith, shown_clauses (found_ready _ _ _ c.requires.2).shown, c.clauses-at.ensures)

pub atoms-requires : goal.atoms-requires
atoms-requires c = shown_front (found_ready _ _ _ c.requires.2).shown

pub invariant_of-result : goal.invariant_of-result
invariant_of-result c =
    let r = found_ready _ _ _ c.requires.2 in
    let atoms = c.atoms.ensures.0 ∙ r.shown.atoms in
    let at = c.clauses-at.ensures in
    record {
      known = (omega (arith, atoms, r.within.some), omega (arith, atoms, r.within.atoms));
      stand =
          ap₂ (λ (a : ℕ) (l : List ℕ). recorded a l c.field_at.result) atoms (left _ _ at)
          ∙ ap (recorded _ _) (c.field_at.ensures.0 ∙ ap (field_at _) at)
          ∙ ready_recorded _ _ r;
    }

pub returns : goal.returns
returns c =
    let at = c.clauses-at.ensures in
    λ b next e.
    let r = found_ready _ b next e in
    (ap₂ clauses_in (left _ _ at) (c.field_at.ensures.0 ∙ ap (field_at _) at) ∙ ready_clauses _ b r, c.atoms.ensures.0 ∙ r.shown.atoms)
