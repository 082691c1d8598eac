-- `loops::clauses::Clauses::next` meets its contract. Assumes nothing.
use Prim.Native.Nat.{ℕ, ◌-◌}
use mathlib.Core.List.{List, ◌∷◌}
use mathlib.Core.Path.{◌≡◌, sym, ap, ap₂, ◌∙◌}
use lib.ListN.{length, take, drop}
use native.Mathlib.Omega.{arith}
use borrow.Author.Rules.{rules}
use Rattle.std.proofs.lemmas.List.{take_rest}
use Rattle.image.specs.paper.Faults.{limits}
use Rattle.loops.specs.Records.{recorded, fine, clause_in, clauses_in, inside, recorded_first, recorded_next, clauses_first, clauses_none, inside_long, fine_more}
use Rattle.loops.proofs.clauses.ClausesIterator.next.Goals as goal

pub returns-then-self-eq0-clause-steps : goal.returns-then-self-eq0-clause-steps
returns-then-self-eq0-clause-steps c =
    let none = clauses_none c.args.self.now.rest.now _ c.if-self-eq0.true in
    (none, none)

pub field_at-size-requires : goal.field_at-size-requires
field_at-size-requires c = let h = recorded_first _ _ _ c.args.self.now.stand (omega arith) in omega (arith, h.ends)

pub slice_bounds-split_at-count : goal.slice_bounds-split_at-count
slice_bounds-split_at-count c = let h = recorded_first _ _ _ c.args.self.now.stand (omega arith) in omega (arith, h.ends)

pub slice_bounds-split_at-start : goal.slice_bounds-split_at-start
slice_bounds-split_at-start c = let h = recorded_first _ _ _ c.args.self.now.stand (omega arith) in omega (arith, h.ends)

pub split_at-requires : goal.split_at-requires
split_at-requires c =
    let h = recorded_first _ _ _ c.args.self.now.stand (omega arith) in
    omega (arith, h.ends, c.field_at-size.ensures.0, ap length (take_rest c.args.self.now.rest.now 2))

-- the record's inside, and what stands behind it
is-inside : (c : goal.After-self-1) → c.split_at.result.0.now ≡ inside c.args.self.now.rest.now
is-inside c = c.split_at.ensures.front ∙ ap₂ take c.field_at-size.ensures.0 (take_rest c.args.self.now.rest.now 2)

pub invariant_of-self : goal.invariant_of-self
invariant_of-self c =
    let s = c.args.self.now in
    record {
      known = s.known;
      stand =
          ap (λ (l : List ℕ). recorded s.atoms l (s.left - 1)) (c.split_at.ensures.back ∙ ap₂ drop c.field_at-size.ensures.0 (take_rest s.rest.now 2))
          ∙ recorded_next s.atoms s.rest.now s.left s.stand (omega arith);
    }

pub invariant_of-result : goal.invariant_of-result
invariant_of-result c =
    let s = c.args.self.now in
    let e = is-inside c in
    let h = recorded_first s.atoms s.rest.now s.left s.stand (omega arith) in
    let long = ap length e ∙ inside_long s.atoms s.rest.now h in
    record {
      whole = (omega (arith, long, h.some), omega (arith, long, h.even));
      small = ap (λ (l : List ℕ). fine limits.atoms (clause_in l)) e ∙ fine_more s.atoms limits.atoms s.known.1 _ h.small;
    }

first : goal.returns-clause-steps
first c =
    let s = c.args.self.now in
    let back = c.split_at.ensures.back ∙ ap₂ drop c.field_at-size.ensures.0 (take_rest s.rest.now 2) in
    clauses_first s.rest.now s.left (omega arith)
    ∙ ap₂ (λ (l r : List ℕ). clause_in l ∷ clauses_in r (s.left - 1)) (sym (is-inside c.before)) (sym back)

pub returns-clause-steps : goal.returns-clause-steps
returns-clause-steps c = first c

pub returns-clause-goes : goal.returns-clause-goes
returns-clause-goes c =
    let shorter = ap length (first c) in
    search rules
