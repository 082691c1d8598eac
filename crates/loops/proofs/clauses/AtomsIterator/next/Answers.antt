-- `loops::clauses::Atoms::next` meets its contract. Assumes nothing.
use Prim.Native.Nat.{ℕ, ◌/◌}
use mathlib.Core.List.{List, ◌∷◌}
use Rattle.std.proofs.Common.{rules, sym, ap, ◌∙◌, length, map}
use Rattle.image.specs.paper.Book.{Lit}
use Rattle.image.specs.paper.Faults.{limits}
use Rattle.loops.specs.Records.{lits_in, lits_none, after, atoms_first, below_first}
use Rattle.loops.proofs.clauses.AtomsIterator.next.Goals as goal

pub returns-then-self-lt2-clause-steps : goal.returns-then-self-lt2-clause-steps
returns-then-self-lt2-clause-steps c =
    let none = ap (map (λ (l : Lit). l.atom)) (lits_none _ c.if-self-lt2.true) in
    (none, none)

pub invariant_of-self : goal.invariant_of-self
invariant_of-self c = record { small = (below_first c.args.self.now.rest.now c.if-self-lt2.false limits.atoms c.args.self.now.small).1 }

first : goal.returns-clause-steps
first c =
    let s : List ℕ = c.args.self.now.rest.now in
    atoms_first s c.if-self-lt2.false
    ∙ ap (λ (x : ℕ). x / 2 ∷ map (λ (l : Lit). l.atom) (lits_in (after s c.if-self-lt2.false))) (sym c.field_at-literal.ensures.0)

pub returns-clause-steps : goal.returns-clause-steps
returns-clause-steps c = first c

pub returns-clause-goes : goal.returns-clause-goes
returns-clause-goes c =
    let shorter = ap length (first c) in
    search rules
