-- `loops::clauses::Record::atoms` meets its contract. Assumes nothing.
use Prim.Native.Nat.{ℕ}
use mathlib.Core.Path.{ap, ◌∙◌}
use mathlib.Core.List.{List}
use Rattle.std.proofs.Common.{map}
use Rattle.std.proofs.lemmas.List.{take_rest}
use Rattle.image.specs.paper.Book.{Lit}
use Rattle.image.specs.paper.Faults.{limits}
use Rattle.loops.specs.Records.{clause_in, lits_in, below_all, fine_body}
use Rattle.loops.proofs.clauses.Record.atoms.Goals as goal

pub invariant_of-result : goal.invariant_of-result
invariant_of-result c =
    let s : List ℕ = c.args.self.part.now in
    record { small = ap (λ (l : List ℕ). below_all limits.atoms (lits_in l)) (take_rest s 2) ∙ fine_body limits.atoms (clause_in s) c.args.self.small }

pub returns : goal.returns
returns c = ap (λ (l : List ℕ). map (λ (k : Lit). k.atom) (lits_in l)) (take_rest c.args.self.part.now 2)
