-- `loops::clauses::Record::names_marked` meets its contract. Assumes nothing.
use Prim.Native.Nat.{ℕ, ◌<◌}
use mathlib.Core.Path.{◌≡◌}
use mathlib.Core.Bool.{true, false}
use borrow.Author.Rules.{rules}
use borrow.Author.Tests.{tests}
use Rattle.std.proofs.lemmas.Iterator.{cases_from_any}
use Rattle.std.proofs.lemmas.Iterator.Consumers.{YieldsList-from_first}
use Rattle.image.specs.paper.Faults.{limits}
use Rattle.marks.specs.Marked.{marked}
use Rattle.loops.specs.Records.{below_atom}
use Rattle.loops.specs.Naming.{any_named}
use Rattle.loops.specs.Left.{atoms_of}
use Rattle.loops.proofs.clauses.Record.names_marked.Goals as goal

pub any-requires-clause-callable : goal.any-requires-clause-callable
any-requires-clause-callable c =
    record { at = λ xs t q x u _ _ step. let h : x < limits.atoms = below_atom limits.atoms t.rest.now x (atoms_of u) t.small step in search rules }

pub returns : goal.returns
returns c =
    any_named (marked c.args.all.now) _ c.any.result
    (cases_from_any c.any.new.self _ c.any.result (λ p. marked c.args.all.now p ≡ true) (λ p. marked c.args.all.now p ≡ false) c.any.ensures.ran
    (YieldsList-from_first (λ (p : ℕ). p) atoms_of _ c.atoms.ensures) (λ x q k. search (rules, tests)) (λ x q k. search (rules, tests)))
