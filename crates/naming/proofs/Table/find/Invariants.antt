-- `naming::Table::find` meets its contract. Assumes nothing.
use mathlib.Core.List.{List}
use Rattle.spelling.specs.paper.Document.{Atom}
use Rattle.spelling.specs.Table.{name_at}
use Rattle.naming.specs.Chains.{Passed}
use Rattle.naming.specs.Names.{Listed}
use Rattle.naming.proofs.Table.find.Given as given

abbrev pub invariant-loop-link : given.invariant-loop-link
invariant-loop-link l = (table : List Atom) → Listed l.text l.self table l.at → Passed table (name_at l.text l.at) l.link

abbrev pub decreases-loop-link : given.decreases-loop-link
decreases-loop-link l = l.link
