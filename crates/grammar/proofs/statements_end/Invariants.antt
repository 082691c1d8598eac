-- `grammar::statements_end` meets its contract. Assumes nothing.
use Prim.Native.Nat.{◌-◌, ◌≤◌}
use lib.ListN.{length}
use Rattle.grammar.proofs.PlaceLaws.{Passed}
use Rattle.grammar.proofs.statements_end.Given as given

abbrev pub invariant-loop-at : given.invariant-loop-at
invariant-loop-at l = (l.at ≤ length l.codes) × Passed l.codes l.at

abbrev pub decreases-loop-at : given.decreases-loop-at
decreases-loop-at l = length l.codes - l.at
