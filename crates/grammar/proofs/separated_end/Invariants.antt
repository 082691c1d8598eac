-- `grammar::separated_end` meets its contract. Assumes nothing.
use Prim.Native.Nat.{◌-◌}
use lib.ListN.{length}
use Rattle.grammar.proofs.PlaceLaws.{Onward}
use Rattle.grammar.proofs.separated_end.Given as given

abbrev pub invariant-loop-next : given.invariant-loop-next
invariant-loop-next g l = Onward l.codes l.separator (g.thing.end l.codes) l.start l.at

abbrev pub decreases-loop-next : given.decreases-loop-next
decreases-loop-next g l = length l.codes - l.at
