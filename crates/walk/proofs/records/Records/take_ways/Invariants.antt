-- `walk::records::Records::take_ways` meets its contract. Assumes nothing.
use Rattle.std.proofs.Common.{◌-◌}
use Rattle.image.specs.paper.Faults.{limits}
use Rattle.walk.specs.Seen.{Onward}
use Rattle.walk.proofs.records.Records.take_ways.Given as given

abbrev pub invariant-loop-at : given.invariant-loop-at
invariant-loop-at l = Onward l.self.image.now limits l.self.atoms l.end l.fn.before l.start l.sum l.at

abbrev pub decreases-loop-at : given.decreases-loop-at
decreases-loop-at l = l.end - l.at
