-- `walk::records::take_each` meets its contract. Assumes nothing.
use Rattle.std.proofs.Common.{◌≡◌, ◌-◌}
use Rattle.image.specs.paper.Walk.{Walk}
use Rattle.walk.specs.Each.{Steps, each}
use Rattle.walk.proofs.records.take_each.Given as given

abbrev pub invariant-loop : given.invariant-loop
invariant-loop g l =
    (step : _ → Walk _) → Steps (given.F-post g l.take) step → each step l.count l.fn.before l.start ≡ each step (l.count - l.counter) l.sum l.at
