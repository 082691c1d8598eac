-- `machine::search` meets its contract. Assumes nothing.
use Rattle.machine.specs.Start.{begins, searched}
use Rattle.machine.proofs.search.Goals as goal

pub walk-requires : goal.walk-requires
walk-requires c =
    let started = c.start-first.ensures in
    record { outcome = _; searching = begins started _ _ c.requires.few; state = started.state }

pub returns : goal.returns
returns c = searched c.start-first.ensures _ c.requires.few c.walk.ensures c.walk.auto.sets
