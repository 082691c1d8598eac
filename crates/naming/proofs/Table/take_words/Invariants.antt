-- `naming::Table::take_words` meets its contract. Assumes nothing.
use Prim.Native.Nat.{◌-◌}
use lib.ListN.{length}
use Rattle.naming.specs.Taken.{Taking}
use Rattle.naming.proofs.Table.take_words.Given as given

abbrev pub invariant-loop-at : given.invariant-loop-at
invariant-loop-at l = Taking l.text l.codes l.self l.at l.words l.marked

abbrev pub decreases-loop-at : given.decreases-loop-at
decreases-loop-at l =
    length l.text - l.at
