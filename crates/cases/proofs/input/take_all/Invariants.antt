-- `cases::input::take_all` is safe and ends: each turn takes a byte at least. Assumes nothing.
use Prim.Native.Nat.{◌≤◌, ◌-◌}
use lib.ListN.{length}
use Rattle.cases.proofs.input.take_all.Given as given

abbrev pub invariant-loop-n : given.invariant-loop-n
invariant-loop-n g l = l.n ≤ length l.buffer

abbrev pub decreases-loop-n : given.decreases-loop-n
decreases-loop-n g l = length l.initial.buffer - l.n
