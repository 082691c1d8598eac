-- `rooms::hex` is safe and ends: a chunk is no longer than a room. Assumes nothing.
use Rattle.std.proofs.Common.{◌≤◌, ◌≡◌, length}
use Rattle.rooms.specs.Buffers.{room_bytes}
use Rattle.rooms.proofs.hex.Given as goal

abbrev pub invariant-loop-pair : goal.invariant-loop-pair
invariant-loop-pair g l = length l.chunk ≤ room_bytes

abbrev pub invariant-loop-chunk : goal.invariant-loop-chunk
invariant-loop-chunk g l =
    (goal.iterator-loop-chunk g).can_next l.chunk-iterator ×
    (goal.iterator-loop-chunk g).is_finite l.chunk-iterator ×
    (l.chunk-iterator.size ≡ room_bytes)
