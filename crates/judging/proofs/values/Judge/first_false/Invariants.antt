-- `judging::values::Judge::first_false` meets its contract. Assumes nothing.
use Rattle.std.proofs.Common.{◌≡◌}
use Rattle.std.specs.Slice.Iter.{chunks_exact_rest, chunks_exact_size}
use Rattle.judging.proofs.Run.{Run}
use Rattle.judging.proofs.values.Judge.first_false.Given as given

abbrev pub invariant-loop-i : given.invariant-loop-i
invariant-loop-i l =
    (l.self ≡ l.fn.self) × Run l.fn.self.image l.fn.self.set l.literals l.i-iterator.count (chunks_exact_rest l.i-iterator.iter) × (chunks_exact_size l.i-iterator.iter ≡ 2)
    × (given.iterator-loop-i).can_next l.i-iterator × (given.iterator-loop-i).is_finite l.i-iterator
