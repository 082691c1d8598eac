-- What the recursion and the loops of `value` rest on. The measure is the atom's dependency rank, which falls from a clause's head to each atom
-- of its body. At every step what is left of the clause scan, and of the literal scan in it, decides the value (Scan.antt).
use Rattle.std.proofs.Common.{◌≡◌}
use Rattle.std.specs.Slice.Iter.{chunks_exact_rest, chunks_exact_size}
use Rattle.judging.proofs.Scan.{rank_in, Scan, Read}
use Rattle.judging.proofs.values.Judge.+value.Given as given

abbrev pub decreases-value : given.decreases-value
decreases-value l = rank_in l.self.now.image l.atom

abbrev pub invariant-loop-field : given.invariant-loop-field
invariant-loop-field l = (l.self ≡ l.fn.self) × Read l.image l.fn.self.set l.atom l.counter (chunks_exact_rest l.field-iterator) × (chunks_exact_size l.field-iterator ≡ 2)

abbrev pub invariant-loop : given.invariant-loop
invariant-loop l = (l.self ≡ l.fn.self) × Scan l.image l.fn.self.set l.atom l.count l.place l.counter
