-- `walk::records::Records::take_literals` meets its contract. Assumes nothing.
use Rattle.std.proofs.Common.{◌≡◌, ◌-◌}
use Rattle.image.specs.paper.Decode.{literal}
use Rattle.walk.specs.Each.{each, totals}
use Rattle.walk.proofs.records.Records.take_literals.Given as given

abbrev pub invariant-loop : given.invariant-loop
invariant-loop l =
    each (totals (λ _. literal l.self.image.now l.self.atoms) (λ _. 1)) l.count 0 l.start
    ≡ each (totals (λ _. literal l.self.image.now l.self.atoms) (λ _. 1)) (l.count - l.counter) l.counter l.at
