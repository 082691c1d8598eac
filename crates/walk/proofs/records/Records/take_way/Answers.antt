-- `walk::records::Records::take_way` meets its contract. Assumes nothing.
use Rattle.std.proofs.Common.{length, sym, ap, ◌∙◌}
use Rattle.faults.specs.Taking.{seen}
use Rattle.walk.specs.Passing.{taken_err}
use Rattle.walk.specs.Seen.{way_no_count, way_seen}
use Rattle.walk.proofs.records.Records.take_way.Goals as goal

pub returns-in_err-count : goal.returns-in_err-count
returns-in_err-count c =
    taken_err _ _ c.from_residual.ensures.1
    (ap (seen length) (way_no_count _ _ _ _ _ _ (sym c.in_err-count.ensures)))

pub returns : goal.returns
returns c = c.take_literals.ensures ∙ sym (way_seen _ _ _ _ _ _ (sym c.in_ok-count.ensures))
