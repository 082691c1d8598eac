-- `walk::records::Records::take_all_constraints` meets its contract. Assumes nothing.
use Rattle.std.proofs.Common.{◌+◌, sym, ap, ◌∙◌}
use Rattle.base.specs.paper.Lists.{sum}
use Rattle.image.specs.paper.Book.{literal_count}
use Rattle.faults.specs.Taking.{seen, poured}
use Rattle.walk.specs.Passing.{taken_err}
use Rattle.walk.specs.SeenBook.{counted_no_count, counted_on}
use Rattle.walk.proofs.records.Records.take_all_constraints.Goals as goal

pub returns-in_err-count : goal.returns-in_err-count
returns-in_err-count c =
    taken_err _ _ c.from_residual.ensures.1
    (ap (seen (λ ks. 0 + sum literal_count ks)) (counted_no_count _ _ _ _ (sym c.in_err-count.ensures)))

pub returns : goal.returns
unfolding poured
returns c =
    c.take_constraints.ensures
    ∙ sym (ap (seen (λ ks. 0 + sum literal_count ks)) (counted_on _ _ _ _ (sym c.in_ok-count.ensures)))
