-- `walk::records::Records::take_constraint` meets its contract. Assumes nothing.
use Rattle.std.proofs.Common.{◌+◌, ◌/◌, sym, ap, ◌∙◌, arith}
use Rattle.image.specs.paper.Book.{literal_count}
use Rattle.image.specs.WalkLaws.{field_found}
use Rattle.image.specs.FaultLaws.{size_fine}
use Rattle.faults.specs.Taking.{seen}
use Rattle.walk.specs.Passing.{taken_err}
use Rattle.walk.specs.Seen.{constraint_no_size, constraint_inside}
use Rattle.walk.proofs.records.Records.take_constraint.Goals as goal

pub overflow_add-next : goal.overflow_add-next
overflow_add-next c =
    let found = field_found _ _ _ _ _ (sym c.in_ok-size.ensures) in
    let sized = size_fine _ _ found.is_fine in
    omega arith

pub returns-in_err-size : goal.returns-in_err-size
returns-in_err-size c =
    taken_err _ _ c.from_residual.ensures.1
    (ap (seen (λ k. c.args.sum + literal_count k)) (constraint_no_size _ _ _ _ _ (sym c.in_err-size.ensures)))

pub returns : goal.returns
returns c =
    let found = field_found _ _ _ _ _ (sym c.in_ok-size.ensures) in
    let even = (size_fine _ _ found.is_fine).even in
    c.take_inside.ensures (c.in_ok-size.size / 2) (omega arith)
    ∙ sym (ap (seen (λ k. c.args.sum + literal_count k)) (constraint_inside _ _ _ _ _ (sym c.in_ok-size.ensures)))
