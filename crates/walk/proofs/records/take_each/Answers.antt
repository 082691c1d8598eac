-- `walk::records::take_each` meets its contract. Assumes nothing.
use Rattle.std.proofs.Common.{sym, ◌∙◌}
use Rattle.walk.specs.Each.{each_done, each_more}
use Rattle.walk.specs.Passing.{taken_err}
use Rattle.walk.proofs.records.take_each.Goals as goal

pub returns-in_err-total : goal.returns-in_err-total
returns-in_err-total g c =
    λ step steps.
    taken_err _ _ c.from_residual.ensures.1
    (c.loop.invariant step steps ∙ each_more step _ _ _ _ c.loop-test.true (steps _ _ _ c.in_err-total.ensures))

pub loop-preserved : goal.loop-preserved
loop-preserved g c =
    λ step steps.
    c.loop.invariant step steps ∙ each_more step _ _ _ _ c.loop-test.true (steps _ _ _ c.in_ok-total.ensures)

pub returns : goal.returns
returns g c = λ step steps. sym (c.loop.invariant step steps ∙ each_done step _ _ _ _ c.loop-test.false)
