-- `walk::records::Records::take_ways` meets its contract. Assumes nothing.
use Rattle.std.proofs.Common.{sym, arith}
use Rattle.walk.specs.Passing.{taken_err}
use Rattle.walk.specs.Seen.{way_ahead, onward_start, onward_more, onward_fault, onward_done}
use Rattle.walk.proofs.records.Records.take_ways.Goals as goal

pub loop-at-init : goal.loop-at-init
loop-at-init c = onward_start _ _ _ _ _ _

pub returns-in_err-literals : goal.returns-in_err-literals
returns-in_err-literals c =
    λ n h.
    taken_err _ _ c.from_residual.ensures.1
    (onward_fault _ _ _ _ _ _ _ _ _ _ c.loop-at.invariant c.loop-at-test.true (sym c.in_err-literals.ensures) n h)

pub with-sum-requires : goal.with-sum-requires
with-sum-requires c = (omega arith, (way_ahead _ _ _ _ _ _ _ _ (sym c.in_ok-literals.ensures)).fits)

pub loop-at-smaller : goal.loop-at-smaller
loop-at-smaller c =
    let on = way_ahead _ _ _ _ _ _ _ _ (sym c.in_ok-literals.ensures) in
    omega arith

pub loop-at-preserved : goal.loop-at-preserved
loop-at-preserved c =
    rw c.with-sum.ensures
    (onward_more _ _ _ _ _ _ _ _ _ _ c.loop-at.invariant c.loop-at-test.true (sym c.in_ok-literals.ensures))

pub returns : goal.returns
returns c = λ n h. sym (onward_done _ _ _ _ _ _ _ _ c.loop-at.invariant c.loop-at-test.false n h)
