-- `joiner::gather` meets its contract.
-- Assumes nothing.
use Rattle.std.proofs.Common.{sym, ◌∙◌, arith}
use Rattle.joiner.proofs.Joining.{gathering_stays, gathering_joins, gathering_full, gathering_end}
use Rattle.joiner.proofs.gather.Goals as goal
use Rattle.joiner.proofs.gather.Goals.{then-not-has_other_inside+else-held-out, else-not-has_other_inside}

pub returns-then-held-out : goal.returns-then-held-out
returns-then-held-out c =
    gathering_full _ _ _ _ c.loop-i.invariant c.loop-i-test.true (sym c.if-not-has_other_inside.true ∙ c.has_other_inside.ensures) (omega arith)

pub loop-i-preserved : goal.loop-i-preserved
loop-i-preserved c =
    elim c.if-not-has_other_inside.branch [
      | then-not-has_other_inside+else-held-out w ↦
          rw (w.out-is, w.held-is)
          (gathering_joins _ _ _ _ c.loop-i.invariant c.loop-i-test.true (sym w.if-not-has_other_inside.true ∙ c.has_other_inside.ensures) (omega (arith, c.loop-i.invariant.fits, w.if-held-out.false)))
      | else-not-has_other_inside w ↦
          rw (w.out-is, w.held-is)
          (gathering_stays _ _ _ _ c.loop-i.invariant c.loop-i-test.true (sym w.if-not-has_other_inside.false ∙ c.has_other_inside.ensures))
    ]

pub returns : goal.returns
returns c = gathering_end _ _ _ _ c.loop-i.invariant c.loop-i-test.false
