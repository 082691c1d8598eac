-- `kept::squeeze` meets its contract: the sets that do not contain the new one move to the front.
-- Assumes nothing.
use Rattle.std.proofs.Common.{rules, not, sym, ap, ◌∙◌, arith}
use Rattle.sets.specs.paper.Sets.{inside}
use Rattle.kept.proofs.Loops.{squeezed_none, squeeze_start, squeeze_keeps, squeeze_drops, squeeze_end}
use Rattle.kept.proofs.squeeze.Goals as goal
use Rattle.kept.proofs.squeeze.Goals.{then-not-is_inside, else-not-is_inside}

pub returns-in_default : goal.returns-in_default
returns-in_default c = squeezed_none _ _ (c.in_default.ensures (inside c.args.set) (λ k r h. search rules))

pub loop-i-init : goal.loop-i-init
loop-i-init c = squeeze_start (inside c.args.set) c.args.kept.now (c.in-Some.ensures (inside c.args.set) (λ k r h. search rules))

pub loop-i-preserved : goal.loop-i-preserved
loop-i-preserved c =
    let a = c.args in
    elim c.if-not-is_inside.branch [
      | then-not-is_inside w ↦ rw (w.kept-is, w.left-is) (squeeze_keeps (λ k. not (inside a.set k)) a.kept.now c.loop-i.invariant (omega (arith, c.loop-i.invariant.size)) (ap not (sym c.is_inside.ensures) ∙ ap not w.if-not-is_inside.true))
      | else-not-is_inside w ↦ rw (w.kept-is, w.left-is) (squeeze_drops (λ k. not (inside a.set k)) a.kept.now c.loop-i.invariant (omega (arith, c.loop-i.invariant.size)) (ap not (sym c.is_inside.ensures) ∙ ap not w.if-not-is_inside.false))
    ]

pub returns : goal.returns
returns c = squeeze_end _ _ c.loop-i.invariant (omega (arith, c.loop-i.invariant.size))
