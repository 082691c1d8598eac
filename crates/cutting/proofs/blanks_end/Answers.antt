-- `cutting::blanks_end` meets its contract. Assumes nothing.
use mathlib.Core.Path.{sym, ◌∙◌}
use Rattle.cutting.specs.Spans.{passing_more, blanks_met, blanks_over}
use Rattle.cutting.proofs.blanks_end.Goals as goal

pub returns-then-not-is_blank : goal.returns-then-not-is_blank
returns-then-not-is_blank c = blanks_met _ _ _ c.loop-i.invariant c.loop-i-test.true (sym c.is_blank.ensures ∙ c.if-not-is_blank.true)

pub loop-i-preserved : goal.loop-i-preserved
loop-i-preserved c = passing_more _ _ _ c.loop-i.invariant c.loop-i-test.true (sym c.is_blank.ensures ∙ c.if-not-is_blank.false)

pub returns : goal.returns
returns c = blanks_over _ _ _ c.loop-i.invariant c.loop-i-test.false
