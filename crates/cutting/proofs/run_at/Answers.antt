-- `cutting::run_at` meets its contract. Assumes nothing.
use mathlib.Core.Path.{sym, ◌∙◌}
use Rattle.cutting.specs.Classes.{name_small}
use Rattle.cutting.specs.Spans.{running_more, run_met, run_over}
use Rattle.cutting.proofs.run_at.Goals as goal
use Rattle.cutting.proofs.run_at.Goals.{else-not-is_ascii_lowercase-via-then-not-is_ascii_lowercase+else-not-in_name, else-not-is_ascii_lowercase-via-else-not-is_ascii_lowercase}

pub returns-then-not-in_name : goal.returns-then-not-in_name
returns-then-not-in_name c = run_met _ _ _ _ c.loop-i.invariant c.loop-i-test.true (sym c.in_name.ensures ∙ c.if-not-in_name.true)

pub loop-i-preserved : goal.loop-i-preserved
loop-i-preserved c =
    running_more _ _ _ _ c.loop-i.invariant _ c.loop-i-test.true
    (elim c.else-not-is_ascii_lowercase.branch [
      | else-not-is_ascii_lowercase-via-then-not-is_ascii_lowercase+else-not-in_name w ↦ sym w.in_name.ensures ∙ w.if-not-in_name.false
      | else-not-is_ascii_lowercase-via-else-not-is_ascii_lowercase w ↦ name_small _ (sym w.if-not-is_ascii_lowercase.ensures.value)
    ])
    c.hash_on-hash.ensures.0 c.hash_on-hash.ensures.1

pub returns : goal.returns
returns c = run_over _ _ _ _ c.loop-i.invariant c.loop-i-test.false
