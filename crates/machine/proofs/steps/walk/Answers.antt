-- `machine::steps::walk` meets its contract. Assumes nothing.
use Prim.Native.Nat.{ℕ}
use mathlib.Core.Path.{ap, ◌∙◌}
use mathlib.Core.List.{List, ◌++◌}
use Rattle.sets.specs.paper.Kept.{zeros}
use Rattle.area.specs.Area as layout
use Rattle.machine.specs.Steps.{still_searching, state_ending, state_lower, stepped_falls}
use Rattle.machine.proofs.steps.walk.Goals as goal

-- a walk that goes on has a task in hand
pub step-r-requires : goal.step-r-requires
step-r-requires c =
    let p = c.requires in
    let task = c.in-Task.is in
    record { outcome = _; searching = still_searching (c.loop-r.invariant.0 p.outcome p.searching) task; state = task }

pub loop-r-smaller : goal.loop-r-smaller
loop-r-smaller c =
    let p = c.requires in
    let task = c.in-Task.is in
    stepped_falls (still_searching (c.loop-r.invariant.0 p.outcome p.searching) task) task c.step-r.ensures

pub loop-r-preserved : goal.loop-r-preserved
loop-r-preserved c =
    let h = c.step-r in
    let i = c.loop-r.invariant in (
      (λ outcome first. state_lower (h.ensures.next outcome (still_searching (i.0 outcome first) c.in-Task.is))),
      h.auto.sets ∙ i.1,
      h.auto.work ∙ i.2,
      h.ensures.later ∙ i.3,
    )

pub returns : goal.returns
returns c =
    let i = c.loop-r.invariant in
    record {
      told = λ outcome h. c.ended.ensures outcome _ (state_ending (i.0 outcome h) c.in_default.not-Task);
      cleared = c.wipe.ensures ∙ ap (λ (l : List ℕ). zeros layout.end ++ l) i.3;
    }
