-- `machine::steps::walk` meets its contract. Assumes nothing.
use mathlib.Core.Path.{◌≡◌}
use lib.ListN.{length, drop}
use Rattle.searching.specs.paper.Rules.{Outcome}
use Rattle.area.specs.Area as layout
use Rattle.memory.specs.States.{TASK}
use Rattle.machine.specs.Agreed.{Searching, Course, ahead}
use Rattle.machine.proofs.steps.walk.Given as given

-- whatever the outcome was to be at the first task, it is to be from here
abbrev pub invariant-loop-r : given.invariant-loop-r
invariant-loop-r l =
    ((outcome : Outcome) → Searching l.image l.budget outcome l.initial.sets l.initial.work l.initial.r → Course l.image l.budget outcome l.sets l.work l.r TASK 0)
    × (length l.sets ≡ length l.initial.sets) × (length l.work ≡ length l.initial.work) × (drop layout.end l.work ≡ drop layout.end l.initial.work)

abbrev pub decreases-loop-r : given.decreases-loop-r
decreases-loop-r l = ahead l.budget l.r
