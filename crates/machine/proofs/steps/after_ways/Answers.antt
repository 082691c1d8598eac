-- `machine::steps::after_ways` meets its contract. Assumes nothing.
use native.Mathlib.Omega.{arith}
use Rattle.memory.specs.States.{LIST, WAY}
use Rattle.machine.specs.Steps.{passes_moved}
use Rattle.machine.proofs.steps.after_ways.Goals as goal

pub returns-in-Way : goal.returns-in-Way
returns-in-Way c = passes_moved _ _ WAY _ _ LIST (omega arith, omega arith) c.in-Way.is c.choose.ensures
