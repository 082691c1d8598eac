-- `machine::steps::after_list` meets its contract. Assumes nothing.
use native.Mathlib.Omega.{arith}
use Rattle.memory.specs.States.{AGENDA, LIST}
use Rattle.machine.specs.Steps.{passes_moved}
use Rattle.machine.proofs.steps.after_list.Goals as goal

pub returns-in-List : goal.returns-in-List
returns-in-List c = passes_moved _ _ LIST _ _ AGENDA (omega arith, omega arith) c.in-List.is c.enter.ensures
