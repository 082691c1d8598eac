-- `machine::steps::after_failure` meets its contract. Assumes nothing.
use Rattle.machine.specs.Steps.{passes_backed}
use Rattle.machine.proofs.steps.after_failure.Goals as goal

pub returns-in-Failed : goal.returns-in-Failed
returns-in-Failed c = passes_backed _ _ _ _ c.in-Failed.is c.back.ensures
