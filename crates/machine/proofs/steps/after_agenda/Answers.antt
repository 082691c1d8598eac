-- `machine::steps::after_agenda` meets its contract. Assumes nothing.
use Rattle.machine.specs.Steps.{onward_moved, onward_same}
use Rattle.machine.proofs.steps.after_agenda.Goals as goal

pub returns-in-Agenda : goal.returns-in-Agenda
returns-in-Agenda c = onward_moved _ _ _ _ c.in-Agenda.is c.front.ensures

pub returns-in_default : goal.returns-in_default
returns-in_default c = onward_same _ _ _ c.in_default.not-Agenda
