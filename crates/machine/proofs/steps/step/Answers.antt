-- `machine::steps::step` meets its contract: after each piece the step has come to a lower state. Assumes nothing.
use Rattle.machine.specs.Steps.{searching_tasked, stepped_visit, stepped_somewhere, stepped_passes, stepped_placed, stepped_onward}
use Rattle.machine.proofs.steps.step.Goals as goal

pub visit-visited-requires : goal.visit-visited-requires
visit-visited-requires c =
    let p = c.requires in
    (searching_tasked p.searching p.state, p.searching.nodes, p.searching.count, p.searching.entries)

pub after_failure-returned-requires : goal.after_failure-returned-requires
after_failure-returned-requires c = stepped_somewhere c.requires.searching (stepped_visit c.requires.state c.visit-visited.ensures)

pub after_ways-chosen-requires : goal.after_ways-chosen-requires
after_ways-chosen-requires c =
    let visited = stepped_visit c.requires.state c.visit-visited.ensures in
    stepped_somewhere c.requires.searching (stepped_passes visited c.after_failure-returned.ensures)

pub after_list-entered-requires : goal.after_list-entered-requires
after_list-entered-requires c =
    let visited = stepped_visit c.requires.state c.visit-visited.ensures in
    let returned = stepped_passes visited c.after_failure-returned.ensures in
    stepped_somewhere c.requires.searching (stepped_passes returned c.after_ways-chosen.ensures)

pub after_agenda-requires : goal.after_agenda-requires
after_agenda-requires c =
    let visited = stepped_visit c.requires.state c.visit-visited.ensures in
    let returned = stepped_passes visited c.after_failure-returned.ensures in
    let chosen = stepped_passes returned c.after_ways-chosen.ensures in
    stepped_placed c.requires.searching (stepped_passes chosen c.after_list-entered.ensures)

pub returns : goal.returns
returns c =
    let visited = stepped_visit c.requires.state c.visit-visited.ensures in
    let returned = stepped_passes visited c.after_failure-returned.ensures in
    let chosen = stepped_passes returned c.after_ways-chosen.ensures in
    stepped_onward (stepped_passes chosen c.after_list-entered.ensures) c.after_agenda.ensures
