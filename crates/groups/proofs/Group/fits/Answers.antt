-- `groups::Group::fits` meets its contract. Assumes nothing.
use Rattle.std.proofs.Common.{arith, ap, ◌∙◌}
use Rattle.image.specs.paper.Walk.{field_at}
use Rattle.image.specs.Places.{shows, clauses_fit}
use Rattle.image.specs.Shown.{shown_front}
use Rattle.groups.proofs.Group.fits.Goals as goal

pub clauses-requires : goal.clauses-requires
clauses-requires c = shown_front (shows _ c.requires)

pub field_at-clauses-requires : goal.field_at-clauses-requires
field_at-clauses-requires c = omega (arith, clauses_fit _ c.requires, c.clauses.ensures)

pub returns : goal.returns
returns c =
    let clauses = c.field_at-clauses.ensures.0 ∙ ap (field_at _) c.clauses.ensures ∙ (shows _ c.requires).clauses in
    grind (arith, clauses)
