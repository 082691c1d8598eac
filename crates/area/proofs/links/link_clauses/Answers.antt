-- `area::links::link_clauses` meets its contract. Assumes nothing.
use Rattle.area.specs.Links.{linked_next}
use Rattle.area.proofs.links.link_clauses.Goals as goal

pub loop-c-preserved : goal.loop-c-preserved
loop-c-preserved c = linked_next _ _ c.requires _ _ _ c.loop-c-test.true c.loop-c.invariant c.link_clause.ensures
