-- `kept::place` meets its contract.
-- Assumes nothing.
use Rattle.std.proofs.Common.{rules, tests, ◌∙◌}
use Rattle.std.proofs.lemmas.Iterator.{YieldsList-from_slice}
use Rattle.std.proofs.lemmas.Iterator.Search.{position_from_yields_List}
use Rattle.kept.proofs.Finding.{first_position}
use Rattle.kept.proofs.place.Goals as goal

pub returns-clause-first : goal.returns-clause-first
returns-clause-first g c test d =
    let sets = c.args.sets.now in
    position_from_yields_List test _ _ c.position.result c.position.ensures.ran (YieldsList-from_slice sets cc) (λ x b q k. search (rules, tests))
    ∙ first_position test sets
