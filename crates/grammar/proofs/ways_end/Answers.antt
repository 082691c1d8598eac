-- `grammar::ways_end` meets its contract. Assumes nothing.
use Rattle.grammar.specs.Places.{ways_end}
use Rattle.grammar.proofs.ways_end.Goals as goal

pub returns : goal.returns
unfolding ways_end
returns c = c.separated_end.ensures
