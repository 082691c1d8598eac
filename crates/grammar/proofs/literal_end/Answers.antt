-- `grammar::literal_end` meets its contract. Assumes nothing.
use Rattle.grammar.specs.Places.{literal_end}
use Rattle.grammar.proofs.literal_end.Goals as goal

pub returns : goal.returns
unfolding literal_end
returns c = c.bracketed_end.ensures
