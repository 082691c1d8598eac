-- `grammar::literals_end` meets its contract. Assumes nothing.
use Rattle.grammar.specs.Places.{literals_end}
use Rattle.grammar.proofs.literals_end.Goals as goal

pub returns : goal.returns
unfolding literals_end
returns c = c.separated_end.ensures
