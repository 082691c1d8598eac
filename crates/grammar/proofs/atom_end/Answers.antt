-- `grammar::atom_end` meets its contract. Assumes nothing.
use Rattle.grammar.specs.Places.{atom_end}
use Rattle.grammar.proofs.atom_end.Goals as goal

pub returns : goal.returns
unfolding atom_end
returns c = c.bracketed_end.ensures
