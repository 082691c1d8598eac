-- `grammar::atom_end` meets its contract. Assumes nothing.
use Rattle.grammar.specs.Places.{name_end}
use Rattle.grammar.proofs.atom_end.Given as given

abbrev pub ghost-bracketed_end : given.ghost-bracketed_end
ghost-bracketed_end a = name_end a.codes.now
