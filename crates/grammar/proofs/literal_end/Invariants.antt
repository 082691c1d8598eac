-- `grammar::literal_end` meets its contract. Assumes nothing.
use Rattle.grammar.specs.Places.{atom_end}
use Rattle.grammar.proofs.literal_end.Given as given

abbrev pub ghost-bracketed_end : given.ghost-bracketed_end
ghost-bracketed_end a = atom_end a.codes.now
