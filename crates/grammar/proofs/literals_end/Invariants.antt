-- `grammar::literals_end` meets its contract. Assumes nothing.
use Rattle.grammar.specs.Places.{literal_end}
use Rattle.grammar.proofs.PlaceLaws.{literal_forward}
use Rattle.grammar.proofs.literals_end.Given as given

abbrev pub ghost-separated_end : given.ghost-separated_end
ghost-separated_end a = record { end = literal_end; forward = literal_forward }
