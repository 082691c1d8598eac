-- `grammar::ways_end` meets its contract. Assumes nothing.
use Rattle.grammar.specs.Places.{literals_end}
use Rattle.grammar.proofs.PlaceLaws.{literals_forward}
use Rattle.grammar.proofs.ways_end.Given as given

abbrev pub ghost-separated_end : given.ghost-separated_end
ghost-separated_end a = record { end = literals_end; forward = literals_forward }
