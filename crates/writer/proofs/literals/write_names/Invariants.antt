-- `writer::literals::write_names` meets its contract. Assumes nothing.
use Rattle.writer.specs.Names.{Naming}
use Rattle.writer.proofs.literals.write_names.Given as given

abbrev pub invariant-loop-code : given.invariant-loop-code
invariant-loop-code l = Naming l.part l.numbers l.factor l.initial.image l.at l.image l.code-index l.end l.times l.sign
