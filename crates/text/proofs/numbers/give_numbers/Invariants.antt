-- `text::numbers::give_numbers` meets its contract. Assumes nothing.
use Rattle.text.specs.Given.{Giving}
use Rattle.text.proofs.numbers.give_numbers.Given as given

abbrev pub invariant-loop-i : given.invariant-loop-i
invariant-loop-i l = Giving l.entries l.marked l.numbers l.before l.i
