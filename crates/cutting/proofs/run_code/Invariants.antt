-- `cutting::run_code` meets its contract. Assumes nothing.
use Rattle.spelling.specs.paper.Words.{same}
use Rattle.spelling.specs.Table.{name_at}
use Rattle.cutting.specs.Entries.{Unmet}
use Rattle.cutting.proofs.run_code.Given as given

abbrev pub invariant-loop-word : given.invariant-loop-word
invariant-loop-word l = Unmet (same (name_at l.text l.at)) l.word-items l.word-index
