-- `cutting::sign_at` meets its contract. Assumes nothing.
use Rattle.std.specs.Prelude.{List, ℕ, drop}
use Rattle.spelling.specs.Cut.{begins}
use Rattle.cutting.specs.Entries.{Unmet}
use Rattle.cutting.proofs.sign_at.Given as given

abbrev pub invariant-loop-word : given.invariant-loop-word
invariant-loop-word l = Unmet (λ (w : List ℕ). begins w (drop l.at l.text)) l.word-items l.word-index
