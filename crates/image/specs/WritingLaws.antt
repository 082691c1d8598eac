-- What a call that writes bytes returns is told by its writing.
-- Assumes nothing.
use Rattle.std.specs.Prelude.{ℕ, ◌≡◌, Result, Ok, Err}
use Rattle.std.proofs.Common.{ap}
use Rattle.image.specs.paper.Refusals.{number_of}
use Rattle.image.specs.paper.Writing.{writing}
use Rattle.image.specs.RefusalLaws.{number_tells}
use Rattle.image.specs.declared.refusals.Refusal.{Refusal}

pub writing_tells : (r s : Result ℕ Refusal) → writing r ≡ writing s → r ≡ s
writing_tells (Ok m) (Ok n) e = cc
writing_tells (Ok m) (Err c) e = cc
writing_tells (Err c) (Ok n) e = cc
writing_tells (Err c) (Err d) e =
    let number : number_of c ≡ number_of d = cc in
    ap Err (number_tells c d number)
