-- `visit::keep_success` meets its contract. Assumes nothing.
use Rattle.std.proofs.Common.{refl}
use Rattle.visit.specs.Pick.{kept_full, kept_inserted}
use Rattle.visit.proofs.keep_success.Goals as goal

pub returns-in_default : goal.returns-in_default
returns-in_default c = kept_full _ _ _ _ c.in_default.ensures refl

pub returns : goal.returns
returns c = kept_inserted _ _ _ _ _ c.in-Some.ensures refl
