-- `kept::find` meets its contract: none of the sets of the rounds before passes.
use Rattle.std.specs.Prelude.{◌≡◌, Bool, false, ℕ, ◌*◌, take}
use Rattle.base.specs.paper.Lists.{any}
use Rattle.kept.specs.Agreed.{Decides}
use Rattle.kept.proofs.find.Given as given

abbrev pub invariant-loop-i : given.invariant-loop-i
invariant-loop-i g l = (test : ℕ → Bool) → Decides (given.F-post g l.passes) test → any test (take (8 * l.i) l.sets) ≡ false
