-- `loops::clauses::mark_body` meets its contract. Assumes nothing.
use Prim.Native.Nat.{◌*◌, ◌/◌}
use mathlib.Core.Bool.{◌||◌}
use mathlib.Core.Path.{ap, ◌∙◌}
use lib.ListN.{length, length-take}
use native.Mathlib.Omega.{arith}
use Rattle.image.specs.paper.Book.{Clause}
use Rattle.image.specs.paper.Faults.{limits}
use Rattle.marks.specs.Marked.{marked}
use Rattle.loops.specs.Records.{fine, whole_fields, small_fine}
use Rattle.loops.specs.Naming.{names}
use Rattle.loops.proofs.clauses.mark_body.Goals as goal

pub invariant_of-mark_body : goal.invariant_of-mark_body
invariant_of-mark_body c =
    let s = c.args.part.now in
    let long = length-take (length s / 2 * 2) s in
    record {
      whole = (omega arith, omega arith);
      small = ap (fine limits.atoms) (whole_fields s c.requires.0) ∙ small_fine _ c.requires.1;
    }

pub returns : goal.returns
returns c = λ q. c.mark_body.ensures q ∙ ap (λ (d : Clause). marked c.args.already q || names d q) (whole_fields c.args.part.now c.requires.0)
