-- `loops::clauses::Record::mark_body` meets its contract. Assumes nothing.
use Prim.Native.Nat.{ℕ}
use mathlib.Core.Path.{ap, ◌∙◌}
use mathlib.Core.Bool.{Bool, ◌||◌}
use mathlib.Core.List.{List}
use native.Mathlib.Omega.{arith}
use Rattle.image.specs.paper.Faults.{limits}
use Rattle.marks.specs.Marked.{marked}
use Rattle.loops.specs.Records.{below_atom}
use Rattle.loops.specs.Naming.{named_in, named_body}
use Rattle.loops.specs.Left.{atoms_of}
use Rattle.loops.proofs.clauses.Record.mark_body.Goals as goal

pub loop-atom-init : goal.loop-atom-init
loop-atom-init c = (
  _,
  _,
  λ q.
      ap (λ (ps : List ℕ). marked c.args.all.now q || named_in ps q) (ap atoms_of c.into_iter-atom-iterator.ensures.into_iter_gives ∙ c.atoms-atom-items.ensures)
      ∙ ap (λ (t : Bool). marked c.args.all.now q || t) (named_body _ q),
)

pub mark-requires : goal.mark-requires
mark-requires c =
    let it = c.loop-atom.atom-iterator in
    omega (arith, below_atom limits.atoms it.rest.now c.in-Some.atom (atoms_of c.next.new.self) it.small c.in-Some.ensures.steps)
