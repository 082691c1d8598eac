-- `marks::Marks::mark` meets its contract. Assumes nothing.
use Prim.Native.Nat.{ℕ, ◌/◌}
use mathlib.Core.Path.{ap, ◌∙◌}
use native.Mathlib.Omega.{arith}
use lib.ListN.{set}
use Rattle.sets.specs.SetLaws.{set_bits}
use Rattle.marks.specs.Marked.{mark_in, marked}
use Rattle.marks.specs.MarkLaws.{mark_more}
use Rattle.marks.proofs.Marks.mark.Goals as goal

pub returns : goal.returns
unfolding marked
returns c =
    λ p.
    ap (λ (word : ℕ). mark_in (set c.args.self.now.words (c.args.atom / set_bits) word) p) c.with_member.ensures
    ∙ mark_more c.args.self.now.words (omega arith) c.args.atom c.requires p
