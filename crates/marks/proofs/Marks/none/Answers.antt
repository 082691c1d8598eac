-- `marks::Marks::none` meets its contract. Assumes nothing.
use Rattle.marks.specs.Marked.{marked}
use Rattle.marks.specs.MarkLaws.{mark_none}
use Rattle.marks.proofs.Marks.none.Goals as goal

pub returns : goal.returns
unfolding marked
returns c = mark_none
