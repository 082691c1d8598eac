-- `marks::Marks::has` meets its contract. Assumes nothing.
use Rattle.marks.specs.Marked.{mark_in, marked}
use Rattle.marks.proofs.Marks.has.Goals as goal

pub returns : goal.returns
unfolding marked mark_in
returns c = c.is_in.ensures
