-- `groups::is_well_formed` meets its contract. Assumes nothing.
use Rattle.std.proofs.Common.{arith}
use Rattle.std.proofs.lemmas.Bool.Decides.{nat_tests}
use Rattle.groups.specs.paper.Group.{well_formed}
use Rattle.groups.proofs.is_well_formed.Goals as goal

pub returns-then-bytes-lt-NUMBER : goal.returns-then-bytes-lt-NUMBER
unfolding well_formed
returns-then-bytes-lt-NUMBER c = grind (arith, nat_tests)

pub returns-then-size-eq0 : goal.returns-then-size-eq0
unfolding well_formed
returns-then-size-eq0 c = grind (arith, nat_tests)

pub returns-else-size-eq0 : goal.returns-else-size-eq0
unfolding well_formed
returns-else-size-eq0 c = grind (arith, nat_tests)
