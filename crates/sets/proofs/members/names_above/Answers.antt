-- `sets::members::names_above` meets its contract. Assumes nothing.
use Rattle.std.proofs.Common.{◌∙◌}
use borrow.Author.Tests.{le-ltb}
use Rattle.sets.specs.Bits.{above, none_above}
use Rattle.sets.proofs.members.names_above.Goals as goal

pub returns-then-abducibles-lt-SET_BITS : goal.returns-then-abducibles-lt-SET_BITS
returns-then-abducibles-lt-SET_BITS c = above c.args.set c.args.abducibles

pub returns-else-abducibles-lt-SET_BITS : goal.returns-else-abducibles-lt-SET_BITS
returns-else-abducibles-lt-SET_BITS c =
    le-ltb _ _ c.if-abducibles-lt-SET_BITS.false ∙ none_above _ _ c.ranges.set.fits c.if-abducibles-lt-SET_BITS.false
