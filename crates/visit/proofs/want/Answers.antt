-- `visit::want` meets its contract. Assumes nothing.
use mathlib.Core.Path.{refl}
use Rattle.visit.specs.Want.{so_visited, refused_visited, fails_visited}
use Rattle.visit.proofs.want.Goals as goal

pub returns-then-seen-y : goal.returns-then-seen-y
returns-then-seen-y c = so_visited _ _ c.requires.0 c.requires.1 _ refl _ c.if-seen-y.true refl

pub returns-then-seen-ne-NO_MARK : goal.returns-then-seen-ne-NO_MARK
returns-then-seen-ne-NO_MARK c = refused_visited _ _ c.requires.0 c.requires.1 _ refl _ c.if-seen-ne-NO_MARK.true c.if-seen-y.false refl

pub returns-then-a-eq-FAILS : goal.returns-then-a-eq-FAILS
returns-then-a-eq-FAILS c = fails_visited _ _ c.requires.0 c.requires.1 _ refl _ c.if-seen-ne-NO_MARK.false c.if-a-eq-FAILS.true refl
