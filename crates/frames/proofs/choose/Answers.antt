-- `frames::choose` meets its contract. Assumes nothing.
use native.Mathlib.Omega.{arith}
use mathlib.Core.Path.{refl}
use Rattle.frames.specs.Ways.{chain_places, chain_pushable, chosen_single, chosen_pushed}
use Rattle.frames.proofs.choose.Goals as goal

pub offset_bounds-work-way : goal.offset_bounds-work-way
offset_bounds-work-way c = omega (arith, (chain_places _ _ c.requires).0)

pub bounds-work-way : goal.bounds-work-way
bounds-work-way c = let p = chain_places _ _ c.requires in omega (arith, p.0, p.1)

pub overflow_add-others : goal.overflow_add-others
overflow_add-others c = omega (arith, (chain_places _ _ c.requires).0)

pub offset_bounds-work-way-2 : goal.offset_bounds-work-way-2
offset_bounds-work-way-2 c = omega (arith, (chain_places _ _ c.requires).0)

pub bounds-work-way-2 : goal.bounds-work-way-2
bounds-work-way-2 c = let p = chain_places _ _ c.requires in omega (arith, p.0, p.1)

pub returns-then-others-eq-NO_LINK : goal.returns-then-others-eq-NO_LINK
returns-then-others-eq-NO_LINK c = chosen_single _ _ c.requires _ _ _ refl refl c.if-others-eq-NO_LINK.true refl

pub push-q-requires : goal.push-q-requires
push-q-requires c = chain_pushable _ _ c.requires

pub returns : goal.returns
returns c = chosen_pushed _ _ c.requires _ _ _ _ _ refl refl c.if-others-eq-NO_LINK.false c.push-q.ensures refl
