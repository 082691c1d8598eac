-- `visit::pick` meets its contract. Assumes nothing.
use native.Mathlib.Omega.{arith}
use mathlib.Core.Path.{refl}
use Rattle.visit.specs.Pick.{pick_place, picked_none, picked_ways, picked_success}
use Rattle.visit.proofs.pick.Goals as goal

pub offset_bounds-work-r : goal.offset_bounds-work-r
offset_bounds-work-r c = omega (arith, (pick_place _ _ c.requires.0 c.requires.1).0)

pub bounds-work-r : goal.bounds-work-r
bounds-work-r c = let p = pick_place _ _ c.requires.0 c.requires.1 in omega (arith, p.0, p.1)

pub returns-in-0 : goal.returns-in-0
returns-in-0 c = picked_none _ _ c.requires.0 c.requires.1 _ _ refl _ c.in-0.is refl

pub returns-in-1 : goal.returns-in-1
returns-in-1 c = picked_success _ _ c.requires.0 c.requires.1 _ _ refl _ _ c.in-1.is c.keep_success.ensures

pub returns-in_default : goal.returns-in_default
returns-in_default c = picked_ways _ _ c.requires.0 c.requires.1 _ _ refl _ (λ z. omega (arith, z)) (λ z. omega (arith, z)) refl
