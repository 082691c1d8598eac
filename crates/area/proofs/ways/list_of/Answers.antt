-- `area::ways::list_of` meets its contract. Assumes nothing.
use native.Mathlib.Omega.{arith}
use Rattle.area.specs.Lay.{list_none, list_one, list_part}
use Rattle.area.proofs.ways.list_of.Goals as goal

pub returns-in-0 : goal.returns-in-0
returns-in-0 c = list_none _ _ _ _ c.in-0.is

pub returns-in-1 : goal.returns-in-1
returns-in-1 c = list_one _ _ _ _ _ c.in-1.is c.field_at.ensures.0 c.requires

pub returns-in_default : goal.returns-in_default
returns-in_default c = list_part _ _ _ _ (λ z. omega (arith, z)) (λ z. omega (arith, z)) c.requires
