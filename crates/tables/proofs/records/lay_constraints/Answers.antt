-- `tables::records::lay_constraints` meets its contract. Assumes nothing.
use native.Mathlib.Omega.{arith}
use Rattle.tables.specs.Constraints.{many_few, constraints_step, constraints_done}
use Rattle.tables.proofs.records.lay_constraints.Goals as goal

pub loop-k-preserved : goal.loop-k-preserved
loop-k-preserved c = constraints_step _ _ _ _ _ c.requires _ _ _ _ c.loop-k-test.true c.loop-k.invariant _ _ _ c.lay_constraint-place.ensures

pub lay_record-requires : goal.lay_record-requires
lay_record-requires c = let p = c.requires in (omega (arith, many_few _ _ _ _ _ p), omega (arith, p.long, c.loop-k.invariant.size))

pub returns : goal.returns
returns c = constraints_done _ _ _ _ _ c.requires _ _ _ _ (omega arith) c.loop-k.invariant _ c.lay_record.ensures
