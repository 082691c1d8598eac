-- `tables::records::lay_clauses` meets its contract. Assumes nothing.
use native.Mathlib.Omega.{arith}
use Rattle.image.specs.Accepted.{within, book_in}
use Rattle.tables.specs.Clauses.{clauses_step}
use Rattle.tables.proofs.records.lay_clauses.Goals as goal

pub loop-c-preserved : goal.loop-c-preserved
loop-c-preserved c = clauses_step _ _ _ _ c.requires _ _ _ _ c.loop-c-test.true c.loop-c.invariant _ _ _ c.lay_clause-place.ensures

pub overflow_mul-place : goal.overflow_mul-place
overflow_mul-place c = let p = c.requires in omega (arith, (within _ (book_in _) p.book).clauses)

pub overflow_add-place : goal.overflow_add-place
overflow_add-place c = let p = c.requires in omega (arith, (within _ (book_in _) p.book).clauses)
