-- `walk::records::Records::take_clauses_and_constraints` meets its contract. Assumes nothing.
use Rattle.std.proofs.Common.{sym}
use Rattle.walk.specs.Passing.{passed_err}
use Rattle.walk.specs.SeenBook.{both_no_clauses, both_no_constraints, both_found}
use Rattle.walk.proofs.records.Records.take_clauses_and_constraints.Goals as goal

pub returns-in_err-next : goal.returns-in_err-next
returns-in_err-next c =
    passed_err _ _ c.from_residual.ensures.1 (both_no_clauses _ _ _ _ _ _ (sym c.in_err-next.ensures))

pub returns-in_err-end : goal.returns-in_err-end
returns-in_err-end c =
    passed_err _ _ c.from_residual-in_err-end.ensures.1
    (both_no_constraints _ _ _ _ _ _ _ _ (sym c.in_ok-next.ensures) (sym c.in_err-end.ensures))

pub returns : goal.returns
returns c = sym (both_found _ _ _ _ _ _ _ _ (sym c.in_ok-next.ensures) (sym c.in_ok-end.ensures))
