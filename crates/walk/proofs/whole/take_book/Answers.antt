-- `walk::whole::take_book` meets its contract. Assumes nothing.
use Rattle.std.proofs.Common.{sym, ap, ◌∙◌}
use Rattle.walk.specs.Passing.{passed_err}
use Rattle.walk.specs.SeenBook.{gone, book_no_atoms, book_no_abducibles, book_no_goal, book_both}
use Rattle.walk.proofs.whole.take_book.Goals as goal

pub returns-in_err-atoms : goal.returns-in_err-atoms
returns-in_err-atoms c =
    passed_err _ _ c.from_residual.ensures.1 (ap gone (book_no_atoms _ _ (sym c.in_err-atoms.ensures)))

pub returns-in_err-abducibles : goal.returns-in_err-abducibles
returns-in_err-abducibles c =
    passed_err _ _ c.from_residual-in_err-abducibles.ensures.1
    (ap gone (book_no_abducibles _ _ (sym c.in_ok-atoms.ensures) (sym c.in_err-abducibles.ensures)))

pub returns-in_err-rest : goal.returns-in_err-rest
returns-in_err-rest c =
    passed_err _ _ c.from_residual-in_err-rest.ensures.1
    (ap gone
    (book_no_goal _ _ (sym c.in_ok-atoms.ensures) (sym c.in_ok-abducibles.ensures) (sym c.in_err-rest.ensures)))

pub returns : goal.returns
returns c =
    c.take_clauses_and_constraints.ensures
    ∙ sym
    (book_both _ _ (sym c.in_ok-atoms.ensures) (sym c.in_ok-abducibles.ensures) (sym c.in_ok-rest.ensures))
