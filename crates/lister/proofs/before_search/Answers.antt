-- `lister::before_search` meets its contract: each test says which refusal it is. Assumes nothing.
use Rattle.std.proofs.Common.{refl}
use Rattle.std.proofs.lemmas.Result.{err_from_is_err_and}
use Rattle.book.specs.ReadingLaws.{read_book, read_refused}
use Rattle.lister.specs.PromiseLaws.{early_refused, early_long, early_short, early_budget}
use Rattle.lister.proofs.before_search.Goals as goal

pub returns-in_err-read : goal.returns-in_err-read
returns-in_err-read c =
    let p = err_from_is_err_and c.from_residual.result c.from_residual.ensures.1 in
    rw (p.1, p.2) (early_refused _ _ _ _ _ (read_refused _ _ _ _ c.in_err-read.ensures refl))

pub returns-then-room-gt-LONGEST : goal.returns-then-room-gt-LONGEST
returns-then-room-gt-LONGEST c = early_long _ _ _ _ (read_book _ _ c.in_ok-read.ensures refl) c.if-room-gt-LONGEST.true

pub returns-then-space-lt-END : goal.returns-then-space-lt-END
returns-then-space-lt-END c = early_short _ _ _ _ (read_book _ _ c.in_ok-read.ensures refl) c.if-room-gt-LONGEST.false c.if-space-lt-END.true

pub returns-then-budget-gt-MOST_BUDGET : goal.returns-then-budget-gt-MOST_BUDGET
returns-then-budget-gt-MOST_BUDGET c =
    early_budget _ _ _ _ (read_book _ _ c.in_ok-read.ensures refl) c.if-room-gt-LONGEST.false c.if-space-lt-END.false c.if-budget-gt-MOST_BUDGET.true

pub returns : goal.returns
returns c = record {
  book = read_book _ _ c.in_ok-read.ensures refl;
  few = c.if-room-gt-LONGEST.false;
  long = c.if-space-lt-END.false;
  low = c.if-budget-gt-MOST_BUDGET.false;
}
