-- `admitting::admits` meets its promise. Assumes nothing.
use native.Mathlib.Omega.{arith}
use Rattle.std.proofs.lemmas.Result.{err_from_is_err_and}
use Rattle.image.specs.Shown.{shown, shown_front}
use Rattle.admitting.specs.AdmitLaws.{admits_refused, admits_unnamed, admits_sought}
use Rattle.admitting.proofs.admits.Goals as goal

pub returns-in_err-before_search : goal.returns-in_err-before_search
returns-in_err-before_search c =
    let p = err_from_is_err_and c.from_residual.result c.from_residual.ensures.1 in
    rw (p.1, p.2) (admits_refused _ _ _ _ _ c.in_err-before_search.ensures)

pub abducibles-requires : goal.abducibles-requires
abducibles-requires c = shown_front (shown _ _ c.in_ok-before_search.ensures.book)

pub returns-then-abducibles-hypothesis : goal.returns-then-abducibles-hypothesis
returns-then-abducibles-hypothesis c =
    let m = c.in_ok-before_search.ensures in
    let a = (shown _ _ m.book).abducibles in
    admits_unnamed _ _ _ _ m (omega (arith, c.abducibles.ensures.0, c.if-abducibles-hypothesis.true))

pub seek_book-requires : goal.seek_book-requires
seek_book-requires c =
    let m = c.in_ok-before_search.ensures in
    let a = (shown _ _ m.book).abducibles in
    record { book = m.book; abducible = omega (arith, c.abducibles.ensures.0, c.if-abducibles-hypothesis.false); long = m.long; low = m.low }

pub returns : goal.returns
returns c =
    let m = c.in_ok-before_search.ensures in
    let a = (shown _ _ m.book).abducibles in
    admits_sought _ _ _ _ m (omega (arith, c.abducibles.ensures.0, c.if-abducibles-hypothesis.false)) _ _ c.seek_book.ensures
