-- `engine::verdict_on` meets its promise: a refusal before any search, one of the listing, or what is concluded from it.
-- Assumes nothing.
use Prim.Native.Nat.{◌<◌}
use native.Mathlib.Omega.{arith}
use Rattle.std.proofs.Common.{refl}
use Rattle.std.proofs.lemmas.Result.{err_from_is_err_and}
use Rattle.image.specs.Shown.{shown, shown_front}
use Rattle.image.specs.Accepted.{book_in}
use Rattle.engine.specs.VerdictLaws.{verdict_early, verdict_unnamed, by_listing_lem, lists_count, lists_nodes, lists_cleared, verdict_unlisted}
use Rattle.engine.proofs.VerdictLaws.{verdict_listed}
use Rattle.engine.proofs.verdict_on.Goals as goal

pub returns-in_err-before_search : goal.returns-in_err-before_search
returns-in_err-before_search c =
    let p = err_from_is_err_and c.from_residual.result c.from_residual.ensures.1 in
    rw (p.1, p.2) (verdict_early _ _ _ _ _ _ c.in_err-before_search.ensures)

pub abducibles-requires : goal.abducibles-requires
abducibles-requires c = shown_front (shown _ _ c.in_ok-before_search.ensures.book)

pub returns-then-abducibles-hypothesis : goal.returns-then-abducibles-hypothesis
returns-then-abducibles-hypothesis c =
    let m = c.in_ok-before_search.ensures in
    let a = (shown _ _ m.book).abducibles in
    verdict_unnamed _ _ _ _ _ m (omega (arith, c.abducibles.ensures.0))

pub list_book-requires : goal.list_book-requires
list_book-requires c = c.in_ok-before_search.ensures

pub returns-in_err-listed : goal.returns-in_err-listed
returns-in_err-listed c =
    let a = c.in_ok-before_search.ensures in
    let named : c.args.hypothesis < (book_in c.args.image.now).abducibles = omega (arith, (shown _ _ a.book).abducibles, c.abducibles.ensures.0, c.if-abducibles-hypothesis.false) in
    let p = err_from_is_err_and c.from_residual-in_err-listed.result c.from_residual-in_err-listed.ensures.1 in
    rw (p.1, p.2) (verdict_unlisted _ _ _ _ _ _ _ (by_listing_lem _ _ _ _ _ a named) _ c.in_err-listed.ensures)

pub conclude-requires : goal.conclude-requires
conclude-requires c =
    let a = c.in_ok-before_search.ensures in
    let named : c.args.hypothesis < (book_in c.args.image.now).abducibles = omega (arith, (shown _ _ a.book).abducibles, c.abducibles.ensures.0, c.if-abducibles-hypothesis.false) in
    let lists = c.in_ok-listed.ensures in (
      record {
        seekable = record {
          book = a.book;
          abducible = named;
          long = omega (arith, a.long, c.list_book.auto.work);
          low = a.low;
        };
        few = omega (arith, a.low, lists_nodes _ _ _ _ _ _ _ lists a _ _ refl);
        cleared = lists_cleared _ _ _ _ _ _ _ lists a;
      },
      lists_count _ _ _ _ _ _ _ lists _ _ refl,
    )

pub returns : goal.returns
returns c =
    let a = c.in_ok-before_search.ensures in
    let named : c.args.hypothesis < (book_in c.args.image.now).abducibles = omega (arith, (shown _ _ a.book).abducibles, c.abducibles.ensures.0, c.if-abducibles-hypothesis.false) in
    verdict_listed _ _ _ _ _ _ _ (by_listing_lem _ _ _ _ _ a named) _ c.in_ok-listed.ensures a named c.list_book.auto.sets
    _ _ refl _ _ _ c.conclude.ensures
