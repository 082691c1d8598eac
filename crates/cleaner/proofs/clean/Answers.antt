-- `cleaner::clean` meets its promise: a refusal before any verdict, or what the look at the group's image answers. Assumes nothing.
use Rattle.std.proofs.Common.{ℕ, ◌≡◌, List, length, Err, sym, arith, rules}
use Rattle.image.specs.paper.Book.{Book}
use Rattle.image.specs.paper.Walk.{fine}
use Rattle.image.specs.paper.Decode.{decode, accepted}
use Rattle.cleaner.specs.Refusals.{first_of}
use Rattle.cleaner.proofs.RefusalLaws.{Passed, passed}
use Rattle.cleaner.proofs.CleaningLaws.{cleans_turned, group_writable, written_ripe, cleans_written}
use Rattle.cleaner.proofs.clean.Goals as goal

pub returns-in_err-group : goal.returns-in_err-group
returns-in_err-group c =
    let is : c.from_residual.result ≡ Err c.in_err-group.field-0.0 = search rules in
    rw is (cleans_turned _ _ _ _ _ _ _ c.in_err-group.ensures.found)

-- nothing is refused, of the record that was lent
through : (book bytes lent : List ℕ) (hypotheses budget room space : ℕ) → bytes ≡ lent → fine ≡ first_of (decode book) lent hypotheses budget room space
    → (b : Book) × (decode book ≡ accepted b) × Passed b bytes hypotheses budget room space
through book bytes lent hypotheses budget room space e f = rw e (passed book lent hypotheses budget room space (sym f))

pub write-bytes-requires : goal.write-bytes-requires
write-bytes-requires c =
    let a = c.args in
    let p = through a.book.now _ _ a.hypotheses a.budget (length a.sets.now) (length a.work.now) c.in_ok-group.ensures.same c.in_ok-group.ensures.found in
    group_writable a.book.now c.in_ok-group.group.bytes.now a.hypotheses a.budget a.sets.now a.work.now p.0 p.1 p.2 _ (omega arith)

pub look-requires : goal.look-requires
look-requires c =
    let a = c.args in
    let p = through a.book.now _ _ a.hypotheses a.budget (length a.sets.now) (length a.work.now) c.in_ok-group.ensures.same c.in_ok-group.ensures.found in
    written_ripe a.book.now c.in_ok-group.group.bytes.now a.hypotheses a.budget a.sets.now a.work.now p.0 p.1 p.2 _ _ _ c.write-bytes.ensures

pub returns : goal.returns
returns c =
    let a = c.args in
    let p = through a.book.now _ _ a.hypotheses a.budget (length a.sets.now) (length a.work.now) c.in_ok-group.ensures.same c.in_ok-group.ensures.found in
    rw (← c.in_ok-group.ensures.same)
    (cleans_written a.book.now c.in_ok-group.group.bytes.now a.hypotheses a.budget a.sets.now a.work.now p.0 p.1 p.2 _ _ _ c.write-bytes.ensures _ _ _ c.look.ensures)
