-- `walk::whole::take_whole` meets its contract. Assumes nothing.
use Rattle.std.proofs.Common.{sym, ap, ◌∙◌}
use Rattle.image.specs.paper.Walk.{found}
use Rattle.walk.specs.Passing.{match_err}
use Rattle.walk.specs.Seeing.{seen_found, seen_fault}
use Rattle.walk.specs.SeenBook.{whole_no_book, whole_ends, whole_left_over}
use Rattle.walk.proofs.whole.take_whole.Goals as goal

pub returns-in_err-end : goal.returns-in_err-end
returns-in_err-end c =
    match_err _ _ _ _ c.from_residual.ensures.1 (seen_fault _ _ _ _ (whole_no_book _ _ (sym c.in_err-end.ensures)))

pub returns-then-end-image : goal.returns-then-end-image
returns-then-end-image c = seen_fault _ _ _ _ (whole_left_over _ _ _ (sym c.in_ok-end.ensures) c.if-end-image.true)

pub returns : goal.returns
returns c =
    let f = seen_found _ _ _ _ (whole_ends _ _ _ (sym c.in_ok-end.ensures) c.if-end-image.false) in
    (f.0, f.1 ∙ ap (found f.0) c.if-end-image.false)
