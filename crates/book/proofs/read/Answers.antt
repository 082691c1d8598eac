-- `book::read` meets its promise. Assumes nothing.
use Rattle.std.proofs.Common.{sym, ◌∙◌}
use Rattle.walk.specs.Passing.{err_is}
use Rattle.book.specs.ReadingLaws.{refused_front, refused_walk, accepted_free, refused_loop}
use Rattle.book.proofs.read.Goals as goal

pub returns-in_err-take_front : goal.returns-in_err-take_front
returns-in_err-take_front c =
    rw (err_is _ _ c.from_residual.ensures.1) (refused_front _ _ _ c.in_err-take_front.ensures.0 c.in_err-take_front.ensures.1)

pub returns-in_err-take_whole : goal.returns-in_err-take_whole
returns-in_err-take_whole c =
    rw (err_is _ _ c.from_residual-in_err-take_whole.ensures.1)
    (refused_walk _ c.in_ok-take_front.ensures _ _ c.in_err-take_whole.ensures)

pub returns-then-not-is_loop_free : goal.returns-then-not-is_loop_free
returns-then-not-is_loop_free c =
    let b = c.in_ok-take_whole.ensures in
    refused_loop _ c.in_ok-take_front.ensures b.0 _ b.1 _
    (sym (c.is_loop_free.ensures b.0 _ b.1) ∙ c.if-not-is_loop_free.true)
    (c.place.ensures b.0 _ b.1)

pub returns : goal.returns
returns c =
    let b = c.in_ok-take_whole.ensures in
    accepted_free _ c.in_ok-take_front.ensures b.0 _ b.1 (sym (c.is_loop_free.ensures b.0 _ b.1) ∙ c.if-not-is_loop_free.false)
