-- `text::read` keeps its promise. Assumes nothing.
use Rattle.std.proofs.lemmas.Result.{err_from_is_err_and}
use Rattle.spelling.specs.paper.Answer.{image_of}
use Rattle.text.specs.Made.{writes_refusal, writes_delivered}
use Rattle.text.proofs.read.Goals as goal

pub returns-in_err-size : goal.returns-in_err-size
returns-in_err-size c =
    let p = err_from_is_err_and c.from_residual.result c.from_residual.ensures.1 in
    rw (p.1, p.2) (writes_refusal image_of _ _ _ (c.in_err-size.ensures.answer image_of _))

pub returns : goal.returns
returns c =
    let f = c.in_ok-size.ensures.answer in
    writes_delivered image_of _ _ f.d f.clear f.good _ f.front _ _ c.deliver.ensures.answer c.deliver.ensures.left
