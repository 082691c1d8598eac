-- `lister::list` meets its promise. Assumes nothing.
use Rattle.std.proofs.lemmas.Result.{err_from_is_err_and}
use Rattle.lister.specs.PromiseLaws.{refused_lists}
use Rattle.lister.proofs.list.Goals as goal

pub returns-in_err-before_search : goal.returns-in_err-before_search
returns-in_err-before_search c =
    let p = err_from_is_err_and c.from_residual.result c.from_residual.ensures.1 in
    rw (p.1, p.2) (refused_lists _ _ _ _ _ c.in_err-before_search.ensures)
