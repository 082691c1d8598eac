-- `judging::judge` meets its contract. Assumes nothing.
use Rattle.std.proofs.Common.{refl}
use Rattle.std.proofs.lemmas.Result.{err_from_is_err_and}
use Rattle.book.specs.ReadingLaws.{read_book, read_refused}
use Rattle.judging.proofs.Answer.{refused_judged, accepted_judged}
use Rattle.judging.proofs.judge.Goals as goal

pub returns-in_err-read : goal.returns-in_err-read
returns-in_err-read c =
    let p = err_from_is_err_and c.from_residual.result c.from_residual.ensures.1 in
    rw (p.1, p.2) (refused_judged _ _ _ _ (read_refused _ _ _ _ c.in_err-read.ensures refl))

pub judge_accepted-requires : goal.judge_accepted-requires
judge_accepted-requires c = read_book _ _ c.in_ok-read.ensures refl

pub returns : goal.returns
returns c = accepted_judged _ _ _ (read_book _ _ c.in_ok-read.ensures refl) c.judge_accepted.ensures
