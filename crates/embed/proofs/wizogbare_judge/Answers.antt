-- `embed::wizogbare_judge` meets its contract. Assumes nothing.
use Rattle.std.proofs.Common.{◌≡◌, Err, subst, ap, arith}
use Rattle.image.specs.declared.refusals.Fault.{Fault}
use Rattle.image.specs.paper.Refusals.{number_of}
use Rattle.judging.specs.declared.NoJudgement.{NoJudgement}
use Rattle.judging.specs.declared.NoJudgement.TheVariants as none
use Rattle.judging.specs.paper.Judged.{judgement}
use Rattle.embed.specs.Bounds.{BrokenAt, JudgementWithin, judgement_within}
use Rattle.embed.proofs.wizogbare_judge.Goals as goal

-- the image's own refusal has a small number, and a place of the image
few : (e : NoJudgement) (fault : Fault) → e ≡ none.Broken fault → JudgementWithin (judgement (Err e)) → BrokenAt (number_of fault.refusal) fault.place
few e fault is k = subst JudgementWithin (ap (λ (e : NoJudgement). judgement (Err e)) is) k

pub broken_code-requires : goal.broken_code-requires
broken_code-requires c = (few _ _ c.in-Err-Broken.field-0-is (judgement_within _ _ _ c.in-Err-Broken.ensures)).place

pub overflow_add-result-in-Err-Broken : goal.overflow_add-result-in-Err-Broken
overflow_add-result-in-Err-Broken c =
    let k = few _ _ c.in-Err-Broken.field-0-is (judgement_within _ _ _ c.in-Err-Broken.ensures) in
    omega (arith, c.broken_code.ensures, k.number.most, k.place)
