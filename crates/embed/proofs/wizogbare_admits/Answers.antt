-- `embed::wizogbare_admits` meets its contract. Assumes nothing.
use Rattle.std.proofs.Common.{Err, arith}
use Rattle.lister.specs.declared.NoAnswer.{NoAnswer}
use Rattle.lister.specs.declared.NoAnswer.TheVariants as none
use Rattle.admitting.specs.paper.Promise.{admission}
use Rattle.embed.specs.Bounds.{NoAnswerWithin, AdmissionWithin, admission_within}
use Rattle.embed.proofs.wizogbare_admits.Goals as goal

-- the place of an image's own refusal is one
placed : (e : NoAnswer) → AdmissionWithin (admission (Err e)) → NoAnswerWithin e
placed (none.Broken fault) few = few.place
placed (none.Refused refusal n) few = tt

pub no_answer_code-requires : goal.no_answer_code-requires
no_answer_code-requires c = (omega arith, placed c.in-Err.no (admission_within _ _ _ _ _ _ c.in-Err.ensures))
