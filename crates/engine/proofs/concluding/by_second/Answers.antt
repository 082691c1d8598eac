-- `engine::concluding::by_second` meets its contract: the ends of the second search. Assumes nothing.
use Rattle.std.proofs.Common.{ap, Ok, Err}
use native.Mathlib.Omega.{arith}
use Rattle.lister.specs.declared.NoAnswer.{NoAnswer}
use Rattle.admitting.specs.declared.Admission.{Admission}
use Rattle.admitting.specs.paper.Promise.{admission}
use Rattle.admitting.specs.AdmitLaws.{nodes_in}
use Rattle.engine.specs.VerdictLaws.{seconded_excluded, seconded_broken, more_nodes}
use Rattle.engine.proofs.VerdictLaws.{seconded_admitted, seconded_spent}
use Rattle.engine.proofs.concluding.by_second.Goals as goal

pub seek_book-requires : goal.seek_book-requires
seek_book-requires c = c.requires.seekable

pub overflow_add-result : goal.overflow_add-result
overflow_add-result c =
    omega (arith, more_nodes _ _ _ _ _ c.requires _ _ c.in-Ok-Admitted.ensures _ (ap (λ (a : Admission). nodes_in (admission (Ok a))) c.in-Ok-Admitted.field-0-is))

pub overflow_add-result-in-Ok-Excluded : goal.overflow_add-result-in-Ok-Excluded
overflow_add-result-in-Ok-Excluded c =
    omega (arith, more_nodes _ _ _ _ _ c.requires _ _ c.in-Ok-Excluded.ensures _ (ap (λ (a : Admission). nodes_in (admission (Ok a))) c.in-Ok-Excluded.field-0-is))

pub overflow_add-result-in-Err-Refused : goal.overflow_add-result-in-Err-Refused
overflow_add-result-in-Err-Refused c =
    omega (arith, more_nodes _ _ _ _ _ c.requires _ _ c.in-Err-Refused.ensures _ (ap (λ (e : NoAnswer). nodes_in (admission (Err e))) c.in-Err-Refused.field-0-is))

pub returns-in-Ok-Admitted : goal.returns-in-Ok-Admitted
returns-in-Ok-Admitted c =
    seconded_admitted _ _ _ _ _ _ c.requires _ _ c.in-Ok-Admitted.ensures _ (ap (λ (a : Admission). admission (Ok a)) c.in-Ok-Admitted.field-0-is)

pub returns-in-Ok-Excluded : goal.returns-in-Ok-Excluded
returns-in-Ok-Excluded c =
    seconded_excluded _ _ _ _ _ _ c.requires _ _ c.in-Ok-Excluded.ensures _ (ap (λ (a : Admission). admission (Ok a)) c.in-Ok-Excluded.field-0-is)

pub returns-in-Err-Broken : goal.returns-in-Err-Broken
returns-in-Err-Broken c =
    seconded_broken _ _ _ _ _ _ c.requires _ _ c.in-Err-Broken.ensures _ _ (ap (λ (e : NoAnswer). admission (Err e)) c.in-Err-Broken.field-0-is)

pub returns-in-Err-Refused : goal.returns-in-Err-Refused
returns-in-Err-Refused c =
    seconded_spent _ _ _ _ _ _ c.requires _ _ c.in-Err-Refused.ensures _ _ (ap (λ (e : NoAnswer). admission (Err e)) c.in-Err-Refused.field-0-is) _ c.clear.ensures
