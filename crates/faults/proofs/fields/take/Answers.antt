-- `faults::fields::take` meets its contract. Assumes nothing.
use Rattle.std.proofs.Common.{sym, ◌∙◌}
use Rattle.base.specs.Bools.{choose_true}
use Rattle.image.specs.WalkLaws.{field_missing, field_by}
use Rattle.faults.proofs.fields.take.Goals as goal

pub returns-then-not-is_there : goal.returns-then-not-is_there
returns-then-not-is_there g c = λ faults h. sym (field_missing _ faults _ (sym c.is_there.ensures ∙ c.if-not-is_there.true))

pub returns-in-Ok : goal.returns-in-Ok
returns-in-Ok g c =
    λ faults finds.
    sym (choose_true _ _ (sym c.is_there.ensures ∙ c.if-not-is_there.false))
    ∙ field_by _ faults _ _ _ (λ _. c.field_at-x.ensures.0) (finds _ _ c.field_at-x.ensures.1 c.in-Ok.ensures)

pub returns-in-Err : goal.returns-in-Err
returns-in-Err g c =
    λ faults finds.
    sym (choose_true _ _ (sym c.is_there.ensures ∙ c.if-not-is_there.false))
    ∙ field_by _ faults _ _ _ (λ _. c.field_at-x.ensures.0) (finds _ _ c.field_at-x.ensures.1 c.in-Err.ensures)
