-- `writer::literals::write_names` meets its contract. Assumes nothing.
use Rattle.std.specs.Prelude.{ℕ, [], ◌∷◌, ◌+◌, ◌*◌, ◌≤◌, length, get_or}
use Rattle.std.proofs.Common.{arith, sym, ap, subst, ◌∙◌, refl}
use Rattle.image.specs.Laid.{laid}
use Rattle.writer.specs.Names.{Naming, naming_length, naming_end, naming_other, naming_room, naming_name}
use Rattle.writer.proofs.literals.write_names.Goals as goal
use Rattle.writer.proofs.literals.write_names.Goals.{Else-code-lt-NAMES}

-- there is room for the field
room : (e : Else-code-lt-NAMES) → e.loop-code.end + 2 ≤ length e.loop-code.image
room e = naming_room _ _ _ _ _ e.requires.0 e.loop-code.invariant e.loop-code-test.true _ refl e.if-code-lt-NAMES.false e.requires.2

pub loop-code-preserved-then-code-lt-NAMES : goal.loop-code-preserved-then-code-lt-NAMES
loop-code-preserved-then-code-lt-NAMES c =
    let a = c.args in
    let l = c.loop-code in
    subst (λ (sign : ℕ). Naming a.part.now a.numbers.now a.factor a.image.now a.at l.image (l.code-index + 1) l.end l.times sign) (sym c.sign_after-sign.ensures)
    (naming_other _ _ _ _ _ c.requires.0 l.invariant c.loop-code-test.true _ refl c.if-code-lt-NAMES.true)

pub put_field-requires : goal.put_field-requires
put_field-requires c = room (goal.at.put_field-requires c).Else-code-lt-NAMES

pub overflow_add-end : goal.overflow_add-end
overflow_add-end c =
    omega (arith, room (goal.at.overflow_add-end c).Else-code-lt-NAMES, naming_length _ _ _ _ _ c.requires.0 c.loop-code.invariant)

pub loop-code-preserved : goal.loop-code-preserved
loop-code-preserved c =
    let l = c.loop-code in
    naming_name _ _ _ _ _ c.requires.0 l.invariant c.loop-code-test.true _ refl c.if-code-lt-NAMES.false
    (c.put_field.ensures ∙ ap (λ (n : ℕ). laid l.image l.end ((l.times * n + l.sign) ∷ []))
    (c.from-number.ensures ∙ ap (λ (i : ℕ). get_or c.args.numbers.now i 0) c.from.ensures))

pub returns : goal.returns
returns c = naming_end _ _ _ _ _ c.requires.0 c.loop-code.invariant c.loop-code-test.false
