-- `grammar::statement_end` meets its contract. Assumes nothing.
use Rattle.std.specs.Prelude.{ℕ, List, false, ◌≡◌, length}
use Rattle.std.proofs.Common.{arith, sym, ap, ◌∙◌}
use Rattle.base.specs.Bools.{choose_true, choose_false}
use Rattle.spelling.specs.Codes.{dot_code, neck_code}
use Rattle.grammar.specs.Places.{end_or, stands, atom_end, body_end, from_head, constraint_end, statement_end}
use Rattle.grammar.proofs.PlaceLaws.{stands_among, stands_not, then_word, none_word}
use Rattle.grammar.proofs.statement_end.Goals as goal
use Rattle.grammar.proofs.statement_end.Goals.{in_default-via-in-Some-2+else-stands-2, in_default-via-in_default}

pub overflow_add-result : goal.overflow_add-result
overflow_add-result c =
    let here = stands_among c.args.codes.now dot_code c.in-Some.head (omega arith) (sym c.if-stands.ensures) in
    omega arith

pub overflow_add-head : goal.overflow_add-head
overflow_add-head c =
    let here = stands_among c.args.codes.now neck_code c.in-Some.head (omega arith) (sym c.if-stands-2.ensures) in
    omega arith

pub returns-in-Some : goal.returns-in-Some
unfolding statement_end
returns-in-Some c =
    sym (choose_true _ _ (sym c.if-stands.ensures)) ∙ ap (λ (head : ℕ). from_head c.args.codes.now head c.args.at) c.in-Some.ensures

pub returns-in_err-body-in-Some-2 : goal.returns-in_err-body-in-Some-2
unfolding statement_end body_end
returns-in_err-body-in-Some-2 c =
    let codes = c.args.codes.now in
    ap (end_or codes) c.from_residual.ensures
    ∙ none_word codes (omega arith) c.in_err-body-in-Some-2.ensures
    ∙ sym (choose_true _ _ (sym c.if-stands-2.ensures))
    ∙ sym (choose_false _ _ (sym c.if-stands.ensures))
    ∙ ap (λ (head : ℕ). from_head codes head c.args.at) c.in-Some.ensures

pub returns-in_ok-body-in-Some-2 : goal.returns-in_ok-body-in-Some-2
unfolding statement_end body_end
returns-in_ok-body-in-Some-2 c =
    let codes = c.args.codes.now in
    then_word codes dot_code c.word_end.result c.in_ok-body-in-Some-2.ensures c.word_end.ensures
    ∙ sym (choose_true _ _ (sym c.if-stands-2.ensures))
    ∙ sym (choose_false _ _ (sym c.if-stands.ensures))
    ∙ ap (λ (head : ℕ). from_head codes head c.args.at) c.in-Some.ensures

-- no clause begins at a head behind which neither "." nor ":-" stands
other : (codes : List ℕ) (head at : ℕ) → stands codes dot_code head ≡ false → stands codes neck_code head ≡ false → head ≡ atom_end codes at
    → constraint_end codes at ≡ statement_end codes at
unfolding statement_end
other codes head at d n e = sym (choose_false _ _ n) ∙ sym (choose_false _ _ d) ∙ ap (λ (head : ℕ). from_head codes head at) e

pub returns-in_default : goal.returns-in_default
returns-in_default c =
    let codes = c.args.codes.now in
    c.constraint_end.ensures
    ∙ (elim c.in_default.branch [
      | in_default-via-in-Some-2+else-stands-2 w ↦ other codes _ c.args.at (sym w.if-stands.ensures) (sym w.if-stands-2.ensures) w.in-Some.ensures
      | in_default-via-in_default w ↦
          other codes _ c.args.at (stands_not codes dot_code (length codes) (omega arith) (omega arith))
          (stands_not codes neck_code (length codes) (omega arith) (omega arith)) w.in_default.ensures
    ])
