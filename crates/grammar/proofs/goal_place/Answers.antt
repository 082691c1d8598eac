-- `grammar::goal_place` meets its contract. Assumes nothing.
use Rattle.std.specs.Prelude.{length}
use Rattle.std.proofs.Common.{arith, sym, ap, ◌∙◌, eq-eqb, ne_eqb}
use Rattle.base.specs.Bools.{choose_true, choose_false}
use Rattle.spelling.specs.Codes.{query_code}
use Rattle.grammar.specs.Places.{goal_from, goal_place}
use Rattle.grammar.proofs.PlaceLaws.{no_query, stands_not}
use Rattle.grammar.proofs.goal_place.Goals as goal

pub returns-in_err-at : goal.returns-in_err-at
unfolding goal_place
returns-in_err-at c =
    let codes = c.args.codes.now in
    c.from_residual.ensures
    ∙ sym (choose_false _ _ (no_query codes (length codes) (stands_not codes query_code (length codes) (omega arith) (omega arith))))
    ∙ ap (goal_from codes) c.in_err-at.ensures

pub returns-in_err-end : goal.returns-in_err-end
unfolding goal_place
returns-in_err-end c =
    let codes = c.args.codes.now in
    c.from_residual-in_err-end.ensures ∙ sym (choose_false _ _ c.in_err-end.ensures) ∙ ap (goal_from codes) c.in_ok-at.ensures

pub returns-then-end-codes : goal.returns-then-end-codes
unfolding goal_place
returns-then-end-codes c =
    let codes = c.args.codes.now in
    sym (choose_true _ _ (c.in_ok-end.ensures ∙ eq-eqb _ _ c.if-end-codes.true)) ∙ ap (goal_from codes) c.in_ok-at.ensures

pub returns-else-end-codes : goal.returns-else-end-codes
unfolding goal_place
returns-else-end-codes c =
    let codes = c.args.codes.now in
    sym (choose_false _ _ (c.in_ok-end.ensures ∙ ne_eqb _ _ c.if-end-codes.false)) ∙ ap (goal_from codes) c.in_ok-at.ensures
