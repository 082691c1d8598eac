-- `grammar::statements_end` meets its contract. Assumes nothing.
use Rattle.std.proofs.Common.{arith, sym, ap, ◌∙◌, subst}
use Rattle.grammar.specs.Places.{end_or}
use Rattle.grammar.proofs.PlaceLaws.{code_there, statement_forward, Passed, passed_start, passed_less, passed_more, passed_goal, passed_end}
use Rattle.grammar.proofs.statements_end.Goals as goal

pub loop-at-init : goal.loop-at-init
loop-at-init c = (omega arith, passed_start c.args.codes.now)

pub returns-in_err-at : goal.returns-in_err-at
returns-in_err-at c =
    let codes = c.args.codes.now in
    let at = c.loop-at.at in
    let inside = c.loop-at-test.true in
    let more = passed_more codes at c.loop-at.invariant.1 inside (λ e. c.if-codes-at-ne-QUERY.true (code_there codes at inside ∙ e)) in
    ap (end_or codes) c.from_residual.ensures ∙ (c.in_err-at.ensures ∙ sym (passed_end codes _ more c.in_err-at.ensures))

pub loop-at-smaller : goal.loop-at-smaller
loop-at-smaller c =
    let codes = c.args.codes.now in
    let less = passed_less codes c.loop-at.at c.loop-at-test.true in
    omega (arith, c.in_ok-at.ensures, less)

pub loop-at-preserved : goal.loop-at-preserved
loop-at-preserved c =
    let codes = c.args.codes.now in
    let at = c.loop-at.at in
    let inside = c.loop-at-test.true in (
      omega (arith, c.in_ok-at.ensures, (statement_forward codes).within at),
      subst (Passed codes) (sym c.in_ok-at.ensures)
          (passed_more codes at c.loop-at.invariant.1 inside (λ e. c.if-codes-at-ne-QUERY.true (code_there codes at inside ∙ e))),
    )

pub returns-else-codes-at-ne-QUERY : goal.returns-else-codes-at-ne-QUERY
returns-else-codes-at-ne-QUERY c =
    let codes = c.args.codes.now in
    let inside = c.loop-at-test.true in
    sym (passed_goal codes c.loop-at.at c.loop-at.invariant.1 inside (sym (code_there codes c.loop-at.at inside) ∙ c.if-codes-at-ne-QUERY.false))

pub returns-after-loop-at : goal.returns-after-loop-at
returns-after-loop-at c =
    let at = c.loop-at.at in
    sym (passed_end c.args.codes.now at c.loop-at.invariant.1 (omega (arith, c.loop-at.invariant.0, c.loop-at-test.false)))
