-- `grammar::constraint_end` meets its contract. Assumes nothing.
use Rattle.std.proofs.Common.{arith, ap, ◌∙◌, Some, None}
use Rattle.spelling.specs.Codes.{arrow_code, dot_code}
use Rattle.grammar.specs.Places.{end_or, conclusion_end, constraint_end}
use Rattle.grammar.proofs.PlaceLaws.{then_word, none_word, none_then, conclusion_forward}
use Rattle.grammar.proofs.constraint_end.Goals as goal

pub returns-in_err-side : goal.returns-in_err-side
unfolding constraint_end
returns-in_err-side c =
    let codes = c.args.codes.now in
    ap (end_or codes) c.from_residual.ensures
    ∙ none_word codes (omega arith) (none_then codes (conclusion_forward codes) (none_word codes (omega arith) c.in_err-side.ensures))

pub returns-in_err-arrow : goal.returns-in_err-arrow
unfolding constraint_end
returns-in_err-arrow c =
    let codes = c.args.codes.now in
    ap (end_or codes) c.from_residual-in_err-arrow.ensures
    ∙ none_word codes (omega arith) (none_then codes (conclusion_forward codes) (then_word codes arrow_code None c.in_ok-side.ensures c.in_err-arrow.ensures))

pub returns-in_err-conclusion : goal.returns-in_err-conclusion
unfolding constraint_end
returns-in_err-conclusion c =
    let codes = c.args.codes.now in
    ap (end_or codes) c.from_residual-in_err-conclusion.ensures
    ∙ none_word codes (omega arith)
    (c.in_err-conclusion.ensures ∙ ap (conclusion_end codes) (then_word codes arrow_code (Some c.in_ok-arrow.arrow) c.in_ok-side.ensures c.in_ok-arrow.ensures))

pub returns : goal.returns
unfolding constraint_end
returns c =
    let codes = c.args.codes.now in
    then_word codes dot_code c.word_end-2.result
    (c.in_ok-conclusion.ensures ∙ ap (conclusion_end codes) (then_word codes arrow_code (Some c.in_ok-arrow.arrow) c.in_ok-side.ensures c.in_ok-arrow.ensures))
    c.word_end-2.ensures
