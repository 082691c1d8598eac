-- `grammar::bracketed_end` meets its contract. Assumes nothing.
use Rattle.std.proofs.Common.{arith, ap, ◌∙◌, ℕ, Some, None}
use Rattle.spelling.specs.Codes.{close_code}
use Rattle.grammar.specs.Places.{end_or, word_end}
use Rattle.grammar.proofs.PlaceLaws.{then_word, none_word, with_word}
use Rattle.grammar.proofs.bracketed_end.Goals as goal

pub returns-in_err-item-in-Some : goal.returns-in_err-item-in-Some
returns-in_err-item-in-Some g c =
    let codes = c.args.codes.now in
    ap (end_or codes) c.from_residual.ensures
    ∙ with_word codes c.args.word c.args.at (λ (at : ℕ). word_end codes close_code (g.item_end at)) g.item_end c.in-Some.ensures
    (none_word codes (omega arith) (c.requires.1.1.1 c.in-Some.inside None c.in_err-item-in-Some.ensures))

pub returns-in-Some : goal.returns-in-Some
returns-in-Some g c =
    let codes = c.args.codes.now in
    with_word codes c.args.word c.args.at (λ (at : ℕ). word_end codes close_code (g.item_end at)) g.item_end c.in-Some.ensures
    (then_word codes close_code c.word_end-in-Some.result (c.requires.1.1.1 c.in-Some.inside (Some c.in_ok-item-in-Some.field-0) c.in_ok-item-in-Some.ensures) c.word_end-in-Some.ensures)
