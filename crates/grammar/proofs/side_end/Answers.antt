-- `grammar::side_end` meets its contract. Assumes nothing.
use Rattle.std.proofs.Common.{ap, ◌∙◌}
use Rattle.spelling.specs.Codes.{true_code}
use Rattle.grammar.specs.Places.{end_or, literals_end, side_end}
use Rattle.grammar.proofs.PlaceLaws.{word_or}
use Rattle.grammar.proofs.side_end.Goals as goal

pub returns : goal.returns
unfolding side_end
returns c =
    let codes = c.args.codes.now in
    ap (end_or codes) c.or.ensures ∙ word_or codes true_code c.args.at (literals_end codes) c.word_end.result c.literals_end.result c.word_end.ensures c.literals_end.ensures
