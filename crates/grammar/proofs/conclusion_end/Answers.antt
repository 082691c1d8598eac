-- `grammar::conclusion_end` meets its contract. Assumes nothing.
use Rattle.std.proofs.Common.{ap, ◌∙◌}
use Rattle.spelling.specs.Codes.{false_code}
use Rattle.grammar.specs.Places.{end_or, ways_end, conclusion_end}
use Rattle.grammar.proofs.PlaceLaws.{word_or}
use Rattle.grammar.proofs.conclusion_end.Goals as goal

pub returns : goal.returns
unfolding conclusion_end
returns c =
    let codes = c.args.codes.now in
    ap (end_or codes) c.or.ensures ∙ word_or codes false_code c.args.at (ways_end codes) c.word_end.result c.ways_end.result c.word_end.ensures c.ways_end.ensures
