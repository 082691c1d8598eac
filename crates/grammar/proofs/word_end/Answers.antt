-- `grammar::word_end` meets its contract. Assumes nothing.
use Rattle.std.proofs.Common.{arith, sym, ◌∙◌}
use Rattle.grammar.proofs.PlaceLaws.{stands_among}
use Rattle.grammar.proofs.word_end.Goals as goal

pub overflow_add-result : goal.overflow_add-result
overflow_add-result c = omega (arith, stands_among c.args.codes.now c.args.word c.args.at c.requires (sym c.stands.ensures ∙ c.if-stands.true))
