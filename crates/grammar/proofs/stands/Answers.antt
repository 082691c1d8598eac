-- `grammar::stands` meets its contract. Assumes nothing.
use Rattle.std.proofs.Common.{ap, eqb, ℕ, sym, ◌∙◌}
use Rattle.std.proofs.lemmas.Bool.{le-ltb}
use Rattle.grammar.proofs.PlaceLaws.{code_there, stands_not}
use Rattle.grammar.proofs.stands.Goals as goal

pub returns-then-at-codes : goal.returns-then-at-codes
returns-then-at-codes c = ap (λ (code : ℕ). eqb code c.args.word) (code_there c.args.codes.now c.args.at c.if-at-codes.true)

pub returns-else-at-codes : goal.returns-else-at-codes
returns-else-at-codes c = le-ltb _ _ c.if-at-codes.false ∙ sym (stands_not c.args.codes.now c.args.word c.args.at c.requires c.if-at-codes.false)
