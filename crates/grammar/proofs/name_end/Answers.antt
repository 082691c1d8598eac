-- `grammar::name_end` meets its contract. Assumes nothing.
use Rattle.std.proofs.Common.{sym}
use native.Mathlib.Omega.{arith}
use Rattle.grammar.specs.Places.{name_end}
use Rattle.grammar.proofs.PlaceLaws.{code_there, behind_all, named, nameless}
use Rattle.grammar.proofs.name_end.Goals as goal
use Rattle.grammar.proofs.name_end.Goals.{else-at-codes-via-then-at-codes+else-codes-at-ge-NAMES, else-at-codes-via-else-at-codes}

pub returns-then-codes-at-ge-NAMES : goal.returns-then-codes-at-ge-NAMES
unfolding name_end
returns-then-codes-at-ge-NAMES c = sym (named _ _ _ _ (omega (arith, code_there c.args.codes.now c.args.at c.if-at-codes.true)))

pub returns-else-at-codes : goal.returns-else-at-codes
unfolding name_end
returns-else-at-codes c =
    let a = c.args in
    elim c.else-at-codes.branch [
      | else-at-codes-via-then-at-codes+else-codes-at-ge-NAMES w ↦ sym (nameless _ _ _ _ (omega (arith, code_there a.codes.now a.at w.if-at-codes.true)))
      | else-at-codes-via-else-at-codes w ↦ sym (nameless _ _ _ _ (omega (arith, behind_all a.codes.now a.at w.if-at-codes.false)))
    ]
