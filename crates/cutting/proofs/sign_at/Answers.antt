-- `cutting::sign_at` meets its contract. Assumes nothing.
use native.Mathlib.Omega.{arith}
use mathlib.Core.Path.{sym, ◌∙◌}
use Rattle.base.specs.Lists.{every_none, every_more}
use Rattle.cutting.specs.Entries.{unmet_first, unmet_more, each_entry}
use Rattle.cutting.specs.Off.{FixedEntry, close_fixed, comma_fixed, neck_fixed, semicolon_fixed, dot_fixed, arrow_fixed, query_fixed, fixed_off, other_off}
use Rattle.cutting.proofs.sign_at.Goals as goal

pub loop-word-init : goal.loop-word-init
loop-word-init c = unmet_first _ _

pub returns-then-begins : goal.returns-then-begins
returns-then-begins c =
    let fixed =
    every_more comma_fixed
    (every_more close_fixed
    (every_more dot_fixed
    (every_more neck_fixed (every_more semicolon_fixed (every_more arrow_fixed (every_more query_fixed (every_none FixedEntry))))))) in
    fixed_off _ _ (each_entry _ fixed c.loop-word.word-index c.loop-word-test.true) (sym c.begins.ensures ∙ c.if-begins.true) c.fixed.ensures

pub loop-word-preserved : goal.loop-word-preserved
loop-word-preserved c = unmet_more _ _ _ c.loop-word.invariant (sym c.begins.ensures ∙ c.if-begins.false)

pub returns : goal.returns
returns c =
    let pre = c.requires in
    let past = c.loop-word-test.false in
    let unmet = c.loop-word.invariant.each in
    other_off _ _ pre.0 pre.2 (unmet 0 (omega arith)) (unmet 1 (omega arith)) (unmet 2 (omega arith)) (unmet 3 (omega arith)) (unmet 4 (omega arith))
    (unmet 5 (omega arith)) (unmet 6 (omega arith)) c.fixed-2.ensures
