-- `cutting::run_code` meets its contract. Assumes nothing.
use native.Mathlib.Omega.{arith}
use mathlib.Core.Path.{sym, ◌∙◌}
use Rattle.base.specs.Lists.{every_none, every_more}
use Rattle.spelling.specs.Table.{name_at}
use Rattle.cutting.specs.Entries.{unmet_first, unmet_more, each_entry}
use Rattle.cutting.specs.RunCodes.{CodedEntry, true_run, false_run, abd_run, naf_run, not_bare, run_coded}
use Rattle.cutting.proofs.run_code.Goals as goal

pub loop-word-init : goal.loop-word-init
loop-word-init c = unmet_first _ _

pub returns-then-is_run : goal.returns-then-is_run
returns-then-is_run c =
    let run = name_at c.args.text.now c.args.at in
    let coded = every_more (true_run run) (every_more (false_run run) (every_more (abd_run run) (every_more (naf_run run) (every_none (CodedEntry run))))) in
    each_entry _ coded c.loop-word.word-index c.loop-word-test.true (sym c.is_run.ensures ∙ c.if-is_run.true)

pub loop-word-preserved : goal.loop-word-preserved
loop-word-preserved c = unmet_more _ _ _ c.loop-word.invariant (sym c.is_run.ensures ∙ c.if-is_run.false)

pub returns : goal.returns
returns c =
    let past = c.loop-word-test.false in
    let unmet = c.loop-word.invariant.each in
    let none = not_bare _ (unmet 0 (omega arith)) (unmet 1 (omega arith)) (unmet 2 (omega arith)) (unmet 3 (omega arith)) in
    c.name_code.ensures ∙ run_coded c.args.text.now c.args.at c.args.end c.requires.0 c.requires.1 c.requires.2 none
