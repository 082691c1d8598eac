-- `cutting::word_at` meets its contract. Assumes nothing.
use native.Mathlib.Omega.{arith}
use mathlib.Core.Path.{sym, ◌∙◌}
use Rattle.spelling.specs.Table.{name_at}
use Rattle.cutting.specs.RunCodes.{long_bare, run_coded}
use Rattle.cutting.specs.Off.{abd_fixed, naf_fixed, fixed_off, no_run, bare_off, unopened_off}
use Rattle.cutting.proofs.word_at.Goals as goal

pub sign_at-requires : goal.sign_at-requires
sign_at-requires c =
    let s = c in (
      s.requires.0,
      s.requires.1,
      no_run c.run_at-end.ensures c.if-end-at.true,
    )

pub returns-then-end-at-gt5 : goal.returns-then-end-at-gt5
returns-then-end-at-gt5 c =
    let args = c.args in
    let run = c.run_at-end.ensures in
    let none = long_bare (name_at args.text.now args.at) (omega arith) in
    bare_off run (omega arith) none
    (c.name_code.ensures ∙ run_coded args.text.now args.at c.run_at-end.result.end (omega arith) run.within run.long none)

pub returns-then-begins : goal.returns-then-begins
returns-then-begins c = fixed_off _ _ abd_fixed (sym c.begins.ensures ∙ c.if-begins.true) c.fixed.ensures

pub returns-then-begins-2 : goal.returns-then-begins-2
returns-then-begins-2 c = fixed_off _ _ naf_fixed (sym c.begins-2.ensures ∙ c.if-begins-2.true) c.fixed-then-begins-2.ensures

pub returns : goal.returns
returns c =
    unopened_off c.run_at-end.ensures (omega arith) (sym c.begins.ensures ∙ c.if-begins.false)
    (sym c.begins-2.ensures ∙ c.if-begins-2.false) c.run_code.ensures
