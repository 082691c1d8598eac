-- `naming::Table::take_words` meets its contract. Assumes nothing.
use native.Mathlib.Omega.{arith}
use Rattle.naming.specs.Taken.{taking_none, taking_more, taking_all}
use Rattle.naming.proofs.Table.take_words.Goals as goal

pub loop-at-init : goal.loop-at-init
loop-at-init c = taking_none c.requires c.blanks_end-at.ensures

pub take_word-word-requires : goal.take_word-word-requires
take_word-word-requires c =
    let l = c.loop-at in
    record { at_in_bounds = (c.loop-at-test.true, c.requires.short); listed = (l.invariant.table, l.invariant.listed) }

pub offset_bounds-codes-words : goal.offset_bounds-codes-words
offset_bounds-codes-words c = omega (arith, c.loop-at.invariant.short)

pub bounds-codes-words : goal.bounds-codes-words
bounds-codes-words c = omega (arith, c.loop-at.invariant.short)

pub overflow_add-words : goal.overflow_add-words
overflow_add-words c = omega (arith, c.loop-at.invariant.short)

pub blanks_end-at-requires-in-loop-at : goal.blanks_end-at-requires-in-loop-at
blanks_end-at-requires-in-loop-at c = c.take_word-word.ensures.past.within

pub loop-at-smaller : goal.loop-at-smaller
loop-at-smaller c = omega (arith, c.blanks_end-at-in-loop-at.ensures.ahead, c.take_word-word.ensures.past.ahead, c.loop-at-test.true)

pub loop-at-preserved : goal.loop-at-preserved
loop-at-preserved c =
    let l = c.loop-at in
    let w = c.take_word-word in
    taking_more l.invariant c.loop-at-test.true c.requires.short w.ensures.past c.blanks_end-at-in-loop-at.ensures (w.ensures.taken l.invariant.table l.invariant.listed)

pub returns : goal.returns
returns c = taking_all c.loop-at.invariant (omega arith)
