-- `naming::Table::take_word` meets its contract. Assumes nothing.
use mathlib.Core.Path.{◌≡◌, sym, ◌∙◌}
use mathlib.Core.Bool.{true}
use Rattle.spelling.specs.paper.Words.{is_name}
use Rattle.cutting.specs.CutOff.{word_at}
use Rattle.naming.specs.Words.{code_name, code_other, past, sought, word_name, word_fixed}
use Rattle.naming.proofs.Table.take_word.Goals as goal
use Rattle.naming.proofs.Table.take_word.Goals.{Then-cut-eq-NAMES}

-- the word is a name
named : (m : Then-cut-eq-NAMES) → is_name (word_at m.args.text.now m.args.at) ≡ true
named m = code_name _ (sym m.word_at-cut.ensures.code ∙ m.if-cut-eq-NAMES.true)

pub take_name-code-requires : goal.take_name-code-requires
take_name-code-requires c =
    let w = c.word_at-cut in
    record { sought = sought w.ensures c.requires.at_in_bounds.1 (named (goal.at.take_name-code-requires c).Then-cut-eq-NAMES); listed = c.requires.listed }

pub returns-then-cut-eq-NAMES : goal.returns-then-cut-eq-NAMES
returns-then-cut-eq-NAMES c =
    let w = c.word_at-cut in
    record { past = past w.ensures; taken = λ names d. word_name w.ensures (named (goal.at.returns-then-cut-eq-NAMES c).Then-cut-eq-NAMES) (c.take_name-code.ensures names d) }

pub returns-else-cut-eq-NAMES : goal.returns-else-cut-eq-NAMES
returns-else-cut-eq-NAMES c =
    let w = c.word_at-cut in
    record { past = past w.ensures; taken = λ names d. word_fixed w.ensures (code_other _ (λ q. c.if-cut-eq-NAMES.false (w.ensures.code ∙ q))) d }
