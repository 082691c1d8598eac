-- `memory::agenda::enter` meets its contract. Assumes nothing.
use mathlib.Core.Path.{refl}
use Rattle.memory.specs.Enter.{list_layable, entered_literal, entered_none, entered_part}
use Rattle.memory.proofs.agenda.enter.Goals as goal

pub returns-then-list-lt-LITERAL_NUMBERS : goal.returns-then-list-lt-LITERAL_NUMBERS
returns-then-list-lt-LITERAL_NUMBERS c = entered_literal _ _ c.requires _ c.if-list-lt-LITERAL_NUMBERS.true refl

pub returns-then-list-eq-NO_LIST : goal.returns-then-list-eq-NO_LIST
returns-then-list-eq-NO_LIST c = entered_none _ _ c.requires _ c.if-list-eq-NO_LIST.true refl

pub lay-link-requires : goal.lay-link-requires
lay-link-requires c = list_layable _ _ c.requires

pub returns : goal.returns
returns c = entered_part _ _ c.requires _ _ _ c.if-list-lt-LITERAL_NUMBERS.false c.if-list-eq-NO_LIST.false c.lay-link.ensures refl
