-- `cleaner::sorting::Sorter::sort_one` meets its contract: the list decides, or the second search. Assumes nothing.
use Rattle.std.proofs.Common.{sym, ◌∙◌}
use Rattle.cleaner.proofs.SortingLaws.{hypothesis_small, one_unexplained, one_needed, one_possible, one_second}
use Rattle.cleaner.proofs.sorting.Sorter.sort_one.Goals as goal

pub with_member-requires : goal.with_member-requires
with_member-requires c = hypothesis_small _ _ c.args.self.book c.requires.0

pub returns-then-self-eq0 : goal.returns-then-self-eq0
returns-then-self-eq0 c = one_unexplained _ _ _ _ _ _ c.if-self-eq0.true _ cc

pub is_in-requires : goal.is_in-requires
is_in-requires c = hypothesis_small _ _ c.args.self.book c.requires.0

pub with_member-requires-then-is_in : goal.with_member-requires-then-is_in
with_member-requires-then-is_in c = hypothesis_small _ _ c.args.self.book c.requires.0

pub returns-then-is_in : goal.returns-then-is_in
returns-then-is_in c = one_needed _ _ _ _ _ _ c.if-self-eq0.false (sym c.is_in.ensures ∙ c.if-is_in.true) _ cc

pub is_in-requires-2 : goal.is_in-requires-2
is_in-requires-2 c = hypothesis_small _ _ c.args.self.book c.requires.0

pub with_member-requires-then-is_in-2 : goal.with_member-requires-then-is_in-2
with_member-requires-then-is_in-2 c = hypothesis_small _ _ c.args.self.book c.requires.0

pub returns-then-is_in-2 : goal.returns-then-is_in-2
returns-then-is_in-2 c =
    one_possible _ _ _ _ _ _ c.if-self-eq0.false (sym c.is_in.ensures ∙ c.if-is_in.false) (sym c.is_in-2.ensures ∙ c.if-is_in-2.true) _ cc

pub returns : goal.returns
returns c =
    one_second _ _ _ _ _ _ c.if-self-eq0.false (sym c.is_in.ensures ∙ c.if-is_in.false) (sym c.is_in-2.ensures ∙ c.if-is_in-2.false) c.by_second.ensures
