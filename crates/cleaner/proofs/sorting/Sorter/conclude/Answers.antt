-- `cleaner::sorting::Sorter::conclude` meets its contract: deleted, held, or refused at a spent second search. Assumes nothing.
use Rattle.std.proofs.Common.{◌≡◌, length, rules}
use Rattle.sets.specs.paper.Kept.{zeros}
use Rattle.cleaner.proofs.SortingLaws.{concluded_deleted, concluded_held, concluded_spent}
use Rattle.cleaner.proofs.sorting.Sorter.conclude.Goals as goal

pub returns-in_default : goal.returns-in_default
returns-in_default c =
    let e : c.fill.new.self ≡ zeros (length c.args.sets.now) = search rules in
    rw e (concluded_spent _ _ _ _ _ c.in_default.ensures)

pub returns-then-sorted-self : goal.returns-then-sorted-self
returns-then-sorted-self c = concluded_deleted _ _ _ _ _ _ c.in-Some.ensures c.if-sorted-self.true

pub returns : goal.returns
returns c = concluded_held _ _ _ _ _ _ c.in-Some.ensures c.if-sorted-self.false
