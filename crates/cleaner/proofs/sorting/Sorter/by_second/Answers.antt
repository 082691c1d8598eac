-- `cleaner::sorting::Sorter::by_second` meets its contract: the ends of the second search. Assumes nothing.
use Rattle.std.proofs.Common.{ℕ, ◌≡◌, Some, None, Ok, Err, refl}
use Rattle.lister.specs.declared.NoAnswer.{NoAnswer}
use Rattle.lister.specs.declared.NoAnswer.TheVariants as none
use Rattle.admitting.specs.declared.Admission.{Admission}
use Rattle.admitting.specs.declared.Admission.TheVariants as answer
use Rattle.admitting.specs.paper.Promise.{admission}
use Rattle.cleaner.specs.paper.Cleaning.{with}
use Rattle.cleaner.specs.declared.Sorted.{Sorted}
use Rattle.cleaner.proofs.SortingLaws.{hypothesis_small, by_admission, seconded}
use Rattle.cleaner.proofs.sorting.Sorter.by_second.Goals as goal

pub with_member-requires : goal.with_member-requires
with_member-requires c = hypothesis_small _ _ c.args.self.book c.requires.0

pub with_member-requires-in-Ok-Excluded : goal.with_member-requires-in-Ok-Excluded
with_member-requires-in-Ok-Excluded c = hypothesis_small _ _ c.args.self.book c.requires.0

-- what is sorted behind each answer
admitted_sorted : (h n x : ℕ) (found : Admission) (s : Sorted) → found ≡ answer.Admitted n → x ≡ with h s.possible
    → Some (record { unexplained = s.unexplained; needed = s.needed; possible = x; excluded = s.excluded }) ≡ by_admission h (admission (Ok found)) s
admitted_sorted h n x found s e i = rw (e, i)

excluded_sorted : (h n x : ℕ) (found : Admission) (s : Sorted) → found ≡ answer.Excluded n → x ≡ with h s.excluded
    → Some (record { unexplained = s.unexplained; needed = s.needed; possible = s.possible; excluded = x }) ≡ by_admission h (admission (Ok found)) s
excluded_sorted h n x found s e i = rw (e, i)

none_sorted : (h : ℕ) (e : NoAnswer) (s : Sorted) → None ≡ by_admission h (admission (Err e)) s
none_sorted h (none.Broken fault) s = refl
none_sorted h (none.Refused refusal n) s = refl

pub returns-in-Ok-Admitted : goal.returns-in-Ok-Admitted
returns-in-Ok-Admitted c =
    seconded _ _ _ c.args.self.book c.requires.0 c.args.self.low c.requires.1 c.in-Ok-Admitted.ensures _ _
    (admitted_sorted _ _ _ _ _ c.in-Ok-Admitted.field-0-is c.with_member.ensures)

pub returns-in-Ok-Excluded : goal.returns-in-Ok-Excluded
returns-in-Ok-Excluded c =
    seconded _ _ _ c.args.self.book c.requires.0 c.args.self.low c.requires.1 c.in-Ok-Excluded.ensures _ _
    (excluded_sorted _ _ _ _ _ c.in-Ok-Excluded.field-0-is c.with_member-in-Ok-Excluded.ensures)

pub returns-in-Err : goal.returns-in-Err
returns-in-Err c = seconded _ _ _ c.args.self.book c.requires.0 c.args.self.low c.requires.1 c.in-Err.ensures _ _ (none_sorted _ c.in-Err.field-0 _)
