-- `cleaner::sorting::Sorter::sort_all` meets its contract: what is sorted, with those still to come, is the whole. Assumes nothing.
use Rattle.std.proofs.Common.{ℕ, ◌≡◌, refl, sym, subst, ◌∙◌, add-one, arith}
use Rattle.cleaner.specs.declared.Sorted.{Sorted}
use Rattle.cleaner.specs.paper.Cleaning.{unsorted}
use Rattle.image.specs.paper.Faults.{limits}
use Rattle.sets.specs.SetLaws.{within_has}
use Rattle.cleaner.specs.Sorting.{Wiped, Coming}
use Rattle.cleaner.proofs.SortingLaws.{coming_start, coming_skip, coming_next, coming_over, coming_spent}
use Rattle.cleaner.proofs.sorting.Sorter.sort_all.Goals as goal
use Rattle.cleaner.proofs.sorting.Sorter.sort_all.Goals.{then-is_in+in_ok-sorted, else-is_in}

-- all four sets are empty
none_sorted : (s : Sorted) → s.unexplained ≡ 0 → s.needed ≡ 0 → s.possible ≡ 0 → s.excluded ≡ 0 → s ≡ unsorted
none_sorted s e f g h =
    let all : record { unexplained = s.unexplained; needed = s.needed; possible = s.possible; excluded = s.excluded } ≡ unsorted = simp (e, f, g, h) in
    all

pub loop-h-init : goal.loop-h-init
loop-h-init c =
    let d = c.default-sorted.ensures in
    record { same = refl; coming = subst (Coming _ _ _ _ 0) (sym (none_sorted c.default-sorted.result d.0 d.1.0 d.1.1.0 d.1.1.1)) (coming_start _ _ _ _) }

pub sort_one-requires : goal.sort_one-requires
sort_one-requires c =
    (within_has _ _ c.args.self.named _ (sym c.is_in.ensures ∙ c.if-is_in.true), subst Wiped (sym c.loop-h.invariant.same) c.requires)

pub returns-in_err-sorted : goal.returns-in_err-sorted
returns-in_err-sorted c =
    let spent = coming_spent _ _ _ _ _ _ c.loop-h-test.true (sym c.is_in.ensures ∙ c.if-is_in.true) c.in_err-sorted.ensures c.loop-h.invariant.coming in
    rw c.from_residual.ensures (record { answer = spent.answer; work = spent.work ∙ c.loop-h.invariant.same })

pub loop-h-preserved : goal.loop-h-preserved
loop-h-preserved c =
    let same = c.loop-h.invariant.same in
    let coming = c.loop-h.invariant.coming in
    elim c.if-is_in.branch [
      | then-is_in+in_ok-sorted w ↦
          record {
            same = w.work-is ∙ w.sort_one.ensures.work ∙ same;
            coming = rw (add-one, w.sorted-is) (coming_next _ _ _ _ _ _ _ c.loop-h-test.true (sym c.is_in.ensures ∙ w.if-is_in.true) w.in_ok-sorted.ensures coming);
          }
      | else-is_in w ↦
          record {
            same = w.work-is ∙ same;
            coming = rw (add-one, w.sorted-is) (coming_skip _ _ _ _ _ _ c.loop-h-test.true (sym c.is_in.ensures ∙ w.if-is_in.false) coming);
          }
    ]

pub returns : goal.returns
returns c =
    let end : c.loop-h.h ≡ limits.abducibles = omega arith in
    let a = c.args.self in
    let all = subst (λ (h : ℕ). Coming a.image.now a.hypotheses a.budget a.listed h c.loop-h.sorted) end c.loop-h.invariant.coming in
    let over = coming_over _ _ _ _ c.loop-h.sorted all c.args.work.now in
    record { answer = over.answer; work = c.loop-h.invariant.same }
