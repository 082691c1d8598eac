-- `cleaner::sorting::Sorter::sort_all` meets its contract: what is sorted, with those still to come, is the whole. Assumes nothing.
use Rattle.std.proofs.Common.{◌≡◌}
use Rattle.cleaner.specs.Sorting.{Coming}
use Rattle.cleaner.proofs.sorting.Sorter.sort_all.Given as given

abbrev pub invariant-loop-h : given.invariant-loop-h
invariant-loop-h l =
    record {
      same : l.work ≡ l.initial.work;
      coming : Coming l.self.image.now l.self.hypotheses l.self.budget l.self.listed l.h l.sorted;
    }
