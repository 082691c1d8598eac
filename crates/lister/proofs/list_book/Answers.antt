-- `lister::list_book` meets its contract. Assumes nothing.
use Rattle.std.proofs.Common.{ℕ, List, ◌++◌, length, take, drop, sym, ap, subst, length-take, length-append, length-drop, arith}
use Rattle.std.proofs.Math.Seq.{length-take-le}
use Rattle.sets.specs.KeptLaws.{sort_length}
use Rattle.image.specs.paper.Refusals.{number_of}
use Rattle.image.specs.declared.refusals.Refusal.{Refusal}
use Rattle.lister.specs.PromiseLaws.{searched_lists}
use Rattle.lister.specs.Whole.{few_nodes, count_fits, ends_listed, ends_short, ends_full}
use Rattle.lister.specs.paper.Promise.{Refused, Lists}
use Rattle.lister.proofs.list_book.Goals as goal
use Rattle.lister.proofs.list_book.Goals.{in-UsedUp, in-NoRoom}

pub search-requires : goal.search-requires
search-requires c = let p = c.requires in record { start = record { book = p.book; known = tt; long = p.long }; few = p.few }

-- the kept sets fit in the list, which is not longer than the longest
pub order-requires : goal.order-requires
order-requires c =
    let room = count_fits _ _ _ c.args.work.now _ c.requires.book _ c.search.ensures.told c.search.auto.sets _ _ c.in-Finished.is in
    omega (arith, length-take c.in-Finished.kept c.search.new.sets, c.search.auto.sets, c.requires.few)

pub clear-requires : goal.clear-requires
clear-requires c =
    let room = count_fits _ _ _ c.args.work.now _ c.requires.book _ c.search.ensures.told c.search.auto.sets _ _ c.in-Finished.is in
    omega (arith, room, length-append c.order.new.sets (drop c.in-Finished.kept c.search.new.sets), length-drop c.in-Finished.kept c.search.new.sets, ap length c.order.ensures, sort_length (take c.in-Finished.kept c.search.new.sets), length-take-le c.in-Finished.kept c.search.new.sets room)

pub overflow_cast-count : goal.overflow_cast-count
overflow_cast-count c =
    let room = count_fits _ _ _ c.args.work.now _ c.requires.book _ c.search.ensures.told c.search.auto.sets _ _ c.in-Finished.is in
    omega (arith, room, c.search.auto.sets, c.requires.few)

pub overflow_cast-nodes : goal.overflow_cast-nodes
overflow_cast-nodes c = omega (arith, few_nodes _ _ _ _ _ c.search.ensures.told _ c.in-Finished.is, c.requires.low)

pub returns-in-Finished : goal.returns-in-Finished
returns-in-Finished c =
    let p = c.requires in
    let m = c.search in
    searched_lists _ _ _ _ p _ _ _
    (ends_listed _ _ _ _ _ p.book _ m.ensures.told m.auto.sets _ _ _ _ _ c.in-Finished.is (ap (λ (l : List ℕ). l ++ drop c.in-Finished.kept m.new.sets) c.order.ensures) c.clear.ensures m.ensures.cleared)

-- a search that ends without a list
pub overflow_cast-result : goal.overflow_cast-result
overflow_cast-result c =
    elim c.match-search.branch [
      | in-UsedUp w ↦ omega (arith, few_nodes _ _ _ _ _ c.search.ensures.told _ w.in-UsedUp.is, c.requires.low, ap (λ (k : Refusal × ℕ). k.1) w.refusal-is)
      | in-NoRoom w ↦ omega (arith, few_nodes _ _ _ _ _ c.search.ensures.told _ w.in-NoRoom.is, c.requires.low, ap (λ (k : Refusal × ℕ). k.1) w.refusal-is)
    ]

pub returns : goal.returns
returns c =
    let p = c.requires in
    let m = c.search in
    let told : Refusal × ℕ → Type 0 =
    λ k. Lists c.args.image.now c.args.budget c.args.sets.now c.args.work.now (Refused (number_of k.0) k.1) c.clear-2.new.list c.search.new.work in
    elim c.match-search.branch [
      | in-UsedUp w ↦
          subst told (sym w.refusal-is)
          (searched_lists _ _ _ _ p _ _ _ (ends_short _ _ _ _ _ p.book _ m.ensures.told m.auto.sets _ _ _ w.in-UsedUp.is c.clear-2.ensures m.ensures.cleared))
      | in-NoRoom w ↦
          subst told (sym w.refusal-is)
          (searched_lists _ _ _ _ p _ _ _ (ends_full _ _ _ _ _ p.book _ m.ensures.told m.auto.sets _ _ _ w.in-NoRoom.is c.clear-2.ensures m.ensures.cleared))
    ]
