-- `admitting::seek_book` meets its contract: the three ends of the second search. Assumes nothing.
use native.Mathlib.Omega.{arith}
use Rattle.lister.specs.Whole.{few_nodes}
use Rattle.admitting.specs.AdmitLaws.{found}
use Rattle.admitting.proofs.seek_book.Goals as goal

pub search-requires : goal.search-requires
search-requires c =
    let p = c.requires in
    record { start = record { book = p.book; known = p.abducible; long = p.long }; few = omega arith }

pub overflow_cast-result : goal.overflow_cast-result
overflow_cast-result c = omega (arith, few_nodes _ _ _ _ _ c.search.ensures.told _ c.in-Finished.is, c.requires.low)

pub overflow_cast-result-in-UsedUp : goal.overflow_cast-result-in-UsedUp
overflow_cast-result-in-UsedUp c = omega (arith, few_nodes _ _ _ _ _ c.search.ensures.told _ c.in-UsedUp.is, c.requires.low)

pub overflow_cast-result-in-NoRoom : goal.overflow_cast-result-in-NoRoom
overflow_cast-result-in-NoRoom c = omega (arith, few_nodes _ _ _ _ _ c.search.ensures.told _ c.in-NoRoom.is, c.requires.low)

pub returns-in-Finished : goal.returns-in-Finished
returns-in-Finished c = let m = c.search in found _ _ _ _ _ _ _ m.ensures.told m.auto.sets m.ensures.cleared _ c.in-Finished.is

pub returns-in-UsedUp : goal.returns-in-UsedUp
returns-in-UsedUp c = let m = c.search in found _ _ _ _ _ _ _ m.ensures.told m.auto.sets m.ensures.cleared _ c.in-UsedUp.is

pub returns-in-NoRoom : goal.returns-in-NoRoom
returns-in-NoRoom c = let m = c.search in found _ _ _ _ _ _ _ m.ensures.told m.auto.sets m.ensures.cleared _ c.in-NoRoom.is
