-- `machine::start::start` meets its contract. Assumes nothing.
use mathlib.Core.Path.{refl}
use native.Mathlib.Omega.{arith}
use Rattle.image.specs.Accepted.{within}
use Rattle.image.specs.Shown.{shown, shown_front}
use Rattle.machine.specs.Start.{known_with, root_stands, started_root, started_with}
use Rattle.machine.proofs.start.start.Goals as goal

pub clauses-requires : goal.clauses-requires
clauses-requires c = shown_front (shown _ _ c.requires.book)

pub front-requires : goal.front-requires
front-requires c = root_stands _ _ _ c.fill.ensures _ c.clauses.ensures _ c.root-root.ensures

pub overflow_mul-result : goal.overflow_mul-result
overflow_mul-result c =
    let p = c.requires in
    omega (arith, known_with _ c.in-Some.is p.known, (within _ _ p.book).abducibles)

pub returns-in-None : goal.returns-in-None
returns-in-None c = started_root _ _ _ c.fill.ensures _ c.clauses.ensures _ c.root-root.ensures c.in-None.is c.front.ensures

pub returns-in-Some : goal.returns-in-Some
returns-in-Some c = started_with _ _ _ c.fill.ensures _ c.clauses.ensures _ c.root-root.ensures _ c.in-Some.is c.requires.known refl
