-- `tables::lay_atoms` meets its contract. Assumes nothing.
use native.Mathlib.Omega.{arith}
use Rattle.image.specs.Shown.{shown, shown_front}
use Rattle.tables.specs.Filling.{front, atoms_laid}
use Rattle.tables.proofs.lay_atoms.Goals as goal

pub atoms-atoms-requires : goal.atoms-atoms-requires
atoms-atoms-requires c = shown_front (shown _ _ c.requires.0)

pub abducibles-abducibles-requires : goal.abducibles-abducibles-requires
abducibles-abducibles-requires c = shown_front (shown _ _ c.requires.0)

pub lay_literals-requires : goal.lay_literals-requires
lay_literals-requires c =
    let f = front _ c.requires.0 in
    (omega arith, omega (arith, c.abducibles-abducibles.ensures.0), omega (arith, c.requires.1, c.wipe.auto.work))

pub lay_literals-requires-2 : goal.lay_literals-requires-2
lay_literals-requires-2 c =
    let f = front _ c.requires.0 in
    let atoms = c.atoms-atoms.ensures.0 in
    (omega (arith, atoms, c.abducibles-abducibles.ensures.0), omega (arith, atoms), omega (arith, c.requires.1, c.wipe.auto.work, c.lay_literals.ensures.size))

pub returns : goal.returns
returns c =
    atoms_laid _ _ _ _ _ _ _ c.requires.0 c.requires.1 c.atoms-atoms.ensures.0 c.abducibles-abducibles.ensures.0
    c.wipe.ensures c.lay_literals.ensures c.lay_literals-2.ensures
