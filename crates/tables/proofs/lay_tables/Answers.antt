-- `tables::lay_tables` meets its contract. Assumes nothing.
use native.Mathlib.Omega.{arith}
use Rattle.image.specs.Shown.{shown, shown_front}
use Rattle.tables.specs.Filling.{tables_front, clauses_asked, links_asked, constraints_front, constraints_asked, tables_filled}
use Rattle.tables.proofs.lay_tables.Goals as goal

pub clauses-clauses-requires : goal.clauses-clauses-requires
clauses-clauses-requires c = shown_front (shown _ _ c.requires.book)

-- the count of clauses lies in the image
pub field_at-count-requires : goal.field_at-count-requires
field_at-count-requires c = let t = tables_front _ _ c.requires _ c.clauses-clauses.ensures in omega arith

pub overflow_add-clauses : goal.overflow_add-clauses
overflow_add-clauses c = let t = tables_front _ _ c.requires _ c.clauses-clauses.ensures in omega arith

pub lay_clauses-place-requires : goal.lay_clauses-place-requires
lay_clauses-place-requires c = clauses_asked _ _ c.requires _ c.clauses-clauses.ensures _ c.field_at-count.ensures.0

pub link_clauses-requires : goal.link_clauses-requires
link_clauses-requires c =
    links_asked _ _ c.requires _ c.clauses-clauses.ensures _ c.field_at-count.ensures.0 _ _ _ c.lay_clauses-place.ensures

-- and so does the count of constraints
pub field_at-many-requires : goal.field_at-many-requires
field_at-many-requires c =
    omega (arith, (constraints_front _ _ c.requires _ c.clauses-clauses.ensures _ c.field_at-count.ensures.0 _ _ _ c.lay_clauses-place.ensures).0)

pub overflow_add-behind : goal.overflow_add-behind
overflow_add-behind c =
    let t = constraints_front _ _ c.requires _ c.clauses-clauses.ensures _ c.field_at-count.ensures.0 _ _ _ c.lay_clauses-place.ensures in
    omega arith

pub lay_constraints-requires : goal.lay_constraints-requires
lay_constraints-requires c =
    constraints_asked _ _ c.requires _ c.clauses-clauses.ensures _ c.field_at-count.ensures.0 _ _ _ c.lay_clauses-place.ensures
    _ c.link_clauses.ensures _ c.field_at-many.ensures.0

pub returns : goal.returns
returns c =
    tables_filled _ _ c.requires _ c.clauses-clauses.ensures _ c.field_at-count.ensures.0 _ _ _ c.lay_clauses-place.ensures
    _ c.link_clauses.ensures _ c.field_at-many.ensures.0 _ c.lay_constraints.ensures
