-- `frames::back` meets its contract. Assumes nothing.
use native.Mathlib.Omega.{arith}
use mathlib.Core.Path.{refl}
use Rattle.frames.specs.Back.{backed_over, frame_room, frame_undoable, frame_way_lem, backed_pops, backed_keeps}
use Rattle.frames.proofs.back.Goals as goal

pub returns-then-r-eq-FRAMES : goal.returns-then-r-eq-FRAMES
returns-then-r-eq-FRAMES c = backed_over _ _ c.requires _ c.if-r-eq-FRAMES.true refl

-- the newest frame lies in the work area
pub offset_bounds-work-f : goal.offset_bounds-work-f
offset_bounds-work-f c = let p = frame_room _ _ c.requires c.if-r-eq-FRAMES.false in omega arith

pub bounds-work-f : goal.bounds-work-f
bounds-work-f c = let p = frame_room _ _ c.requires c.if-r-eq-FRAMES.false in omega arith

pub undo-requires : goal.undo-requires
undo-requires c = frame_undoable _ _ c.requires c.if-r-eq-FRAMES.false _ refl

-- also with the marks undone
pub offset_bounds-work-f-2 : goal.offset_bounds-work-f-2
offset_bounds-work-f-2 c = let p = frame_room _ _ c.requires c.if-r-eq-FRAMES.false in omega arith

pub bounds-work-f-2 : goal.bounds-work-f-2
bounds-work-f-2 c = let p = frame_room _ _ c.requires c.if-r-eq-FRAMES.false in omega (arith, p.0, p.1, p.2, c.undo.auto.work)

-- and its way lies in the tables
pub bounds-work-way : goal.bounds-work-way
bounds-work-way c =
    let p = frame_way_lem _ _ c.requires c.if-r-eq-FRAMES.false _ refl _ c.undo.ensures _ refl in
    omega arith

pub bounds-work-way-2 : goal.bounds-work-way-2
bounds-work-way-2 c =
    let p = frame_way_lem _ _ c.requires c.if-r-eq-FRAMES.false _ refl _ c.undo.ensures _ refl in
    omega arith

pub restored-requires : goal.restored-requires
restored-requires c = let p = frame_room _ _ c.requires c.if-r-eq-FRAMES.false in omega (arith, p.0, p.1, p.2, c.undo.auto.work)

pub offset_bounds-work-f-3 : goal.offset_bounds-work-f-3
offset_bounds-work-f-3 c = let p = frame_room _ _ c.requires c.if-r-eq-FRAMES.false in omega arith

pub bounds-work-f-3 : goal.bounds-work-f-3
bounds-work-f-3 c = let p = frame_room _ _ c.requires c.if-r-eq-FRAMES.false in omega (arith, p.0, p.1, p.2, c.undo.auto.work)

pub returns-then-more-eq-NO_LINK : goal.returns-then-more-eq-NO_LINK
returns-then-more-eq-NO_LINK c =
    backed_pops _ _ c.requires c.if-r-eq-FRAMES.false _ refl _ c.undo.ensures _ refl _ _ refl refl _ _ c.restored.ensures
    _ c.if-more-eq-NO_LINK.true refl refl

pub returns : goal.returns
returns c =
    backed_keeps _ _ c.requires c.if-r-eq-FRAMES.false _ refl _ c.undo.ensures _ refl _ _ refl refl _ _ c.restored.ensures
    c.if-more-eq-NO_LINK.false refl
