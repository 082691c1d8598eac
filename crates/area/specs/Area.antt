-- The work area's layout, in numbers of 32 bits: where each table begins, and how wide an entry of it is. Each begins where the one
-- before it ends, by the limits of paper 01, 3.4; that all of it fits is `fits`.
-- Assumes nothing.
use Rattle.std.specs.Prelude.{ℕ, ◌+◌, ◌*◌, ◌≤◌, List, length}
use Rattle.std.proofs.Common.{arith}
use Rattle.image.specs.paper.Faults.{limits}
use Rattle.area.specs.paper.Work.{work_numbers}

-- ---- what the numbers of the area say

-- a literal's number is below this: "twice its atom's number, and one more if it is negated" (paper 01, 3.2)
abbrev pub literal_numbers : ℕ
literal_numbers = 2 * limits.atoms

-- a list of literals as one number: its literal, where it has one; `no_list`, where it has none; else place + `places` * count of a
-- part of the image
abbrev pub no_list : ℕ
no_list = literal_numbers

abbrev pub places : ℕ
places = 16384

-- what wanting a literal does while its atom is unmarked: it fails, it joins, it joins the set too; else the number is the first way of
-- its atom, or the first record to break
abbrev pub fails : ℕ
fails = 0

abbrev pub joins : ℕ
joins = 1

abbrev pub joins_set : ℕ
joins_set = 2

-- no mark; that of a literal is its number and 1
abbrev pub no_mark : ℕ
no_mark = 0

-- the first way of the record behind the last constraint: there is no task left
abbrev pub no_task : ℕ
no_task = 1

-- no way, no record, no cell: where a link leads nowhere
abbrev pub no_link : ℕ
no_link = 0

-- the end of an agenda that begins with a record, and not with literals of the image
abbrev pub no_end : ℕ
no_end = 0

-- ---- where the tables begin

-- the marks of the atoms
abbrev pub marks : ℕ
marks = 0

-- what wanting each literal does
abbrev pub literals : ℕ
literals = marks + limits.atoms

-- the records of the clauses, and behind them those of the constraints, one more for their end
abbrev pub record_width : ℕ
record_width = 2

abbrev pub clause_records : ℕ
clause_records = literals + literal_numbers

abbrev pub constraint_records : ℕ
constraint_records = clause_records + record_width * limits.clauses

-- the cells of the constraints from each on; the cell behind the last constraint names one more behind it
abbrev pub cell_width : ℕ
cell_width = 3

abbrev pub cells : ℕ
cells = constraint_records + record_width * (limits.constraints + 1)

-- the ways: one for each clause, each body literal, and each literal of a constraint at most
abbrev pub way_width : ℕ
way_width = 2

abbrev pub ways : ℕ
ways = cells + cell_width * (limits.constraints + 2)

-- the trail: a cell and a literal for each mark
abbrev pub trail_width : ℕ
trail_width = 4

abbrev pub trail : ℕ
trail = ways + way_width * (limits.clauses + limits.bodies + limits.literals)

-- the frames: for each constraint, atom and clause one at most
abbrev pub frame_width : ℕ
frame_width = 7

abbrev pub most_frames : ℕ
most_frames = limits.constraints + limits.atoms + limits.clauses

abbrev pub frames : ℕ
frames = trail + trail_width * limits.atoms

-- the end of it all
abbrev pub end : ℕ
end = work_numbers

-- All of it fits.
pub fits : frames + frame_width * most_frames ≤ end
fits = omega arith

-- With a set of four halves it would still fit: two of a frame's places, each below `places`, then share a number, so that a frame is
-- one wider.
pub fits_wider : frames + (frame_width + 1) * most_frames ≤ end
fits_wider = omega arith

-- a work area that is no shorter
abbrev pub Long : List ℕ → Type 0
Long work = end ≤ length work

-- ---- where the entries stand

-- what wanting atom p does, and what wanting its opposite does
abbrev pub wanted_true : ℕ → ℕ
wanted_true p = literals + 2 * p

abbrev pub wanted_false : ℕ → ℕ
wanted_false p = literals + 2 * p + 1

abbrev pub clause_record : ℕ → ℕ
clause_record c = clause_records + record_width * c

abbrev pub constraint_record : ℕ → ℕ
constraint_record k = constraint_records + record_width * k

-- the cell of the constraints from k on
abbrev pub cell_from : ℕ → ℕ
cell_from k = cells + cell_width * k

-- the way through clause c
abbrev pub clause_way : ℕ → ℕ
clause_way c = ways + way_width * c
