-- Where the trail's entries and the frames stand in the work area, what each has, and the agendas that are made.
-- Assumes nothing.
use Rattle.std.specs.Prelude.{ℕ, ◌+◌, ◌*◌, ◌/◌, ◌%◌, ◌^◌, List, get_or}
use Rattle.area.specs.Area as layout
use Rattle.memory.specs.declared.run.Agenda.{Agenda}

-- numbers of 32 bits, and of 64, are below these
abbrev pub bits32 : ℕ
bits32 = 2 ^ 32

abbrev pub bits64 : ℕ
bits64 = 2 ^ 64

-- ---- agendas

-- that of a cell
abbrev pub cell_agenda : List ℕ → ℕ → Agenda
cell_agenda w i = record { at = get_or w i 0; end = get_or w (i + 1) 0; link = get_or w (i + 2) 0 }

-- a part of the image, and what the link leads to
abbrev pub part_agenda : ℕ → ℕ → Agenda
part_agenda part link = record { at = part % layout.places; end = part % layout.places + 2 * (part / layout.places); link = link }

-- a record and those behind it, and what the link leads to
abbrev pub record_agenda : ℕ → ℕ → Agenda
record_agenda first link = record { at = first; end = layout.no_end; link = link }

-- ---- the trail

abbrev pub entry_at : ℕ → ℕ
entry_at j = layout.trail + layout.trail_width * j

-- number i of entry j: a cell, for an agenda to be laid down in, and the literal
abbrev pub entry : List ℕ → ℕ → ℕ → ℕ
entry work j i = get_or work (entry_at j + i) 0

abbrev pub entry_literal : List ℕ → ℕ → ℕ
entry_literal work j = entry work j layout.cell_width

-- ---- the frames

abbrev pub frame_at : ℕ → ℕ
frame_at k = layout.frames + layout.frame_width * k

-- number i of frame k: the trail's end, the set in two halves, the agenda, the next way
abbrev pub frame : List ℕ → ℕ → ℕ → ℕ
frame work k i = get_or work (frame_at k + i) 0

abbrev pub frame_marks : List ℕ → ℕ → ℕ
frame_marks work k = frame work k 0

abbrev pub frame_set : List ℕ → ℕ → ℕ
frame_set work k = frame work k 1 + bits32 * frame work k 2

abbrev pub frame_agenda : List ℕ → ℕ → Agenda
frame_agenda work k = record { at = frame work k 3; end = frame work k 4; link = frame work k 5 }

abbrev pub way_at : ℕ
way_at = 6

abbrev pub frame_way : List ℕ → ℕ → ℕ
frame_way work k = frame work k way_at
