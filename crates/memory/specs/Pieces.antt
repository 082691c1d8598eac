-- The run's numbers, as the small functions change them.
-- Assumes nothing.
use Rattle.std.specs.Prelude.{ℕ, zero, suc, ◌+◌, ◌-◌, ◌*◌, ◌/◌, ◌%◌, ◌^◌, ◌≤◌, ◌<◌, ◌≡◌, List, [], ◌∷◌, get_or, set}
use Rattle.std.proofs.lemmas.List.Edits.{sets}
use Rattle.area.specs.Area as layout
use Rattle.memory.specs.Places.{bits32, cell_agenda}
use Rattle.memory.specs.declared.run.Agenda.{Agenda}
use Rattle.memory.specs.declared.run.Run.{Run}
use Rattle.memory.specs.declared.run.State.{State}
use Rattle.memory.specs.States.{AGENDA, FAILED}

abbrev pub in_state : Run → State → Run
in_state run n =
    record { state = n; task = run.task; agenda = run.agenda; marked = run.marked; top = run.top; nodes = run.nodes; count = run.count; set = run.set }

abbrev pub giving : Run → State → ℕ → Run
giving run n t =
    record { state = n; task = t; agenda = run.agenda; marked = run.marked; top = run.top; nodes = run.nodes; count = run.count; set = run.set }

abbrev pub placing : Run → Agenda → Run
placing run a =
    record { state = AGENDA; task = run.task; agenda = a; marked = run.marked; top = run.top; nodes = run.nodes; count = run.count; set = run.set }

abbrev pub counting : Run → Run
counting run =
    record { state = run.state; task = run.task; agenda = run.agenda; marked = run.marked; top = run.top; nodes = run.nodes + 1; count = run.count; set = run.set }

-- the trail's end and the agenda fit the work area's numbers
pub record Layable (work : List ℕ) (run : Run) : Type 0 where
  pub low : layout.trail ≤ run.marked
  pub high : run.marked ≤ layout.frames
  pub long : layout.Long work
  pub at : run.agenda.at < layout.places
  pub end : run.agenda.end < layout.places
  pub link : run.agenda.link < layout.end

-- the agenda is laid down in the newest trail entry, where it has tasks of its own; l is the link to its tasks
pub data LaidDown (work : List ℕ) (run : Run) (work' : List ℕ) (l : ℕ) : Type 0 where
  nothing : run.agenda.at ≡ run.agenda.end → work' ≡ work → l ≡ run.agenda.link → LaidDown work run work' l
  cell : (run.agenda.at ≡ run.agenda.end → ⊥)
      → work' ≡ set (set (set work (run.marked - layout.trail_width) run.agenda.at) (run.marked - layout.trail_width + 1) run.agenda.end) (run.marked - layout.trail_width + 2) run.agenda.link
      → l ≡ run.marked - layout.trail_width → LaidDown work run work' l

-- an agenda with no tasks of its own gives way to the one in the cell at its link
pub data Refilled (work : List ℕ) (run run' : Run) : Type 0 where
  from_cell : run.agenda.at ≡ run.agenda.end → run' ≡ placing run (cell_agenda work run.agenda.link) → Refilled work run run'
  as_is : (run.agenda.at ≡ run.agenda.end → ⊥) → run' ≡ run → Refilled work run run'

-- a frame with the ways from `more` on, over the run's agenda
unfoldable pub pushed : List ℕ → Run → ℕ → List ℕ
pushed work run more =
    sets work run.top (run.marked ∷ run.set % bits32 ∷ run.set / bits32 ∷ run.agenda.at ∷ run.agenda.end ∷ run.agenda.link ∷ more ∷ [])

abbrev pub risen : Run → Run
risen run =
    record { state = run.state; task = run.task; agenda = run.agenda; marked = run.marked; top = run.top + layout.frame_width; nodes = run.nodes; count = run.count; set = run.set }

-- there is memory for a frame
pub record Pushable (work : List ℕ) (run : Run) : Type 0 where
  pub layable : Layable work run
  pub above : layout.frames ≤ run.top
  pub room : run.top + layout.frame_width ≤ layout.end

pub record Pushed (work : List ℕ) (run : Run) (more : ℕ) (work' : List ℕ) (run' : Run) : Type 0 where
  pub is : run' ≡ risen run
  pub area : work' ≡ pushed work run more

-- the marks of n entries from d on, the newest first, are taken off
unfoldable pub undone : List ℕ → ℕ → ℕ → List ℕ
undone work d zero = work
undone work d (suc n) = undone (set work (get_or work (d + layout.trail_width * n + layout.cell_width) 0 / 2) 0) d n

-- the entries from `down` to `marked` have literals
pub record Undoable (work : List ℕ) (marked down : ℕ) : Type 0 where
  pub count : ℕ
  pub is : marked ≡ down + layout.trail_width * count
  pub low : layout.trail ≤ down
  pub high : marked ≤ layout.frames
  pub long : layout.Long work
  pub literals : (j : ℕ) → j < count → get_or work (down + layout.trail_width * j + layout.cell_width) 0 < layout.literal_numbers

-- the run with the marks, the set and the agenda of the frame at f
abbrev pub restoring : List ℕ → Run → ℕ → ℕ → Run
restoring work run f d =
    record { state = run.state; task = run.task; agenda = record { at = get_or work (f + 3) 0; end = get_or work (f + 4) 0; link = get_or work (f + 5) 0 }; marked = d; top = run.top; nodes = run.nodes; count = run.count; set = get_or work (f + 1) 0 + bits32 * get_or work (f + 2) 0 }

abbrev pub lowered : Run → ℕ → Run
lowered run f =
    record { state = run.state; task = run.task; agenda = run.agenda; marked = run.marked; top = f; nodes = run.nodes; count = run.count; set = run.set }

-- literal y marked: its atom's number, and a new trail entry
abbrev pub marked_with : List ℕ → Run → ℕ → List ℕ
marked_with work run y = set (set work (y / 2) (y + 1)) (run.marked + layout.cell_width) y

abbrev pub raised : Run → Run
raised run =
    record { state = run.state; task = run.task; agenda = run.agenda; marked = run.marked + layout.trail_width; top = run.top; nodes = run.nodes; count = run.count; set = run.set }

abbrev pub adding : Run → ℕ → Run
adding run p =
    record { state = run.state; task = run.task; agenda = run.agenda; marked = run.marked; top = run.top; nodes = run.nodes; count = run.count; set = run.set + 2 ^ p }

pub record Markable (work : List ℕ) (run : Run) (y : ℕ) : Type 0 where
  pub literal : y < layout.literal_numbers
  pub low : layout.trail ≤ run.marked
  pub high : run.marked + layout.trail_width ≤ layout.frames
  pub long : layout.Long work

pub record Marked (work : List ℕ) (run : Run) (y : ℕ) (work' : List ℕ) (run' : Run) : Type 0 where
  pub is : run' ≡ raised run
  pub area : work' ≡ marked_with work run y

-- a success kept: the node is over, and n sets are kept
abbrev pub keeping : Run → ℕ → Run
keeping run n =
    record { state = FAILED; task = run.task; agenda = run.agenda; marked = run.marked; top = run.top; nodes = run.nodes; count = n; set = run.set }
