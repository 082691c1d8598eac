-- The machine: what its trail, its frames and its run say over the tables, as tasks, nodes due and a sheet.
-- Assumes nothing.
use Rattle.std.specs.Prelude.{ℕ, suc, ◌+◌, ◌*◌, ◌/◌, ◌≤◌, ◌<◌, ◌≡◌, false, List, [], ◌∷◌, ◌++◌, map, length, get_or, drop}
use Rattle.std.proofs.Common.{subst, ◌∙◌}
use Rattle.base.specs.paper.Lists.{Every}
use Rattle.image.specs.paper.Book.{Lit, Book}
use Rattle.image.specs.paper.Decode.{lit_of}
use Rattle.image.specs.Shown.{lits_at}
use Rattle.searching.specs.paper.Rules.{Task, want, pick, keep, Node, on, assumed}
use Rattle.searching.specs.Bounds.{frames, Named}
use Rattle.area.specs.Ground.{Listed, Chain, Records, Ground, pos, neg, Tabled}
use Rattle.area.specs.Area as layout
use Rattle.memory.specs.Places.{entry_at, frame_at, entry, entry_literal, frame_marks, frame_set, frame_agenda, frame_way}
use Rattle.memory.specs.declared.run.Agenda.{Agenda}
use Rattle.memory.specs.declared.run.Run.{Run}
use Rattle.memory.specs.declared.run.State.{State}
use Rattle.memory.specs.States.{TASK, AGENDA, LIST, WAY, FAILED}

-- ---- the work area

-- the numbers from lo up to hi are the same
abbrev pub Same : List ℕ → List ℕ → ℕ → ℕ → Type 0
Same work v lo hi = (j : ℕ) → lo ≤ j → j < hi → get_or v j 0 ≡ get_or work j 0

-- the first m entries of the trail have the literals of the sheet, each of an atom that was free
pub data Trail (work : List ℕ) : ℕ → List Lit → Type 0 where
  none : Trail work 0 []
  marks : {m : ℕ} {sheet : List Lit} (y : ℕ) → entry_literal work m ≡ y → y < layout.literal_numbers → on sheet (pos (y / 2)) ≡ false → on sheet (neg (y / 2)) ≡ false
      → Trail work m sheet → Trail work (suc m) (lit_of y ∷ sheet)

-- ---- agendas

-- an agenda's own tasks: literals of the image, or records
pub data Own (image : List ℕ) (tab : ℕ → ℕ) (at end : ℕ) : List Task → Type 0 where
  lits : (n : ℕ) → end ≡ at + 2 * suc n → end ≤ length image → Own image tab at end (map want (lits_at image at (suc n)))
  records : {t : Task} {ts : List Task} → end ≡ layout.no_end → Records image tab at (t ∷ ts) → Own image tab at end (t ∷ ts)

-- a node with these tasks and this sheet
abbrev pub node_of : List Task → List Lit → Node
node_of ts sheet = record { agenda = ts; sheet = sheet }

-- a node with k frames below it: there is memory for all that it can need, and it names atoms of the book only
abbrev pub Fine : Book → ℕ → Node → Type 0
Fine b k n = (k + frames b n ≤ layout.most_frames) × Every (Named b) n.agenda

-- the nodes that ways lead to
abbrev pub by_ways : List Task → List Lit → List (List Lit) → List Node
by_ways us sheet lss = map (λ (ls : List Lit). node_of (map want ls ++ us) sheet) lss

-- no list of more than one literal: entering it lays nothing down
abbrev pub Short : List (List Lit) → Type 0
Short lss = Every (λ (ls : List Lit). length ls ≤ 1) lss

module _ (image : List ℕ) (book : Book) (tab : ℕ → ℕ) (work : List ℕ) where
  -- what the cell at a link leads to: the constraints from k on, or an agenda laid down in one of the first m entries of the trail
  pub data Tail : ℕ → ℕ → List Task → Type 0 where
    constraints_from : {m : ℕ} (k : ℕ) → k ≤ length book.constraints → Tail m (layout.cell_from k) (map keep (drop k book.constraints))
    laid : {m : ℕ} {ts us : List Task} (j : ℕ) → j < m → Own image tab (entry work j 0) (entry work j 1) ts → Tail j (entry work j 2) us → Tail m (entry_at j) (ts ++ us)

  -- the tasks of an agenda: its own, if any, and those that its link leads to
  pub data Leads (m : ℕ) (a : Agenda) : List Task → Type 0 where
    linked : {us : List Task} → a.at ≡ a.end → a.at < layout.places → Tail m a.link us → Leads m a us
    more : {ts us : List Task} → Own image tab a.at a.end ts → Tail m a.link us → Leads m a (ts ++ us)

  -- Where a way is entered with m entries, of which the frames use the first `used`, its rest can be laid down in the newest, or need not be: the
  -- newest is used by no one, or the lists are short, or the agenda behind has no tasks of its own.
  pub data Free : ℕ → ℕ → Agenda → List Task → List (List Lit) → Type 0 where
    older : {m used : ℕ} {a : Agenda} {ts : List Task} {lss : List (List Lit)} → used ≤ m → Leads m a ts → Free (suc m) used a ts lss
    short : {m used : ℕ} {a : Agenda} {ts : List Task} {lss : List (List Lit)} → Leads m a ts → Short lss → Free m used a ts lss
    empty : {m used : ℕ} {a : Agenda} {ts : List Task} {lss : List (List Lit)} → a.at ≡ a.end → a.at < layout.places → Tail m a.link ts → Free m used a ts lss

  -- frame k holds these ways, with this agenda behind them
  pub record Frame (k m : ℕ) (sheet : List Lit) (lss : List (List Lit)) : Type 0 where
    pub marked : frame_marks work k ≡ entry_at m
    pub set : frame_set work k ≡ assumed book sheet
    pub ways : Chain image tab (frame_way work k) lss

  -- k frames hold these nodes due, and use the first `used` of m entries, which have this sheet
  pub data Held : ℕ → ℕ → ℕ → List Lit → List Node → Type 0 where
    bottom : Held 0 0 0 [] []
    -- marked since
    under : {k m used : ℕ} {sheet : List Lit} {l : Lit} {due : List Node} → Held k m used sheet due → Held k (suc m) used (l ∷ sheet) due
    -- pushed as a literal was marked: the agenda behind is older than its entry
    proving : {k m used : ℕ} {sheet : List Lit} {due : List Node} {rest : List Task} {ls : List Lit} {lss : List (List Lit)}
        → Frame k (suc m) sheet (ls ∷ lss) → Leads m (frame_agenda work k) rest
        → Every (Fine book (suc k)) (by_ways rest sheet (ls ∷ lss))
        → used ≤ m → Held k (suc m) used sheet due → Held (suc k) (suc m) m sheet (by_ways rest sheet (ls ∷ lss) ++ due)
    -- pushed at a break or a constraint
    picking : {k m used : ℕ} {sheet : List Lit} {due : List Node} {rest : List Task} {ls : List Lit} {lss : List (List Lit)}
        → Frame k m sheet (ls ∷ lss) → Free m m (frame_agenda work k) rest (ls ∷ lss)
        → Every (Fine book (suc k)) (by_ways rest sheet (ls ∷ lss))
        → Held k m used sheet due → Held (suc k) m m sheet (by_ways rest sheet (ls ∷ lss) ++ due)

  -- ---- the run: what is due, before what the frames hold, by its state, its task and its agenda

  pub data Hand (k m used : ℕ) (sheet : List Lit) (due : List Node) (task : ℕ) (a : Agenda) : State → List Node → Type 0 where
    -- a literal in hand, a record, or the end of all tasks
    literal : {ts : List Task} → task < layout.literal_numbers → Leads m a ts → Fine book k (node_of (want (lit_of task) ∷ ts) sheet)
        → Hand k m used sheet due task a TASK (node_of (want (lit_of task) ∷ ts) sheet ∷ due)
    record_at : {lss : List (List Lit)} {ts : List Task} → layout.clause_records ≤ task → task + 1 < layout.cells → Chain image tab (tab task) lss → Free m m a ts lss
        → Fine book k (node_of (pick lss ∷ ts) sheet)
        → Hand k m used sheet due task a TASK (node_of (pick lss ∷ ts) sheet ∷ due)
    last : layout.clause_records ≤ task → task < layout.cells → tab task ≡ layout.no_task → Hand k m used sheet due task a TASK (node_of [] sheet ∷ due)
    -- the agenda in hand
    agenda : {ts : List Task} → Leads m a ts → Fine book k (node_of ts sheet)
        → Hand k m used sheet due task a AGENDA (node_of ts sheet ∷ due)
    -- a list to be entered, and ways to be taken
    list : {ts : List Task} {ls : List Lit} → Listed image tab task ls → Free m used a ts (ls ∷ []) → Fine book k (node_of (map want ls ++ ts) sheet)
        → Hand k m used sheet due task a LIST (node_of (map want ls ++ ts) sheet ∷ due)
    way : {ts : List Task} {ls : List Lit} {lss : List (List Lit)} → Chain image tab task (ls ∷ lss) → Free m used a ts (ls ∷ lss)
        → Every (Fine book (suc k)) (by_ways ts sheet (ls ∷ lss)) → Hand k m used sheet due task a WAY (by_ways ts sheet (ls ∷ lss) ++ due)
    -- nothing
    failed : Hand k m used sheet due task a FAILED due

-- The machine stands for these nodes due.
pub record Holds (image : List ℕ) (b : Book) (work : List ℕ) (run : Run) (all : List Node) : Type 0 where
  pub tab : ℕ → ℕ
  pub height : ℕ
  pub marks : ℕ
  pub used : ℕ
  pub sheet : List Lit
  pub due : List Node
  pub grounded : Ground image b tab
  pub area : Tabled tab work sheet
  pub trail : Trail work marks sheet
  pub held : Held image b tab work height marks used sheet due
  pub chosen : run.set ≡ assumed b sheet
  pub marked : run.marked ≡ entry_at marks
  pub top : run.top ≡ frame_at height
  pub hand : Hand image b tab work height marks used sheet due run.task run.agenda run.state all

-- over this memory: a hand with this task and agenda in state n, and that of a run
module _ {image : List ℕ} {book : Book} {work : List ℕ} {run : Run} {all : List Node} (memory : Holds image book work run all) where
  abbrev pub HandIn : State → ℕ → Agenda → List Node → Type 0
  HandIn n task a xs = Hand image book memory.tab work memory.height memory.marks memory.used memory.sheet memory.due task a n xs

  abbrev pub HandOf : Run → List Node → Type 0
  HandOf q xs = HandIn q.state q.task q.agenda xs

  -- what the machine has in hand in a state: what it is, is then read off the constructors of that state
  pub in_hand : {n : State} → run.state ≡ n → HandIn n run.task run.agenda all
  in_hand e = subst (λ (m : State). HandIn m run.task run.agenda all) e memory.hand

  -- another run over the same memory
  pub with_hand : {all' : List Node} (q : Run) → q.set ≡ run.set → q.marked ≡ run.marked → q.top ≡ run.top → HandOf q all' → Holds image book work q all'
  with_hand q c m t x = record {
    tab = memory.tab;
    height = memory.height;
    marks = memory.marks;
    used = memory.used;
    sheet = memory.sheet;
    due = memory.due;
    grounded = memory.grounded;
    area = memory.area;
    trail = memory.trail;
    held = memory.held;
    chosen = c ∙ memory.chosen;
    marked = m ∙ memory.marked;
    top = t ∙ memory.top;
    hand = x;
  }
