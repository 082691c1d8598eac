-- What each move asks and promises: the machine stands for the nodes due before and after it.
-- Assumes nothing.
use Rattle.std.specs.Prelude.{ℕ, ◌+◌, ◌/◌, ◌≤◌, ◌<◌, ◌≡◌, List, [], ◌∷◌, ◌++◌, length, get_or, take, drop}
use Rattle.image.specs.paper.Book.{Book}
use Rattle.sets.specs.paper.Kept.{insert}
use Rattle.searching.specs.paper.Rules.{Node, assumed, children}
use Rattle.area.specs.Area as layout
use Rattle.memory.specs.declared.run.Run.{Run}
use Rattle.memory.specs.declared.run.State.{State}
use Rattle.memory.specs.States.{rank, TASK, OVER, LIST, FAILED, SPENT, FULL}
use Rattle.memory.specs.Machine.{Holds}
use Rattle.memory.specs.Pieces.{in_state, counting, keeping}

-- it stands in state n
pub record Standing (image work : List ℕ) (run : Run) (n : State) : Type 0 where
  pub b : Book
  pub all : List Node
  pub holds : Holds image b work run all
  pub state : run.state ≡ n

-- It has moved on to a state of n at the most: what is due is the same.
pub record Moved (image work : List ℕ) (run : Run) (work' : List ℕ) (run' : Run) (n : State) : Type 0 where
  pub holds : (b : Book) (all : List Node) → Holds image b work run all → Holds image b work' run' all
  pub state : rank run'.state ≤ rank n
  pub nodes : run'.nodes ≡ run.nodes
  pub count : run'.count ≡ run.count
  pub later : drop layout.end work' ≡ drop layout.end work

-- the same for a piece that does not see the image
abbrev pub StandingIn : List ℕ → Run → State → Type 0
StandingIn work run n = (image : List ℕ) × Standing image work run n

abbrev pub Moves : List ℕ → Run → List ℕ → Run → State → Type 0
Moves work run work' run' n = (image : List ℕ) → Moved image work run work' run' n

-- After a failure the newest frame has given its next way; or there is none, and nothing is due.
pub data Backed (work : List ℕ) (run : Run) (work' : List ℕ) (run' : Run) : Type 0 where
  back_to : Moves work run work' run' LIST → Backed work run work' run'
  over : ((image : List ℕ) (b : Book) (all : List Node) → Holds image b work run all → all ≡ []) → work' ≡ work → run' ≡ in_state run OVER → Backed work run work' run'

-- The task in hand has been visited: the node's children stand in its place.
pub record Visited (work : List ℕ) (run : Run) (work' : List ℕ) (run' : Run) : Type 0 where
  pub holds : (image : List ℕ) (b : Book) (x : Node) (rest : List Node) → Holds image b work run (x ∷ rest) → Holds image b work' run' (children b x ++ rest)
  pub some : (image : List ℕ) (b : Book) (x : Node) (rest : List Node) → Holds image b work run (x ∷ rest) → x.agenda ≡ [] → ⊥
  pub state : rank run'.state ≤ rank FAILED
  pub nodes : run'.nodes ≡ run.nodes
  pub count : run'.count ≡ run.count
  pub later : drop layout.end work' ≡ drop layout.end work

-- a task is in hand
pub record Tasked (work : List ℕ) (run : Run) : Type 0 where
  pub image : List ℕ
  pub b : Book
  pub x : Node
  pub rest : List Node
  pub holds : Holds image b work run (x ∷ rest)
  pub state : run.state ≡ TASK

-- it is literal y, its atom is free, and a is its number
pub record FreeLiteral (work : List ℕ) (run : Run) (y a : ℕ) : Type 0 where
  pub tasked : Tasked work run
  pub lit : run.task < layout.literal_numbers
  pub is : y ≡ run.task
  pub free : get_or work (y / 2) 0 ≡ layout.no_mark
  pub number : a ≡ get_or work (layout.literals + y) 0
  pub some : a ≡ layout.fails → ⊥

-- no task is left: a success, whose set is the run's
pub record Success (work : List ℕ) (run : Run) : Type 0 where
  pub ends : (image : List ℕ) (b : Book) (x : Node) (rest : List Node) → Holds image b work run (x ∷ rest) → x.agenda ≡ []
  pub chosen : (image : List ℕ) (b : Book) (x : Node) (rest : List Node) → Holds image b work run (x ∷ rest) → run.set ≡ assumed b x.sheet
  pub after : (image : List ℕ) (b : Book) (x : Node) (rest : List Node) (n : ℕ) → Holds image b work run (x ∷ rest) → Holds image b work (keeping run n) rest

-- Its set is inserted, or there is no room for it.
pub data SuccessKept (sets : List ℕ) (run : Run) (after : List ℕ) (run' : Run) : Type 0 where
  inserted : (n : ℕ) → n ≡ length (insert (take run.count sets) run.set) → n ≤ length sets → take n after ≡ insert (take run.count sets) run.set
      → length after ≡ length sets → run' ≡ keeping run n → SuccessKept sets run after run'
  full : length sets < length (insert (take run.count sets) run.set) → length after ≡ length sets → run' ≡ in_state run FULL → SuccessKept sets run after run'

-- A record is picked: its children stand in the node's place; or it is the end of all tasks, and a success is kept.
pub data Picked (sets work : List ℕ) (run : Run) (after : List ℕ) (run' : Run) : Type 0 where
  picks : Visited work run work run' → after ≡ sets → Picked sets work run after run'
  succeeds : Success work run → SuccessKept sets run after run' → Picked sets work run after run'

-- A node: as many nodes as the budget have been visited; or a task is visited, or a success kept.
pub data Went (budget : ℕ) (sets work : List ℕ) (run : Run) (after work' : List ℕ) (run' : Run) : Type 0 where
  used_up : run.nodes ≡ budget → after ≡ sets → work' ≡ work → run' ≡ in_state run SPENT → Went budget sets work run after work' run'
  visits : (run.nodes ≡ budget → ⊥) → Visited work (counting run) work' run' → after ≡ sets → Went budget sets work run after work' run'
  succeeds : (run.nodes ≡ budget → ⊥) → Success work (counting run) → SuccessKept sets (counting run) after run' → work' ≡ work → Went budget sets work run after work' run'
