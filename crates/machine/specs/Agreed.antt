-- What each piece of the walk asks and promises: where the rules' search is to give an outcome, it gives the same from here.
-- Assumes nothing.
use Rattle.std.specs.Prelude.{ℕ, suc, Option, Some, None, ◌+◌, ◌-◌, ◌≤◌, ◌<◌, ◌≡◌, List, [], ◌∷◌, ◌++◌, length, take, drop}
use Rattle.image.specs.paper.Book.{Book}
use Rattle.sets.specs.paper.Kept.{zeros, longest}
use Rattle.searching.specs.paper.Rules.{Node, root, Outcome, finished, no_room, run_from}
use Rattle.searching.specs.paper.Rules
use Rattle.searching.specs.paper.Seek.{root_with}
use Rattle.area.specs.Area as layout
use Rattle.image.specs.Accepted.{IsBook, book_in}
use Rattle.memory.specs.declared.run.Run.{Run}
use Rattle.memory.specs.declared.run.State.{State}
use Rattle.memory.specs.States.{rank, TASK, AGENDA, OVER, SPENT, FULL}
use Rattle.memory.specs.Machine.{Holds}
use Rattle.machine.specs.declared.Ended.{Ended}
use Rattle.machine.specs.declared.Ended.TheVariants.{Finished, UsedUp, NoRoom}

-- It goes on: from here the rules' search gives this outcome.
pub record Searching (image : List ℕ) (budget : ℕ) (outcome : Outcome) (sets work : List ℕ) (run : Run) : Type 0 where
  pub b : Book
  pub all : List Node
  pub holds : Holds image b work run all
  pub nodes : run.nodes ≤ budget
  pub count : run.count ≤ length sets
  pub entries : length sets ≤ longest
  pub answer : outcome ≡ Rules.run b (length sets) (budget - run.nodes) all (take run.count sets) run.nodes

-- with a task in hand, for some outcome
pub record Ready (image : List ℕ) (budget : ℕ) (sets work : List ℕ) (run : Run) : Type 0 where
  pub outcome : Outcome
  pub searching : Searching image budget outcome sets work run
  pub state : run.state ≡ TASK

-- It has ended with this outcome, in one of three ways.
pub data Ending (outcome : Outcome) (sets : List ℕ) (run : Run) : Type 0 where
  all_visited : run.state ≡ OVER → run.count ≤ length sets → outcome ≡ finished (take run.count sets) run.nodes → Ending outcome sets run
  out_of_budget : run.state ≡ SPENT → outcome ≡ Rules.used_up run.nodes → Ending outcome sets run
  out_of_room : run.state ≡ FULL → outcome ≡ no_room run.nodes → Ending outcome sets run

-- It goes on in a state of n at the most, with `low` nodes visited at least, or it has ended.
pub data Course (image : List ℕ) (budget : ℕ) (outcome : Outcome) (sets work : List ℕ) (run : Run) (n : State) (low : ℕ) : Type 0 where
  goes_on : Searching image budget outcome sets work run → rank run.state ≤ rank n → low ≤ run.nodes → Course image budget outcome sets work run n low
  ended : Ending outcome sets run → low ≤ suc run.nodes → Course image budget outcome sets work run n low

-- it stands in a state of n at the most
pub record Somewhere (work : List ℕ) (run : Run) (n : State) : Type 0 where
  pub image : List ℕ
  pub budget : ℕ
  pub outcome : Outcome
  pub sets : List ℕ
  pub low : ℕ
  pub state : Course image budget outcome sets work run n low

-- and has passed on to one of n
pub record Passes (work : List ℕ) (run : Run) (m : State) (work' : List ℕ) (run' : Run) (n : State) : Type 0 where
  pub next : (image : List ℕ) (budget : ℕ) (outcome : Outcome) (sets : List ℕ) (low : ℕ)
      → Course image budget outcome sets work run m low → Course image budget outcome sets work' run' n low
  pub later : drop layout.end work' ≡ drop layout.end work

pub record Stepped (image : List ℕ) (budget : ℕ) (sets work : List ℕ) (run : Run) (after work' : List ℕ) (run' : Run) (n : State) : Type 0 where
  pub next : (outcome : Outcome) → Searching image budget outcome sets work run → Course image budget outcome after work' run' n (suc run.nodes)
  pub later : drop layout.end work' ≡ drop layout.end work

-- what falls with each step: the nodes still to visit, and one more while a task is in hand
abbrev pub ahead : ℕ → Run → ℕ
ahead budget run = (budget - run.nodes) + (rank OVER - rank run.state)

-- the outcome that an answer tells, with the list as it is left
abbrev pub outcome_in : List ℕ → Ended → Outcome
outcome_in sets (Finished count nodes) = finished (take count sets) nodes
outcome_in sets (UsedUp nodes) = Rules.used_up nodes
outcome_in sets (NoRoom nodes) = no_room nodes

-- the number of kept sets that it tells
abbrev pub kept_in : Ended → ℕ
kept_in (Finished count nodes) = count
kept_in (UsedUp nodes) = 0
kept_in (NoRoom nodes) = 0

-- It tells this outcome, and the kept sets stand in the list.
pub record Told (outcome : Outcome) (sets : List ℕ) (answer : Ended) : Type 0 where
  pub is : outcome ≡ outcome_in sets answer
  pub few : kept_in answer ≤ length sets

-- whatever the outcome is with which the run has ended
abbrev pub Tells : Run → Ended → Type 0
Tells run answer = (outcome : Outcome) (sets : List ℕ) → Ending outcome sets run → Told outcome sets answer

-- What the whole walk leaves: the outcome that was to come, and a work area of zeros, with what lies behind it unchanged.
pub record Walked (image : List ℕ) (budget : ℕ) (sets work : List ℕ) (run : Run) (after work' : List ℕ) (answer : Ended) : Type 0 where
  pub told : (outcome : Outcome) → Searching image budget outcome sets work run → Told outcome after answer
  pub cleared : work' ≡ zeros layout.end ++ drop layout.end work

-- the last piece, which sees the image
pub record Onward (image : List ℕ) (work : List ℕ) (run run' : Run) : Type 0 where
  pub next : (budget : ℕ) (outcome : Outcome) (sets : List ℕ) (low : ℕ)
      → Course image budget outcome sets work run AGENDA low → Course image budget outcome sets work run' TASK low

-- where it stands, with the image
pub record Placed (image work : List ℕ) (run : Run) (n : State) : Type 0 where
  pub budget : ℕ
  pub outcome : Outcome
  pub sets : List ℕ
  pub low : ℕ
  pub state : Course image budget outcome sets work run n low

-- the node that a search begins at: the root, or the root with a hypothesis wanted true ahead of the goal
abbrev pub begins_at : Option ℕ → Book → Node
begins_at None b = root b
begins_at (Some h) b = root_with b h

-- where a hypothesis is given, it is an abducible of the book
abbrev pub Known : Option ℕ → Book → Type 0
Known None b = Unit {0}
Known (Some h) b = h < b.abducibles

-- A start may be made, where the image is a book and the work area not too short.
pub record Startable (image : List ℕ) (hypothesis : Option ℕ) (work : List ℕ) : Type 0 where
  pub book : IsBook image
  pub known : Known hypothesis (book_in image)
  pub long : layout.Long work

-- What it leaves: the node that the search begins at is due, with its first task in hand.
pub record Started (image : List ℕ) (hypothesis : Option ℕ) (work work' : List ℕ) (run : Run) : Type 0 where
  pub holds : Holds image (book_in image) work' run (begins_at hypothesis (book_in image) ∷ [])
  pub state : run.state ≡ TASK
  pub nodes : run.nodes ≡ 0
  pub count : run.count ≡ 0
  pub later : drop layout.end work' ≡ drop layout.end work

-- A search may begin, where the list is not too long either.
pub record Searchable (image : List ℕ) (hypothesis : Option ℕ) (sets work : List ℕ) : Type 0 where
  pub start : Startable image hypothesis work
  pub few : length sets ≤ longest

-- What it leaves: the rules' outcome, and a work area of zeros, with what lies behind it unchanged.
pub record Searched (image : List ℕ) (hypothesis : Option ℕ) (budget : ℕ) (work after work' : List ℕ) (answer : Ended) : Type 0 where
  pub told : Told (run_from (book_in image) (length after) budget (begins_at hypothesis (book_in image))) after answer
  pub cleared : work' ≡ zeros layout.end ++ drop layout.end work
