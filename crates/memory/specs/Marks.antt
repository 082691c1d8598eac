-- No more literals are marked than a book has atoms at the most: each is of an atom that was free.
-- Assumes nothing.
use Rattle.std.specs.Prelude.{ℕ, suc, ◌+◌, ◌/◌, ◌≤◌, ◌<◌, ◌≡◌, refl, List, [], ◌∷◌}
use Rattle.std.proofs.Common.{arith, sym, subst}
use Rattle.base.specs.paper.Lists.{◌∈◌}
use Rattle.base.specs.Lists.{here}
use Rattle.image.specs.paper.Book.{Lit, Book}
use Rattle.image.specs.paper.Decode.{lit_of}
use Rattle.searching.specs.paper.Rules.{want, Node, children}
use Rattle.searching.proofs.Results.{child_of}
use Rattle.searching.specs.Bounds.{frames}
use Rattle.searching.proofs.Bounds.{frames_fall, root_frames}
use Rattle.area.specs.Area as layout
use Rattle.image.specs.paper.Faults.{limits}
use Rattle.memory.specs.Machine.{node_of, Trail, none, marks}
use Rattle.memory.specs.Sheet.{Unmarked, free_lit}
use Rattle.memory.specs.Tasks.{children_takes, held_free}

-- as many abducibles as atoms at the most, and nothing else
abbrev alone : Book
alone = record { atoms = limits.atoms; abducibles = limits.atoms; goal = []; clauses = []; constraints = [] }

abbrev bare : List Lit → Node
bare sheet = node_of [] sheet

want_frames : (l : Lit) (sheet : List Lit) → frames alone (node_of (want l ∷ []) sheet) ≡ frames alone (bare sheet)
unfolding frames
want_frames l sheet = refl

one_more : (m y : ℕ) (sheet : List Lit) → y < layout.literal_numbers → Unmarked sheet (y / 2) → m + frames alone (bare sheet) ≤ limits.atoms → suc m + frames alone (bare (lit_of y ∷ sheet)) ≤ limits.atoms
one_more m y sheet h u f =
    let says = free_lit sheet y u in
    let atom : y / 2 < limits.atoms = omega arith in
    let ch = children_takes alone sheet [] (lit_of y) says.0 says.1 atom in
    let mine : bare (lit_of y ∷ sheet) ∈ children alone (node_of (want (lit_of y) ∷ []) sheet) =
    subst (λ (l : List Node). bare (lit_of y ∷ sheet) ∈ l) (sym ch) here in
    omega (
      arith,
      frames_fall alone atom (child_of alone (node_of (want (lit_of y) ∷ []) sheet) mine),
      held_free sheet (lit_of y) says.1,
      want_frames (lit_of y) sheet,
    )

trail_frames : {work : List ℕ} {m : ℕ} {sheet : List Lit} → Trail work m sheet → m + frames alone (bare sheet) ≤ limits.atoms
trail_frames none = omega (arith, root_frames alone)
trail_frames (marks {m} {sheet} y e h p q t) = one_more m y sheet h (p, q) (trail_frames t)

pub trail_few : {work : List ℕ} {m : ℕ} {sheet : List Lit} → Trail work m sheet → m ≤ limits.atoms
trail_few t = omega (arith, trail_frames t)

-- and a free atom leaves room
pub trail_room : {work : List ℕ} {m : ℕ} {sheet : List Lit} (y : ℕ) → y < layout.literal_numbers → Unmarked sheet (y / 2) → Trail work m sheet → m < limits.atoms
trail_room {m = m} {sheet} y h u t = omega (arith, one_more m y sheet h u (trail_frames t))
