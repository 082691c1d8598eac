-- No place of a refusal lies past the longest image: what the fields before a place may fill at most, by what is due there.
-- Assumes nothing.
use Rattle.std.specs.Prelude.{ℕ, zero, suc, ◌+◌, ◌*◌, ◌≤◌, ◌≡◌, refl, Bool, true, false, List, [], ◌∷◌, ◌++◌, ltb, length}
use Rattle.std.proofs.Common.{sym, subst, arith, length-append}
use Rattle.base.specs.paper.Bools.{choose}
use Rattle.base.specs.paper.Lists.{flat}
use Rattle.image.specs.paper.Front.{atoms_at}
use Rattle.image.specs.paper.Book.{Clause, Book}
use Rattle.image.specs.paper.Walk.{fine}
use Rattle.image.specs.paper.Faults.{limits, body_of}
use Rattle.image.specs.paper.Decode.{record_place, refused, decode}
use Rattle.image.specs.FaultLaws.{count_fine, clause_fine, conditions_fine, alternative_fine}
use Rattle.image.specs.Shown.{abducibles_at, goals_at, goal_at}
use Rattle.image.specs.Spell.{of_alternative, of_clause, of_constraint, of_both, words}
use Rattle.image.specs.Encode.{longest_image, length_words}
use Rattle.image.specs.Written.{Within, whole_found}
use Rattle.placing.specs.paper.Places.{Due, atoms, abducibles, goal_count, clause_count, clause_length, head, constraint_count, constraint_length, condition_count, alternative_count, nothing, literals, constraints, clauses, ways, next, fault_of, Sound, front, FirstOnLoop, Placed, short, unknown, other_length}
use Rattle.placing.proofs.PlaceLaws.{placed}

-- ---- the last place that a field may have

abbrev clause_count_most : ℕ
clause_count_most = goal_at + 2 * limits.goal

-- behind the record lengths and heads of all clauses, where no body has a literal; each of these takes a field more
abbrev clauses_most : ℕ
clauses_most = clause_count_most + 2 + 4 * limits.clauses

abbrev constraint_count_most : ℕ
constraint_count_most = clauses_most + 2 * limits.bodies

-- behind the record lengths and condition counts of all constraints, where none has a literal; each of these takes two fields more at most,
-- itself and its alternative's count
abbrev constraints_most : ℕ
constraints_most = constraint_count_most + 2 + 4 * limits.constraints

-- what is due at this place, and all behind it, has room within the longest image
abbrev Room : ℕ → Due → Type 0
Room at atoms = at ≡ atoms_at
Room at (abducibles a) = at ≡ abducibles_at
Room at (goal_count a b) = at ≡ goals_at
Room at (Due.literal a more due) = Room (at + 2 + 2 * more) due
Room at (clause_count a b) = at ≤ clause_count_most
Room at (clause_length a b more sum) = (at + 4 * suc more ≤ clauses_most + 2 * sum) × (sum ≤ limits.bodies)
Room at (head a b body due) = Room (at + 2 + 2 * body) due
Room at (constraint_count a) = at ≤ constraint_count_most
Room at (constraint_length a more sum) = (at + 4 * suc more ≤ constraints_most + 4 * sum) × (sum ≤ limits.literals)
Room at (condition_count a end more sum) = (at + 2 + 4 * more ≤ constraints_most + 4 * sum) × (sum ≤ limits.literals)
Room at (alternative_count a end more sum) = (at + 4 * more ≤ constraints_most + 4 * sum) × (sum ≤ limits.literals)
Room at nothing = at ≤ longest_image

room_most : (at : ℕ) (d : Due) → Room at d → at ≤ longest_image
room_most at atoms h = omega arith
room_most at (abducibles a) h = omega arith
room_most at (goal_count a b) h = omega arith
room_most at (Due.literal a more due) h = omega (arith, room_most (at + 2 + 2 * more) due h)
room_most at (clause_count a b) h = omega arith
room_most at (clause_length a b more sum) h = omega arith
room_most at (head a b body due) h = omega (arith, room_most (at + 2 + 2 * body) due h)
room_most at (constraint_count a) h = omega arith
room_most at (constraint_length a more sum) h = omega arith
room_most at (condition_count a end more sum) h = omega arith
room_most at (alternative_count a end more sum) h = omega arith
room_most at nothing h = h

-- ---- what is due behind a sound field has room

room_literals : (at a n : ℕ) (due : Due) → Room (at + 2 * n) due → Room at (literals a n due)
room_literals at a zero due h = let same : at + 2 * 0 ≡ at = omega arith in subst (λ (k : ℕ). Room k due) same h
room_literals at a (suc n) due h = let same : at + 2 * suc n ≡ at + 2 + 2 * n = omega arith in subst (λ (k : ℕ). Room k due) same h

room_clauses : (at a b n sum : ℕ) → at + 4 * n ≤ clauses_most + 2 * sum → sum ≤ limits.bodies → Room at (clauses a b n sum)
room_clauses at a b zero sum h k = omega arith
room_clauses at a b (suc n) sum h k = (h, k)

room_constraints : (at a n sum : ℕ) → at + 4 * n ≤ constraints_most + 4 * sum → sum ≤ limits.literals → Room at (constraints a n sum)
room_constraints at a zero sum h k = omega arith
room_constraints at a (suc n) sum h k = (h, k)

room_ways : (at a end more sum : ℕ) → at + 4 * more ≤ constraints_most + 4 * sum → sum ≤ limits.literals → Room at (ways a end more sum at)
room_ways at a end more sum h k = go (ltb at end)
  where
    go : (t : Bool) → Room at (choose t (alternative_count a end more sum) (constraints a more sum))
    go true = (h, k)
    go false = room_constraints at a more sum h k

room_next : (bytes at : ℕ) (d : Due) (x : ℕ) → Room at d → fault_of bytes at d x ≡ fine → Room (at + 2) (next at d x)
unfolding next fault_of
room_next bytes at atoms x h e = omega arith
room_next bytes at (abducibles a) x h e = omega arith
room_next bytes at (goal_count a b) x h e =
    let few : x ≤ limits.goal = count_fine limits.goal x e in
    room_literals (at + 2) a x (clause_count a b) (omega arith)
room_next bytes at (Due.literal a more due) x h e = room_literals (at + 2) a more due h
room_next bytes at (clause_count a b) x h e =
    let few : x ≤ limits.clauses = count_fine limits.clauses x e in
    room_clauses (at + 2) a b x 0 (omega arith) (omega arith)
room_next bytes at (clause_length a b more sum) x h e =
    let few : sum + body_of x ≤ limits.bodies = (clause_fine _ limits.bodies sum x e).total in
    room_clauses (at + 2 + 2 + 2 * body_of x) a b more (sum + body_of x) (omega arith) few
room_next bytes at (head a b body due) x h e = room_literals (at + 2) a body due h
room_next bytes at (constraint_count a) x h e =
    let few : x ≤ limits.constraints = count_fine limits.constraints x e in
    room_constraints (at + 2) a x 0 (omega arith) (omega arith)
room_next bytes at (constraint_length a more sum) x h e = (omega arith, h.1)
room_next bytes at (condition_count a end more sum) x h e =
    let few : sum + x ≤ limits.literals = (conditions_fine _ limits.literals sum x e).1 in
    room_literals (at + 2) a x (ways a end more (sum + x) (at + 2 + 2 * x)) (room_ways (at + 2 + 2 * x) a end more (sum + x) (omega arith) few)
room_next bytes at (alternative_count a end more sum) x h e =
    let is_fine = alternative_fine _ limits.literals sum x e in
    let some : 1 ≤ x = is_fine.0 in
    let few : sum + x ≤ limits.literals = is_fine.2 in
    room_literals (at + 2) a x (ways a end more (sum + x) (at + 2 + 2 * x)) (room_ways (at + 2 + 2 * x) a end more (sum + x) (omega arith) few)
room_next bytes at nothing x h e = let z : ◌≡◌ {A = ℕ} 0 1 = cc in absurd (omega arith)

sound_room : {s : List ℕ} {at : ℕ} {d : Due} → Sound s at d → Room at d
sound_room front = refl
sound_room {s} (Sound.behind {at = at} {d = d} h there is_fine) = room_next (length s) at d _ (sound_room h) is_fine

-- ---- a clause's record stands within its book's words

length_flat : {A : Type 0} (f : A → List ℕ) (xs ys : List A) → length (flat f xs) ≤ length (flat f (xs ++ ys))
length_flat f [] ys = omega arith
length_flat f (x ∷ xs) ys =
    omega (arith, length-append (f x) (flat f xs), length-append (f x) (flat f (xs ++ ys)), length_flat f xs ys)

record_most : (b : Book) (before : List Clause) (c : Clause) → Within limits b → FirstOnLoop b before c → record_place b before ≤ longest_image
unfolding record_place words
record_most b before c w f =
    let goal : List ℕ = of_alternative b.goal in
    let few : length (flat of_clause before) ≤ length (flat of_clause b.clauses) =
    subst (λ (cs : List Clause). length (flat of_clause before) ≤ length (flat of_clause cs)) (sym f.all) (length_flat of_clause before (c ∷ f.rest)) in
    omega (
      arith,
      length_words b w,
      length-append goal (length b.clauses ∷ flat of_clause before),
      length-append goal (of_both b.clauses b.constraints),
      length-append (length b.clauses ∷ flat of_clause b.clauses) (length b.constraints ∷ flat of_constraint b.constraints),
    )

placed_most : {s : List ℕ} {n at : ℕ} → Placed s n at → at ≤ longest_image
placed_most (short h) = omega arith
placed_most (unknown h v) = omega arith
placed_most (other_length h v l) = omega arith
placed_most (Placed.fault {at = at} {d = d} p h k) = room_most at d (sound_room h)
placed_most {s} (Placed.loop {b = b} {before = before} {c = c} p h w f) = record_most b before c (whole_found s limits atoms_at b (length s) w).0.is_fine f

-- No place passes the longest image.
pub place_most : (s : List ℕ) (n at : ℕ) → decode s ≡ refused n at → at ≤ longest_image
place_most s n at e = placed_most (placed s n at e)
