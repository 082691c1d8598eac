-- The image of the book with a group's facts, in pieces: all but the length, the clause count and the facts are parts of the book's own
-- image.
-- Assumes nothing.
use Rattle.std.specs.Prelude.{ℕ, ◌+◌, ◌-◌, ◌*◌, ◌≡◌, take, drop}
use Rattle.std.proofs.Common.{sym, ◌∙◌, length-append, take_at, drop_at}
use Rattle.std.proofs.Math.Path.{ap}
use mathlib.Core.List.{List, ◌∷◌, ◌++◌, map, append_assoc}
use native.Mathlib.Omega.{arith}
use Rattle.std.proofs.Math.ListN.{length}
use Rattle.std.proofs.Math.Seq.{slice, take-length}
use Rattle.base.specs.paper.Lists.{flat}
use Rattle.base.specs.Flat.{flat_append}
use Rattle.image.specs.paper.Book.{Book}
use Rattle.image.specs.paper.Front.{atoms_at}
use Rattle.image.specs.paper.Walk.{field_at}
use Rattle.image.specs.paper.Decode.{decode, accepted}
use Rattle.image.specs.Spell.{of_alternative, of_clause, of_constraint, words, two, encode}
use Rattle.image.specs.Laid.{length_two}
use Rattle.image.specs.Finds.{length_lits}
use Rattle.image.specs.Written.{decode_written}
use Rattle.image.specs.Encode.{Bytes, encode_decode}
use Rattle.image.specs.Shown.{clause_count_at, constraint_count_at, shown}
use Rattle.groups.specs.paper.Group.{fact, with_facts, group_image}
use Rattle.groups.specs.GroupLaws.{length_facts}
use Rattle.groups.specs.Pieces.{front_bytes, length_front, goal_bytes, clause_bytes, constraint_bytes, fact_bytes, fact_length, length_fact_bytes, constraints_place}

words_pieces : (b : Book) → flat two (words b) ≡ goal_bytes b ++ (two (length b.clauses) ++ (clause_bytes b ++ constraint_bytes b))
unfolding words
words_pieces b =
    let goal : List ℕ = b.atoms ∷ b.abducibles ∷ of_alternative b.goal in
    let clauses : List ℕ = flat of_clause b.clauses in
    let constraints : List ℕ = length b.constraints ∷ flat of_constraint b.constraints in
    flat_append two goal (length b.clauses ∷ (clauses ++ constraints))
    ∙ ap (λ (s : List ℕ). flat two goal ++ (two (length b.clauses) ++ s)) (flat_append two clauses constraints)

words_length : (b : Book) → 2 * length (words b) ≡ length (goal_bytes b) + 2 + length (clause_bytes b) + length (constraint_bytes b)
words_length b =
    omega (
      arith,
      length_two (words b),
      ap length (words_pieces b),
      length-append (goal_bytes b) (two (length b.clauses) ++ (clause_bytes b ++ constraint_bytes b)),
      length-append (clause_bytes b) (constraint_bytes b),
    )

encode_pieces : (b : Book) → encode b ≡ front_bytes (2 * length (words b)) ++ (goal_bytes b ++ (two (length b.clauses) ++ (clause_bytes b ++ constraint_bytes b)))
unfolding encode front_bytes
encode_pieces b = ap (λ (s : List ℕ). front_bytes (2 * length (words b)) ++ s) (words_pieces b)

-- with facts

fact_pieces : (b : Book) (xs : List ℕ) → clause_bytes (with_facts b xs) ≡ clause_bytes b ++ fact_bytes xs
unfolding with_facts
fact_pieces b xs = ap (flat two) (flat_append of_clause b.clauses (map fact xs)) ∙ flat_append two (flat of_clause b.clauses) (flat of_clause (map fact xs))

group_words : (b : Book) (xs : List ℕ) → 2 * length (words (with_facts b xs)) ≡ 2 * length (words b) + fact_length * length xs
unfolding with_facts
group_words b xs =
    omega (
      arith,
      words_length b,
      words_length (with_facts b xs),
      ap length (fact_pieces b xs),
      length-append (clause_bytes b) (fact_bytes xs),
      length_fact_bytes xs,
    )

-- ---- a piece in the middle

slice_piece : (p q r : List ℕ) (from to : ℕ) → length p ≡ from → from + length q ≡ to → slice from to (p ++ (q ++ r)) ≡ q
slice_piece p q r from to e f =
    ap (drop from)
    (ap (take to) (sym (append_assoc p q r))
    ∙ take_at (p ++ q) r to (omega (arith, length-append p q)))
    ∙ drop_at p q from e

regroup : (p q r t : List ℕ) → (p ++ (q ++ r)) ++ t ≡ p ++ (q ++ (r ++ t))
regroup p q r t = append_assoc p (q ++ r) t ∙ ap (λ (l : List ℕ). p ++ l) (append_assoc q r t)

six_pieces : (p q r t u v : List ℕ) → p ++ q ++ r ++ t ++ u ++ v ≡ p ++ (q ++ (r ++ ((t ++ u) ++ v)))
six_pieces p q r t u v = simp append_assoc

-- ---- of an accepted image

module _ (s : List ℕ) (b : Book) (e : decode s ≡ accepted b) where
  clauses_place : atoms_at + length (goal_bytes b) ≡ clause_count_at s
  unfolding clause_count_at
  clauses_place = omega (arith, length_two (b.atoms ∷ b.abducibles ∷ of_alternative b.goal), length_lits b.goal, (shown s b e).goals)

  pub group_bytes : (xs : List ℕ) → length (group_image b xs) ≡ length s + fact_length * length xs
  unfolding encode
  group_bytes xs = omega (arith, length_two (words (with_facts b xs)), group_words b xs, (decode_written s b e).over)

  -- what stands before the clauses
  abbrev counted : List ℕ
  counted = front_bytes (2 * length (words b)) ++ (goal_bytes b ++ two (length b.clauses))

  counted_length : length counted ≡ clause_count_at s + 2
  counted_length =
      let count : List ℕ = two (length b.clauses) in
      let front : List ℕ = front_bytes (2 * length (words b)) in
      omega (arith, length-append front (goal_bytes b ++ count), length-append (goal_bytes b) count, length_front (2 * length (words b)), clauses_place)

  module _ (bytes : Bytes s) where
    whole : s ≡ front_bytes (2 * length (words b)) ++ (goal_bytes b ++ (two (length b.clauses) ++ (clause_bytes b ++ constraint_bytes b)))
    whole = sym (encode_decode s b bytes e) ∙ encode_pieces b

    behind_count : s ≡ counted ++ (clause_bytes b ++ constraint_bytes b)
    behind_count = whole ∙ sym (regroup (front_bytes (2 * length (words b))) (goal_bytes b) (two (length b.clauses)) (clause_bytes b ++ constraint_bytes b))

    goal_piece : slice atoms_at (clause_count_at s) s ≡ goal_bytes b
    goal_piece =
        ap (slice atoms_at (clause_count_at s)) whole
        ∙ slice_piece (front_bytes (2 * length (words b))) (goal_bytes b) (two (length b.clauses) ++ (clause_bytes b ++ constraint_bytes b)) atoms_at (clause_count_at s)
        (length_front (2 * length (words b))) clauses_place

    clause_piece : slice (clause_count_at s + 2) (constraint_count_at s) s ≡ clause_bytes b
    clause_piece =
        ap (slice (clause_count_at s + 2) (constraint_count_at s)) behind_count
        ∙ slice_piece counted (clause_bytes b) (constraint_bytes b) (clause_count_at s + 2) (constraint_count_at s) counted_length (constraints_place s b e)

    constraint_piece : slice (constraint_count_at s) (length s) s ≡ constraint_bytes b
    constraint_piece =
        ap (drop (constraint_count_at s)) (take-length s ∙ behind_count ∙ sym (append_assoc counted (clause_bytes b) (constraint_bytes b)))
        ∙ drop_at (counted ++ clause_bytes b) (constraint_bytes b) (constraint_count_at s)
        (omega (arith, length-append counted (clause_bytes b), counted_length, (constraints_place s b e)))

    group_whole : (xs : List ℕ)
        → front_bytes (length s + fact_length * length xs - atoms_at)
        ++ slice atoms_at (clause_count_at s) s
        ++ two (field_at s (clause_count_at s) + length xs)
        ++ slice (clause_count_at s + 2) (constraint_count_at s) s
        ++ fact_bytes xs
        ++ slice (constraint_count_at s) (length s) s
        ≡ group_image b xs
    unfolding with_facts
    group_whole xs =
        let size : 2 * length (words (with_facts b xs)) ≡ length s + fact_length * length xs - atoms_at = omega (arith, group_words b xs, (decode_written s b e).over) in
        let count : length (b.clauses ++ map fact xs) ≡ field_at s (clause_count_at s) + length xs = omega (arith, length_facts b.clauses xs, (shown s b e).clauses) in
        cc (
          six_pieces _ _ _ _ _ _,
          goal_piece,
          clause_piece,
          constraint_piece,
          fact_pieces b xs,
          encode_pieces (with_facts b xs),
        )

    -- the whole image of the book with facts, in the order in which it is written, by what was read
    pub group_pieces : (xs : List ℕ) {counted told facts n : ℕ} → counted ≡ clause_count_at s → told ≡ constraint_count_at s → facts ≡ length xs → n ≡ field_at s counted
        → front_bytes (length s + fact_length * facts - atoms_at)
        ++ slice atoms_at counted s
        ++ two (n + facts)
        ++ slice (counted + 2) told s
        ++ fact_bytes xs
        ++ slice told (length s) s
        ≡ group_image b xs
    group_pieces xs p q r v = rw (v, p, q, r) (group_whole xs)
