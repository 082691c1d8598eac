-- The image of a book, there and back: `decode (encode b)` is b for every book within the limits and without loops, and an
-- image of bytes that is accepted as b is `encode b`. An image has at most 8,751 bytes.
-- Assumes nothing.
use Rattle.std.specs.Prelude.{ℕ, suc, ◌+◌, ◌-◌, ◌*◌, ◌/◌, ◌%◌, ◌≤◌, ◌<◌, ◌≡◌, refl, Bool, true, false, List, [], ◌∷◌, ◌++◌, length, get_or, drop}
use Rattle.std.proofs.Common.{sym, ap, ap₂, ◌∙◌, subst, append_assoc, arith, add-one, length-append, drop_of_length-le, drop-cons, get_or-append-add}
use Rattle.std.proofs.Math.Seq.{get_or-append_seam}
use Rattle.base.specs.paper.Bools.{choose}
use Rattle.base.specs.paper.Lists.{Every, flat, sum}
use Rattle.base.specs.Lists.{every_none, every_more, every_first, every_rest, every_both}
use Rattle.image.specs.paper.Book.{Lit, Clause, Constraint, Book, body_count, literal_count}
use Rattle.image.specs.paper.Walk.{field_at, byte_values, field_values}
use Rattle.image.specs.paper.Faults.{limits}
use Rattle.image.specs.paper.Loops.{loop_free}
use Rattle.image.specs.paper.Decode.{length_field, accepted, decode}
use Rattle.image.specs.Spell.{of_lits, of_alternative, of_clause, of_constraint, of_both, words, two, encode, Stands, none, more}
use Rattle.image.specs.StandsLaws.{stands_at}
use Rattle.image.specs.Finds.{Named, length_lits, ClauseFine, AlternativeFine, ConstraintFine}
use Rattle.image.specs.Written.{Within, Written, decode_written, written_decode}
use Rattle.image.specs.paper.Front.{atoms_at, version}

-- ---- how long the words are, and how large each is

length_clauses : (cs : List Clause) → length (flat of_clause cs) ≡ 2 * length cs + sum body_count cs
length_clauses [] = refl
length_clauses (c ∷ cs) =
    let h : length (flat of_clause cs) ≡ 2 * length cs + sum body_count cs = length_clauses cs in
    omega (arith, length-append (of_clause c) (flat of_clause cs), length_lits c.body)

length_alternatives : (atoms : ℕ) (ways : List (List Lit)) → Every (AlternativeFine atoms) ways → length (flat of_alternative ways) ≤ 2 * sum length ways
length_alternatives atoms [] h = omega arith
length_alternatives atoms (ls ∷ ways) h =
    let r : length (flat of_alternative ways) ≤ 2 * sum length ways = length_alternatives atoms ways (every_rest h) in
    let s : 1 ≤ length ls = (every_first h).some in
    omega (arith, length-append (of_alternative ls) (flat of_alternative ways), length_lits ls)

length_constraint : (atoms : ℕ) (k : Constraint) → ConstraintFine atoms k → length (of_constraint k) ≤ 2 + 2 * literal_count k
length_constraint atoms k h =
    omega (
      arith,
      length-append (of_alternative k.conditions) (flat of_alternative k.alternatives),
      length_lits k.conditions,
      length_alternatives atoms k.alternatives h.ways,
    )

length_constraints : (atoms : ℕ) (ks : List Constraint) → Every (ConstraintFine atoms) ks
    → length (flat of_constraint ks) ≤ 2 * length ks + 2 * sum literal_count ks
length_constraints atoms [] h = omega arith
length_constraints atoms (k ∷ ks) h =
    let r : length (flat of_constraint ks) ≤ 2 * length ks + 2 * sum literal_count ks = length_constraints atoms ks (every_rest h) in
    omega (arith, length-append (of_constraint k) (flat of_constraint ks), length_constraint atoms k (every_first h))

-- the most fields that the limits allow: A and B; the goal; each clause's record length and head, and all bodies; each constraint's record length
-- and condition count, and all literals, each with a count of its own where it is an alternative
abbrev pub most_words : ℕ
most_words =
    2 + (1 + limits.goal) + (1 + 2 * limits.clauses + limits.bodies) + (1 + 2 * limits.constraints + 2 * limits.literals)

pub length_words : (b : Book) → Within limits b → length (words b) ≤ most_words
unfolding words
length_words b w =
    let goal : length b.goal ≤ limits.goal = w.goal in
    let clauses : length b.clauses ≤ limits.clauses = w.clauses in
    let bodies : sum body_count b.clauses ≤ limits.bodies = w.bodies in
    let constraints : length b.constraints ≤ limits.constraints = w.constraints in
    let literals : sum literal_count b.constraints ≤ limits.literals = w.literals in
    omega (
      arith,
      length-append (of_alternative b.goal) (of_both b.clauses b.constraints),
      length-append (length b.clauses ∷ flat of_clause b.clauses) (length b.constraints ∷ flat of_constraint b.constraints),
      length_lits b.goal,
      length_clauses b.clauses,
      length_constraints b.atoms b.constraints w.constraints_fine,
    )

abbrev pub Field : ℕ → Type 0
Field x = x < field_values

lits_small : (atoms : ℕ) (ls : List Lit) → atoms ≤ limits.atoms → Every (Named atoms) ls → Every Field (of_lits ls)
lits_small atoms [] a h = every_none Field
lits_small atoms (l ∷ ls) a h =
    let n : l.atom < atoms = every_first h in
    every_more (go l.sign) (lits_small atoms ls a (every_rest h))
  where
    go : (t : Bool) → 2 * l.atom + choose t 0 1 < field_values
    go true = let n : l.atom < atoms = every_first h in omega arith
    go false = let n : l.atom < atoms = every_first h in omega arith

counted_small : (atoms : ℕ) (ls : List Lit) → atoms ≤ limits.atoms → length ls ≤ limits.literals → Every (Named atoms) ls → Every Field (of_alternative ls)
counted_small atoms ls a n h = every_more (omega arith) (lits_small atoms ls a h)

clauses_small : (atoms abducibles : ℕ) (cs : List Clause) → atoms ≤ limits.atoms → sum body_count cs ≤ limits.bodies → Every (ClauseFine atoms abducibles) cs
    → Every Field (flat of_clause cs)
clauses_small atoms abducibles [] a n h = every_none Field
clauses_small atoms abducibles (c ∷ cs) a n h =
    let f = every_first h in
    let k : c.head < atoms = f.known in
    every_both
    (every_more (omega (arith, length_lits c.body)) (every_more (omega arith) (lits_small atoms c.body a f.named)))
    (clauses_small atoms abducibles cs a (omega arith) (every_rest h))

alternatives_small : (atoms : ℕ) (ways : List (List Lit)) → atoms ≤ limits.atoms → sum length ways ≤ limits.literals → Every (AlternativeFine atoms) ways
    → Every Field (flat of_alternative ways)
alternatives_small atoms [] a n h = every_none Field
alternatives_small atoms (ls ∷ ways) a n h =
    every_both (counted_small atoms ls a (omega arith) (every_first h).named) (alternatives_small atoms ways a (omega arith) (every_rest h))

constraints_small : (atoms : ℕ) (ks : List Constraint) → atoms ≤ limits.atoms → sum literal_count ks ≤ limits.literals → Every (ConstraintFine atoms) ks
    → Every Field (flat of_constraint ks)
constraints_small atoms [] a n h = every_none Field
constraints_small atoms (k ∷ ks) a n h =
    let f = every_first h in
    every_both
    (every_more (omega (arith, length_constraint atoms k f))
    (every_both (counted_small atoms k.conditions a (omega arith) f.named) (alternatives_small atoms k.alternatives a (omega arith) f.ways)))
    (constraints_small atoms ks a (omega arith) (every_rest h))

pub words_small : (b : Book) → Within limits b → Every Field (words b)
unfolding words
words_small b w =
    let atoms : b.atoms ≤ limits.atoms = w.atoms in
    let abducibles : b.abducibles ≤ limits.abducibles = w.abducibles in
    let goal : length b.goal ≤ limits.goal = w.goal in
    let clauses : length b.clauses ≤ limits.clauses = w.clauses in
    let constraints : length b.constraints ≤ limits.constraints = w.constraints in
    every_more (omega arith)
    (every_more (omega arith)
    (every_both (counted_small b.atoms b.goal atoms (omega arith) w.goal_named)
    (every_both (every_more (omega arith) (clauses_small b.atoms b.abducibles b.clauses atoms w.bodies w.clauses_fine))
    (every_more (omega arith) (constraints_small b.atoms b.constraints atoms w.literals w.constraints_fine)))))

-- ---- decode (encode b)

pub length_two : (ws : List ℕ) → length (flat two ws) ≡ 2 * length ws
length_two [] = refl
length_two (x ∷ ws) = let h : length (flat two ws) ≡ 2 * length ws = length_two ws in omega arith

-- two bytes behind any others are a field
field_of : (pre : List ℕ) (x : ℕ) (post : List ℕ) → x < field_values → field_at (pre ++ (two x ++ post)) (length pre) ≡ x
unfolding field_at
field_of pre x post h =
    let high : get_or (pre ++ (two x ++ post)) (length pre) 0 ≡ x / byte_values % byte_values = get_or-append_seam pre (x / byte_values % byte_values) (x % byte_values ∷ post) 0 in
    let low : get_or (pre ++ (two x ++ post)) (length pre + 1) 0 ≡ x % byte_values = get_or-append-add pre (two x ++ post) 1 0 in
    omega arith

pub stands_two : (pre ws : List ℕ) → Every Field ws → Stands (pre ++ flat two ws) (length pre) ws
stands_two pre [] h = none
stands_two pre (x ∷ ws) h =
    let long : length (pre ++ two x) ≡ length pre + 2 = length-append pre (two x) in
    let rest : Stands (pre ++ two x ++ flat two ws) (length (pre ++ two x)) ws = stands_two (pre ++ two x) ws (every_rest h) in
    more {at = length pre} (omega (arith, length-append pre (two x ++ flat two ws))) (field_of pre x (flat two ws) (every_first h))
    (stands_at long (subst (λ (s : List ℕ). Stands s (length (pre ++ two x)) ws) (append_assoc pre (two x) (flat two ws)) rest))

pub encode_written : (b : Book) → Within limits b → loop_free b ≡ true → Written (encode b) b
unfolding encode length_field field_at
encode_written b w free =
    let n : ℕ = 2 * length (words b) in
    let pre : List ℕ = version ∷ two (n / field_values) ++ two (n % field_values) in
    let long : length (flat two (words b)) ≡ n = length_two (words b) in
    let few : length (words b) ≤ most_words = length_words b w in
    record {
      front = record { long = omega arith; version = refl; size = omega arith };
      stands = stands_two pre (words b) (words_small b w);
      over = omega arith;
      within = w;
      free = free;
    }

pub decode_encode : (b : Book) → Within limits b → loop_free b ≡ true → decode (encode b) ≡ accepted b
decode_encode b w free = written_decode (encode b) b (encode_written b w free)

-- ---- encode of what was decoded

-- every entry is a byte
abbrev pub Bytes : List ℕ → Type 0
Bytes s = (i : ℕ) → get_or s i 0 < byte_values

unstands : (s : List ℕ) → Bytes s → (at : ℕ) (ws : List ℕ) → Stands s at ws → length s ≡ at + 2 * length ws → drop at s ≡ flat two ws
unfolding field_at
unstands s bytes at [] h e = let none : length s ≤ at = omega arith in drop_of_length-le s none
unstands s bytes at (x ∷ ws) (more within value h) e =
    let b₁ : get_or s at 0 < byte_values = bytes at in
    let b₂ : get_or s (at + 1) 0 < byte_values = bytes (at + 1) in
    let high : get_or s at 0 ≡ x / byte_values % byte_values = omega arith in
    let low : get_or s (at + 1) 0 ≡ x % byte_values = omega arith in
    let on : suc (at + 1) ≡ at + 2 = omega arith in
    let rest : drop (at + 2) s ≡ flat two ws = unstands s bytes (at + 2) ws h (omega arith) in
    drop-cons s at 0 (omega arith)
    ∙ ap₂ ◌∷◌ high
    (ap (λ (k : ℕ). drop k s) (sym (add-one at))
    ∙ drop-cons s (at + 1) 0 (omega arith)
    ∙ ap₂ ◌∷◌ low (ap (λ (k : ℕ). drop k s) on ∙ rest))

pub encode_decode : (s : List ℕ) (b : Book) → Bytes s → decode s ≡ accepted b → encode b ≡ s
unfolding encode length_field field_at
encode_decode s b bytes e =
    let w = decode_written s b e in
    let n : ℕ = 2 * length (words b) in
    let over : length s ≡ atoms_at + n = w.over in
    let size : field_values * (byte_values * get_or s 1 0 + get_or s 2 0) + (byte_values * get_or s 3 0 + get_or s 4 0) ≡ length s - atoms_at = w.front.size in
    let b₁ : get_or s 1 0 < byte_values = bytes 1 in
    let b₂ : get_or s 2 0 < byte_values = bytes 2 in
    let b₃ : get_or s 3 0 < byte_values = bytes 3 in
    let b₄ : get_or s 4 0 < byte_values = bytes 4 in
    let e₁ : get_or s 1 0 ≡ n / field_values / byte_values % byte_values = omega arith in
    let e₂ : get_or s 2 0 ≡ n / field_values % byte_values = omega arith in
    let e₃ : get_or s 3 0 ≡ n % field_values / byte_values % byte_values = omega arith in
    let e₄ : get_or s 4 0 ≡ n % field_values % byte_values = omega arith in
    sym
    (drop-cons s 0 0 (omega arith)
    ∙ ap₂ ◌∷◌ w.front.version
    (drop-cons s 1 0 (omega arith)
    ∙ ap₂ ◌∷◌ e₁
    (drop-cons s 2 0 (omega arith)
    ∙ ap₂ ◌∷◌ e₂
    (drop-cons s 3 0 (omega arith)
    ∙ ap₂ ◌∷◌ e₃ (drop-cons s 4 0 (omega arith) ∙ ap₂ ◌∷◌ e₄ (unstands s bytes atoms_at (words b) w.stands over))))))

-- "No accepted image is longer than 8,751 bytes" (paper 01, 3.5).
abbrev pub longest_image : ℕ
longest_image = atoms_at + 2 * most_words

pub longest_image_lem : (s : List ℕ) (b : Book) → decode s ≡ accepted b → length s ≤ longest_image
longest_image_lem s b e =
    let w = decode_written s b e in
    let over : length s ≡ atoms_at + 2 * length (words b) = w.over in
    let few : length (words b) ≤ most_words = length_words b w.within in
    omega arith
