-- The numbers that the code gives to the table's entries are the document's.
-- Assumes nothing.
use Rattle.std.specs.Prelude.{ℕ, zero, suc, ◌+◌, ◌-◌, ◌≤◌, ◌<◌, ◌≡◌, refl, Bool, true, false, ◌||◌, not, ◌⊎◌, List, [], ◌∷◌, ◌++◌, map, length, take, drop, get_or, eqb}
use Rattle.std.proofs.Common.{arith, sym, ap, ap₂, ◌∙◌, subst, ⊎_elim, append_assoc, length-append, take-suc, length-take-le}
use mathlib.Core.List.Memᴰ
use Rattle.std.proofs.lemmas.List.{map-append, length-map}
use Rattle.std.proofs.Math.Seq.{split_at}
use Rattle.base.specs.paper.Bools.{choose}
use Rattle.base.specs.Bools.{clash, choose_true}
use Rattle.base.specs.paper.Lists.{◌∈◌, Every, any, put, filter, Once}
use Rattle.base.specs.Lists.{here, any_some, any_append, ahead, ahead_append}
use Rattle.base.specs.Parts.{filter_from, filter_append, filter_true, pairwise_between, pairwise_right}
use Rattle.base.specs.Flat.{∈_map, map_∈}
use Rattle.spelling.specs.paper.Words.{Word, same}
use Rattle.spelling.specs.paper.Document.{Atom, Document}
use Rattle.spelling.specs.paper.Said.{mentions, firsts, abducibles, others, numbered, clashing, number_of}
use Rattle.spelling.specs.WordLaws.{same_true, same_refl}
use Rattle.spelling.proofs.Numbering.{number_ahead, firsts_once}
use Rattle.spelling.specs.Table.{name_of, is_marked, table_of, clashes, no_atom, bit, Entries, marked_entry, marks_in, number_in}
use Rattle.spelling.proofs.TableLaws.{mentioned_entry, kind_names, clashes_clashing}

abbrev pub is_bare : Atom → Bool
is_bare a = not a.marked

-- the names of a table by their numbers
abbrev pub numbered_in : List Atom → List Word
numbered_in table = map name_of (filter is_marked table) ++ map name_of (filter is_bare table)

-- ---- an entry's number

absent : (kind : Atom → Bool) (n : Word) (s : List Atom) → Every (λ (w : Word). w ≡ n → ⊥) (map name_of s) → any (same n) (map name_of (filter kind s)) ≡ false
absent kind n s h = go (any (same n) (map name_of (filter kind s))) refl
  where
    go : (t : Bool) → any (same n) (map name_of (filter kind s)) ≡ t → t ≡ false
    go false e = refl
    go true e =
        let w = any_some (same n) (map name_of (filter kind s)) e in
        let m = map_∈ name_of (filter kind s) w.1 in
        absurd (h m.0.name (∈_map name_of (filter_from kind s m.1).0) (sym (same_true n w.0 w.2 ∙ m.2)))

module _ (before after : List Atom) (a : Atom) (once : Once (map name_of (before ++ a ∷ after))) where
  abbrev all_entries : List Atom
  all_entries = before ++ a ∷ after

  parted : map name_of all_entries ≡ map name_of before ++ a.name ∷ map name_of after
  parted = map-append name_of before (a ∷ after)

  none_before : Every (λ (w : Word). w ≡ a.name → ⊥) (map name_of before)
  none_before w i e =
      pairwise_between (λ (v w : Word). v ≡ w → ⊥) (map name_of before) (a.name ∷ map name_of after) (subst Once parted once) w i a.name here e

  none_after : Every (λ (w : Word). w ≡ a.name → ⊥) (map name_of after)
  none_after w i e =
      (pairwise_right (λ (v w : Word). v ≡ w → ⊥) (map name_of before) (a.name ∷ map name_of after) (subst Once parted once)).0 w i (sym e)

  -- the names of its kind
  of_kind : (kind : Atom → Bool) (t : Bool) → kind a ≡ t
      → map name_of (filter kind all_entries) ≡ map name_of (filter kind before) ++ map name_of (put t a (filter kind after))
  of_kind kind t e =
      ap (map name_of) (filter_append kind before (a ∷ after) ∙ ap (λ (b : Bool). filter kind before ++ put b a (filter kind after)) e)
      ∙ map-append name_of (filter kind before) (put t a (filter kind after))

  first_of : (kind : Atom → Bool) (u : List Word) → ahead (same a.name) ((map name_of (filter kind before) ++ a.name ∷ u)) ≡ length (filter kind before)
  first_of kind u =
      let e : ahead (same a.name) (a.name ∷ u) ≡ 0 = choose_true 0 (suc (ahead (same a.name) u)) (same_refl a.name) in
      omega (
        arith,
        e,
        ahead_append (same a.name) (map name_of (filter kind before)) (a.name ∷ u) (absent kind a.name before none_before),
        length-map (filter kind before) name_of,
      )

  rank_marked : a.marked ≡ true → number_of (numbered_in all_entries) a.name ≡ length (filter is_marked before)
  rank_marked e =
      number_ahead (numbered_in all_entries) a.name
      ∙ ap (λ (l : List Word). ahead (same a.name) (l ++ map name_of (filter is_bare all_entries))) (of_kind is_marked true e)
      ∙ ap (ahead (same a.name)) (append_assoc (map name_of (filter is_marked before)) (a.name ∷ map name_of (filter is_marked after)) (map name_of (filter is_bare all_entries)))
      ∙ first_of is_marked (map name_of (filter is_marked after) ++ map name_of (filter is_bare all_entries))

  rank_bare : a.marked ≡ false → number_of (numbered_in all_entries) a.name ≡ length (filter is_marked all_entries) + length (filter is_bare before)
  rank_bare e =
      let n : Word = a.name in
      let u : List Word = map name_of (filter is_marked all_entries) in
      let v : List Word = map name_of (filter is_bare all_entries) in
      let none : any (same n) u ≡ false =
      ap (any (same n)) (of_kind is_marked false e)
      ∙ any_append (same n) (map name_of (filter is_marked before)) (map name_of (filter is_marked after))
      ∙ ap₂ ◌||◌ (absent is_marked n before none_before) (absent is_marked n after none_after) in
      let first : ahead (same n) v ≡ length (filter is_bare before) = ap (ahead (same n)) (of_kind is_bare true (ap not e)) ∙ first_of is_bare (map name_of (filter is_bare after)) in
      omega (arith, number_ahead (u ++ v) n, ahead_append (same n) u v none, first, length-map (filter is_marked all_entries) name_of)

both_kinds : (s : List Atom) → length (filter is_marked s) + length (filter is_bare s) ≡ length s
both_kinds [] = refl
both_kinds (a ∷ s) = go a.marked (both_kinds s)
  where
    go : (t : Bool) → length (filter is_marked s) + length (filter is_bare s) ≡ length s
        → length (put t a (filter is_marked s)) + length (put (not t) a (filter is_bare s)) ≡ suc (length s)
    go true e = omega (arith, e)
    go false e = omega (arith, e)

-- ---- the number that the code gives

module _ (text entries : List ℕ) (table : List Atom) (e : Entries text entries table) (room : length table ≤ length entries) where
  same_mark : (i : ℕ) → i < length table → marked_entry (get_or entries i 0) ≡ is_marked (get_or table i no_atom)
  same_mark i h = ap (λ (n : ℕ). eqb n 1) (e i h).mark ∙ go (is_marked (get_or table i no_atom))
    where
      go : (t : Bool) → eqb (bit t) 1 ≡ t
      go true = refl
      go false = refl

  marks_before : (i : ℕ) → i ≤ length table → marks_in (take i entries) ≡ length (filter is_marked (take i table))
  marks_before zero h = refl
  marks_before (suc i) h =
      let x : ℕ = get_or entries i 0 in
      let a : Atom = get_or table i no_atom in
      ap marks_in (take-suc entries i 0 (omega (arith, h, room)))
      ∙ ap length (filter_append marked_entry (take i entries) (x ∷ []))
      ∙ length-append (filter marked_entry (take i entries)) (filter marked_entry (x ∷ []))
      ∙ ap₂ ◌+◌ (marks_before i (omega (arith, h))) (one x a (same_mark i (omega (arith, h))))
      ∙ sym (length-append (filter is_marked (take i table)) (filter is_marked (a ∷ [])))
      ∙ sym (ap length (filter_append is_marked (take i table) (a ∷ [])))
      ∙ sym (ap (λ (l : List Atom). length (filter is_marked l)) (take-suc table i no_atom (omega (arith, h))))
    where
      one : (x : ℕ) (a : Atom) → marked_entry x ≡ is_marked a → length (filter marked_entry (x ∷ [])) ≡ length (filter is_marked (a ∷ []))
      one x a q = ap (λ (t : Bool). length (put t x [])) q ∙ go (is_marked a)
        where
          go : (t : Bool) → length (put t x []) ≡ length (put t a [])
          go true = refl
          go false = refl

  module _ (once : Once (map name_of table)) where
    pub entry_number : (i : ℕ) → i < length table → number_in (length (filter is_marked table)) entries i ≡ number_of (numbered_in table) (name_of (get_or table i no_atom))
    entry_number i h =
        let a : Atom = get_or table i no_atom in
        let s : table ≡ take i table ++ a ∷ drop (suc i) table = split_at table i no_atom h in
        ap (λ (t : Bool). choose t (marks_in (take i entries)) (length (filter is_marked table) + (i - marks_in (take i entries)))) (same_mark i h)
        ∙ go (is_marked a) refl (subst (λ (l : List Atom). Once (map name_of l)) s once)
        ∙ ap (λ (l : List Atom). number_of (numbered_in l) (name_of a)) (sym s)
      where
        go : (t : Bool) → is_marked (get_or table i no_atom) ≡ t → Once (map name_of (take i table ++ get_or table i no_atom ∷ drop (suc i) table))
            → choose t (marks_in (take i entries)) (length (filter is_marked table) + (i - marks_in (take i entries)))
            ≡ number_of (numbered_in (take i table ++ get_or table i no_atom ∷ drop (suc i) table)) (name_of (get_or table i no_atom))
        go true q o = marks_before i (omega (arith, h)) ∙ sym (rank_marked (take i table) (drop (suc i) table) (get_or table i no_atom) o q)
        go false q o =
            let s : table ≡ take i table ++ get_or table i no_atom ∷ drop (suc i) table = split_at table i no_atom h in
            omega (
              arith,
              rank_bare (take i table) (drop (suc i) table) (get_or table i no_atom) o q,
              marks_before i (omega (arith, h)),
              both_kinds (take i table),
              length_taken,
              ap (λ (l : List Atom). length (filter is_marked l)) s,
            )
          where
            length_taken : length (take i table) ≡ i
            length_taken = length-take-le i table (omega (arith, h))

-- ---- the document's

all_names : (ms : List Atom) → clashes [] ms ≡ false → map name_of (table_of ms) ≡ firsts (map name_of ms)
all_names ms h =
    ap (map name_of) (sym (filter_true (λ (a : Atom). true) (table_of ms) (λ a. refl)))
    ∙ kind_names (λ a. true) (λ e a q. refl) ms h
    ∙ ap (λ (l : List Atom). firsts (map name_of l)) (filter_true (λ (a : Atom). true) ms (λ a. refl))

module _ (d : Document) (clear : clashing d ≡ false) where
  abbrev table : List Atom
  table = table_of (mentions d)

  unclashed : clashes [] (mentions d) ≡ false
  unclashed = clashes_clashing d ∙ clear

  pub table_abducibles : map name_of (filter is_marked table) ≡ abducibles d
  table_abducibles = kind_names is_marked (λ e a q. q) (mentions d) unclashed

  pub table_others : map name_of (filter is_bare table) ≡ others d
  table_others = kind_names is_bare (λ e a q. ap not q) (mentions d) unclashed

  pub table_numbered : numbered_in table ≡ numbered d
  table_numbered = ap₂ ◌++◌ table_abducibles table_others

  pub table_once : Once (map name_of table)
  table_once = subst Once (sym (all_names (mentions d) unclashed)) (firsts_once (map name_of (mentions d)))

  -- A and B
  pub table_atoms : length table ≡ length (numbered d)
  table_atoms =
      omega (
        arith,
        both_kinds table,
        length-map (filter is_marked table) name_of,
        length-map (filter is_bare table) name_of,
        length-append (map name_of (filter is_marked table)) (map name_of (filter is_bare table)),
        ap length table_numbered,
      )

  pub table_marked : length (filter is_marked table) ≡ length (abducibles d)
  table_marked = sym (length-map (filter is_marked table) name_of) ∙ ap length table_abducibles

  -- the number of each atom that is mentioned
  pub mention_number : (text entries : List ℕ) → Entries text entries table → length table ≤ length entries → (a : Atom) → a ∈ mentions d
      → (number_of (map name_of table) a.name < length table)
      × (number_in (length (filter is_marked table)) entries (number_of (map name_of table) a.name) ≡ number_of (numbered d) a.name)
  mention_number text entries e room a i =
      let s = mentioned_entry [] (mentions d) a i in
      let at = number_at (map name_of table) a.name (subst (λ (w : Word). w ∈ map name_of table) (sym s.2) (∈_map name_of s.1)) in
      let low : number_of (map name_of table) a.name < length table = omega (arith, at.0, length-map table name_of) in (
        low,
        entry_number text entries table e room table_once (number_of (map name_of table) a.name) low
            ∙ ap (number_of (numbered_in table)) (sym (get_or_named table (number_of (map name_of table) a.name)) ∙ at.1)
            ∙ ap (λ (l : List Word). number_of l a.name) table_numbered,
      )
    where
      get_or_named : (t : List Atom) (j : ℕ) → get_or (map name_of t) j [] ≡ name_of (get_or t j no_atom)
      get_or_named [] j = refl
      get_or_named (b ∷ t) zero = refl
      get_or_named (b ∷ t) (suc j) = get_or_named t j

      number_at : (names : List Word) (n : Word) → n ∈ names → (number_of names n < length names) × (get_or names (number_of names n) [] ≡ n)
      number_at [] n m = absurd (Memᴰ.not-nil m)
      number_at (w ∷ names) n m = go (same n w) refl (Memᴰ.cases_cons m) (number_at names n)
        where
          go : (t : Bool) → same n w ≡ t → (n ≡ w) ⊎ (n ∈ names) → (n ∈ names → (number_of names n < length names) × (get_or names (number_of names n) [] ≡ n))
              → (choose t 0 (suc (number_of names n)) < suc (length names)) × (get_or (w ∷ names) (choose t 0 (suc (number_of names n))) [] ≡ n)
          go true q c ih = (omega arith, sym (same_true n w q))
          go false q c ih =
              let j = ⊎_elim (λ (r : n ≡ w). clash (subst (λ (v : Word). same n v ≡ true) r (same_refl n)) q) (λ (k : n ∈ names). ih k) c in
              (omega (arith, j.0), j.1)
