-- The table of names in memory: an entry for each name, and for each bucket a chain from its latest entry back. A link is 1 + the entry that
-- it leads to, or 0.
-- Assumes nothing.
use Rattle.std.specs.Prelude.{ℕ, zero, suc, ◌+◌, ◌*◌, ◌-◌, ◌/◌, ◌%◌, ◌≤◌, ◌<◌, ◌≡◌, refl, Bool, true, false, ◌||◌, ◌⊎◌, Option, Some, None, List, [], ◌∷◌, ◌++◌, map, length, get_or, set, replicate, ltb, eqb}
use Rattle.std.specs.Int.{from_bool}
use Rattle.std.proofs.Common.{arith, ◌∙◌, subst, subst₂, inl, inr, ⊎_elim, length-append, length-set, get_or-set_same, get_or-set_other, eq-or-lt_of_le, ltb-true, ltb-false, eqb-true}
use Rattle.std.proofs.Math.Path.{sym, ap}
use Rattle.std.proofs.lemmas.List.{map-append, length-map, get_or-replicate}
use Rattle.std.proofs.Math.ListN.{get_or-append, get_or-map}
use Rattle.std.proofs.Math.Seq.{get_or-append_seam}
use Rattle.std.proofs.lemmas.Bool.{eqb-false}
use Rattle.base.specs.paper.Bools.{choose}
use Rattle.base.specs.Bools.{clash, decide, choose_true, choose_false}
use Rattle.base.specs.paper.Lists.{◌∈◌, Every, Once}
use Rattle.base.specs.Lists.{here, there, some_any}
use Rattle.base.specs.Flat.{map_∈}
use Rattle.base.specs.Parts.{pairwise_last}
use Rattle.spelling.specs.paper.Words.{Word, same}
use Rattle.spelling.specs.WordLaws.{same_true, same_refl}
use Rattle.spelling.specs.paper.Document.{Atom}
use Rattle.spelling.specs.paper.Said.{number_of}
use Rattle.spelling.specs.paper.Answer.{longest_text}
use Rattle.spelling.specs.Reader.{atom_of}
use Rattle.spelling.specs.Codes.{buckets, hash_of}
use Rattle.spelling.specs.Table.{name_of, known, name_at, bit, Entry, no_atom, Entries}

abbrev pub names : List Atom → List Word
names table = map name_of table

abbrev pub name_in : List Atom → ℕ → Word
name_in table i = (get_or table i no_atom).name

abbrev pub hash_in : List Atom → ℕ → ℕ
hash_in table i = hash_of (name_in table i)

-- the link leads to the last of the first k entries that is in the bucket
pub record Linked (table : List Atom) (bucket link k : ℕ) : Type 0 where
  pub within : link ≤ k
  pub one : (i : ℕ) → link ≡ i + 1 → hash_in table i ≡ bucket
  pub last : (j : ℕ) → j < k → hash_in table j ≡ bucket → j < link

-- the table in memory, where each name was first met before `at`
pub record Chained (text entries earlier latest : List ℕ) (table : List Atom) (at : ℕ) : Type 0 where
  pub long : (length entries ≡ longest_text) × (length earlier ≡ longest_text) × (length latest ≡ buckets)
  pub few : length table ≤ at
  pub placed : Entries text entries table
  pub before : (i : ℕ) → i < length table → get_or entries i 0 / 2 < at
  pub once : Once (names table)
  pub last : (h : ℕ) → h < buckets → Linked table h (get_or latest h 0) (length table)
  pub back : (i : ℕ) → i < length table → Linked table (hash_in table i) (get_or earlier i 0) i

-- the name's place in the table
unfoldable pub place_of : List Atom → Word → Option ℕ
place_of table w = choose (known table w) (Some (number_of (names table) w)) None

-- ---- the empty table

abbrev pub Empty : List ℕ → Type 0
Empty latest = (h : ℕ) → h < buckets → get_or latest h 0 ≡ 0

pub empty_none : Empty (replicate buckets 0)
empty_none h l = get_or-replicate {A = ℕ} buckets h 0 0 l

pub chained_none : {text entries earlier latest : List ℕ} (at : ℕ) → (length entries ≡ longest_text) × (length earlier ≡ longest_text) × (length latest ≡ buckets)
    → Empty latest → Chained text entries earlier latest [] at
chained_none at long empty =
    record {
      long = long;
      few = omega arith;
      placed = λ i l. absurd (omega (arith, l));
      before = λ i l. absurd (omega (arith, l));
      once = tt;
      last = λ h l.
          record {
            within = omega (arith, empty h l);
            one = λ i e. absurd (omega (arith, e, empty h l));
            last = λ j m e. absurd (omega (arith, m));
          };
      back = λ i l. absurd (omega (arith, l));
    }

-- ---- a name in the table

∈_place : {A : Type 0} (l : List A) (i : ℕ) (d : A) → i < length l → get_or l i d ∈ l
∈_place [] i d h = absurd (omega (arith, h))
∈_place (a ∷ l) zero d h = here
∈_place (a ∷ l) (suc i) d h = there (∈_place l i d (omega (arith, h)))

known_here : (table : List Atom) (w : Word) (i : ℕ) → i < length table → same w (name_in table i) ≡ true → known table w ≡ true
known_here [] w i l e = absurd (omega (arith, l))
known_here (a ∷ table) w zero l e = ap (λ (t : Bool). t || known table w) e
known_here (a ∷ table) w (suc i) l e = go (same w a.name) (known_here table w i (omega (arith, l)) e)
  where
    go : (t : Bool) → known table w ≡ true → (t || known table w) ≡ true
    go true k = refl
    go false k = k

known_none : (table : List Atom) (w : Word) → ((j : ℕ) → j < length table → same w (name_in table j) ≡ false) → known table w ≡ false
known_none [] w h = refl
known_none (a ∷ table) w h =
    ap (λ (t : Bool). t || known table w) (h 0 (omega arith)) ∙ known_none table w (λ j l. h (suc j) (omega (arith, l)))

-- where no name stands twice, a name's number is the place where it stands
number_place : (table : List Atom) (w : Word) (i : ℕ) → Once (names table) → i < length table → same w (name_in table i) ≡ true → number_of (names table) w ≡ i
number_place [] w i o l e = absurd (omega (arith, l))
number_place (a ∷ table) w zero o l e = ap (λ (t : Bool). choose t 0 (suc (number_of (names table) w))) e
number_place (a ∷ table) w (suc i) o l e =
    ap (λ (t : Bool). choose t 0 (suc (number_of (names table) w))) (other (same w a.name) refl)
    ∙ ap suc (number_place table w i o.1 (omega (arith, l)) e)
  where
    among : name_in table i ∈ names table
    among =
        subst (λ (v : Word). v ∈ names table) (get_or-map name_of table i no_atom)
        (∈_place (names table) i [] (omega (arith, l, length-map table name_of)))

    other : (t : Bool) → same w a.name ≡ t → t ≡ false
    other false q = refl
    other true q = absurd (o.0 (name_in table i) among (sym (same_true w a.name q) ∙ same_true w (name_in table i) e))

-- ---- the search along a chain

-- no entry from the link on has the name, and the link keeps to its bucket
pub record Passed (table : List Atom) (w : Word) (link : ℕ) : Type 0 where
  pub within : link ≤ length table
  pub one : (i : ℕ) → link ≡ i + 1 → hash_in table i ≡ hash_of w
  pub none : (j : ℕ) → j < length table → link ≤ j → same w (name_in table j) ≡ false

-- an entry of another bucket has another name
elsewhere : (table : List Atom) (w : Word) (j : ℕ) → (hash_in table j ≡ hash_of w → ⊥) → same w (name_in table j) ≡ false
elsewhere table w j h = go (same w (name_in table j)) refl
  where
    go : (t : Bool) → same w (name_in table j) ≡ t → t ≡ false
    go false e = refl
    go true e = absurd (h (ap hash_of (sym (same_true w (name_in table j) e))))

linked_passed : {table : List Atom} {w : Word} {link k : ℕ} → Linked table (hash_of w) link k → k ≤ length table
    → ((j : ℕ) → j < length table → k ≤ j → same w (name_in table j) ≡ false) → Passed table w link
linked_passed {table = table} {w = w} {link = link} {k = k} linked l h =
    record {
      within = omega (arith, linked.within);
      one = linked.one;
      none = none;
    }
  where
    none : (j : ℕ) → j < length table → link ≤ j → same w (name_in table j) ≡ false
    none j m f =
        ⊎_elim (λ (q : ltb j k ≡ true). elsewhere table w j (λ e. omega (arith, linked.last j (ltb-true j k q) e)))
        (λ (q : ltb j k ≡ false). h j m (ltb-false j k q)) (decide (ltb j k))

module _ {text entries earlier latest : List ℕ} {table : List Atom} {at : ℕ} (c : Chained text entries earlier latest table at) where
  pub passed_start : (w : Word) (h : ℕ) → h ≡ hash_of w → h < buckets → Passed table w (get_or latest h 0)
  passed_start w h e l =
      linked_passed (subst (λ (g : ℕ). Linked table g (get_or latest h 0) (length table)) e (c.last h l)) (omega arith) (λ j m f. absurd (omega (arith, m, f)))

  passed_back : (w : Word) (i : ℕ) → Passed table w (i + 1) → same w (name_in table i) ≡ false → Passed table w (get_or earlier i 0)
  passed_back w i p e = linked_passed linked (omega (arith, p.within)) none
    where
      linked : Linked table (hash_of w) (get_or earlier i 0) i
      linked = subst (λ (h : ℕ). Linked table h (get_or earlier i 0) i) (p.one i refl) (c.back i (omega (arith, p.within)))

      none : (j : ℕ) → j < length table → i ≤ j → same w (name_in table j) ≡ false
      none j m f =
          ⊎_elim (λ (q : i ≡ j). subst (λ (k : ℕ). same w (name_in table k) ≡ false) q e) (λ (q : i < j). p.none j m (omega arith)) (eq-or-lt_of_le f)

  found_place : (w : Word) (i : ℕ) → i < length table → same w (name_in table i) ≡ true → Some i ≡ place_of table w
  unfolding place_of
  found_place w i l e =
      ap Some (sym (number_place table w i c.once l e))
      ∙ sym (choose_true (Some (number_of (names table) w)) None (known_here table w i l e))

  -- the entry that a link leads to has another name, or the name
  pub passed_next : (w : Word) (link : ℕ) → 0 < link → Passed table w link → same w (name_in table (link - 1)) ≡ false → Passed table w (get_or earlier (link - 1) 0)
  passed_next w link l p e = passed_back w (link - 1) (subst (Passed table w) (let q : link ≡ link - 1 + 1 = omega arith in q) p) e

  pub found : (w : Word) (link : ℕ) → 0 < link → Passed table w link → same w (name_in table (link - 1)) ≡ true → Some (link - 1) ≡ place_of table w
  found w link l p e = found_place w (link - 1) (omega (arith, p.within)) e

  pub none_found : (w : Word) → Passed table w 0 → None ≡ place_of table w
  unfolding place_of
  none_found w p =
      sym (choose_false (Some (number_of (names table) w)) None (known_none table w (λ j l. p.none j l (omega arith))))

-- ---- one name more

module _ (table : List Atom) (a : Atom) where
  atom_kept : (i : ℕ) → i < length table → get_or (table ++ a ∷ []) i no_atom ≡ get_or table i no_atom
  atom_kept i l = get_or-append table (a ∷ []) no_atom i l

  hash_kept : (i : ℕ) → i < length table → hash_in (table ++ a ∷ []) i ≡ hash_in table i
  hash_kept i l = ap (λ (e : Atom). hash_of e.name) (atom_kept i l)

  hash_new : hash_in (table ++ a ∷ []) (length table) ≡ hash_of a.name
  hash_new = ap (λ (e : Atom). hash_of e.name) (get_or-append_seam table a [] no_atom)

  linked_kept : {h link k : ℕ} → k ≤ length table → Linked table h link k → Linked (table ++ a ∷ []) h link k
  linked_kept l d =
      record {
        within = d.within;
        one = λ i e. hash_kept i (omega (arith, e, d.within)) ∙ d.one i e;
        last = λ j m e. d.last j m (sym (hash_kept j (omega (arith, m))) ∙ e);
      }

  -- the new entry is the last of its bucket
  linked_new : {h : ℕ} → h ≡ hash_of a.name → Linked (table ++ a ∷ []) h (length table + 1) (length table + 1)
  linked_new {h = h} e =
      record {
        within = omega arith;
        one = λ i q. ap (hash_in (table ++ a ∷ [])) (let s : i ≡ length table = omega (arith, q) in s) ∙ hash_new ∙ sym e;
        last = λ j m q. m;
      }

  -- and changes nothing in others
  linked_other : {h link : ℕ} → (hash_of a.name ≡ h → ⊥) → Linked table h link (length table) → Linked (table ++ a ∷ []) h link (length table + 1)
  linked_other {h = h} {link = link} ne d =
      record {
        within = omega (arith, d.within);
        one = (linked_kept (omega arith) d).one;
        last = last;
      }
    where
      last : (j : ℕ) → j < length table + 1 → hash_in (table ++ a ∷ []) j ≡ h → j < link
      last j m e =
          ⊎_elim (λ (q : j ≡ length table). absurd (ne (sym hash_new ∙ ap (hash_in (table ++ a ∷ [])) (sym q) ∙ e)))
          (λ (q : j < length table). (linked_kept (omega arith) d).last j q e) (eq-or-lt_of_le (let le : j ≤ length table = omega (arith, m) in le))

  names_more : names (table ++ a ∷ []) ≡ names table ++ a.name ∷ []
  names_more = map-append name_of table (a ∷ [])

unknown : (table : List Atom) (w : Word) → known table w ≡ false → Every (λ (v : Word). v ≡ w → ⊥) (names table)
unknown table w k v m e =
    let s = map_∈ name_of table m in
    clash (some_any (λ (a : Atom). same w a.name) table (s.0, s.1, subst (λ (u : Word). same u s.0.name ≡ true) (sym s.2 ∙ e) (same_refl s.0.name))) k

pub bit_most : (t : Bool) → bit t ≤ 1
bit_most true = omega arith
bit_most false = omega arith

-- as the library numbers a test
pub bit_from : (t : Bool) → from_bool t ≡ bit t
bit_from true = refl
bit_from false = refl

abbrev pub entry_of : ℕ → Bool → ℕ
entry_of at marked = 2 * at + bit marked

module _ {text entries earlier latest : List ℕ} {table : List Atom} {at : ℕ} (c : Chained text entries earlier latest table at) where
  pub chained_more : (k h : ℕ) (marked : Bool) → k ≡ length table → h ≡ hash_of (name_at text at) → h < buckets → at < length text → length text ≤ longest_text
      → known table (name_at text at) ≡ false
      → Chained text (set entries k (entry_of at marked)) (set earlier k (get_or latest h 0)) (set latest h (k + 1)) (table ++ atom_of (name_at text at) marked ∷ []) (at + 1)
  chained_more k h marked ke he hl al tl new =
      record {
        long = (length-set entries k (entry_of at marked) ∙ c.long.0, length-set earlier k (get_or latest h 0) ∙ c.long.1, length-set latest h (k + 1) ∙ c.long.2);
        few = omega (arith, count, c.few);
        placed = λ i l. placed i (parted i l);
        before = λ i l. before i (parted i l);
        once = subst Once (sym (names_more table a)) (pairwise_last (λ (u v : Word). u ≡ v → ⊥) (names table) a.name c.once (unknown table a.name new));
        last = λ g l. last g l (decide (eqb g h));
        back = λ i l. back i (parted i l);
      }
    where
      a : Atom
      a = atom_of (name_at text at) marked

      count : length (table ++ a ∷ []) ≡ length table + 1
      count = length-append table (a ∷ [])

      room : k < longest_text
      room = omega (arith, c.few)

      parted : (i : ℕ) → i < length (table ++ a ∷ []) → (i ≡ k) ⊎ (i < k)
      parted i l = eq-or-lt_of_le (let le : i ≤ k = omega (arith, l, count) in le)

      entry_new : get_or (set entries k (entry_of at marked)) k 0 ≡ entry_of at marked
      entry_new = get_or-set_same entries k (entry_of at marked) 0 (omega (arith, room, c.long.0))

      entry_kept : (i : ℕ) → i < k → get_or (set entries k (entry_of at marked)) i 0 ≡ get_or entries i 0
      entry_kept i l = get_or-set_other entries k i (entry_of at marked) 0 (λ e. omega (arith, e, l))

      half : (t : Bool) → (entry_of at t / 2 ≡ at) × (entry_of at t % 2 ≡ bit t)
      half true = (omega arith, omega arith)
      half false = (omega arith, omega arith)

      entered : Entry text (entry_of at marked) a
      entered =
          record { within = omega (arith, (half marked).0); name = ap (name_at text) (half marked).0; mark = (half marked).1 }

      placed : (i : ℕ) → (i ≡ k) ⊎ (i < k) → Entry text (get_or (set entries k (entry_of at marked)) i 0) (get_or (table ++ a ∷ []) i no_atom)
      placed i (inl e) =
          subst₂ (Entry text) (sym (ap (λ (j : ℕ). get_or (set entries k (entry_of at marked)) j 0) e ∙ entry_new))
          (sym (ap (λ (j : ℕ). get_or (table ++ a ∷ []) j no_atom) (e ∙ ke) ∙ get_or-append_seam table a [] no_atom)) entered
      placed i (inr l) =
          let m : i < length table = omega arith in
          subst₂ (Entry text) (sym (entry_kept i l)) (sym (atom_kept table a i m)) (c.placed i m)

      before : (i : ℕ) → (i ≡ k) ⊎ (i < k) → get_or (set entries k (entry_of at marked)) i 0 / 2 < at + 1
      before i (inl e) = omega (arith, ap (λ (j : ℕ). get_or (set entries k (entry_of at marked)) j 0) e, entry_new, (half marked).0)
      before i (inr l) = omega (arith, entry_kept i l, c.before i (omega arith))

      last : (g : ℕ) → g < buckets → (eqb g h ≡ true) ⊎ (eqb g h ≡ false) → Linked (table ++ a ∷ []) g (get_or (set latest h (k + 1)) g 0) (length (table ++ a ∷ []))
      last g l (inl q) =
          let new : get_or (set latest h (k + 1)) h 0 ≡ k + 1 = get_or-set_same latest h (k + 1) 0 (omega (arith, c.long.2)) in
          subst₂ (Linked (table ++ a ∷ []) g) (ap (λ (n : ℕ). n + 1) (sym ke) ∙ sym new ∙ ap (λ (j : ℕ). get_or (set latest h (k + 1)) j 0) (sym (eqb-true g h q)))
          (sym count) (linked_new table a (eqb-true g h q ∙ he))
      last g l (inr q) =
          subst₂ (Linked (table ++ a ∷ []) g) (sym (get_or-set_other latest h g (k + 1) 0 (eqb-false g h q))) (sym count)
          (linked_other table a (λ (e : hash_of a.name ≡ g). eqb-false g h q (sym (he ∙ e))) (c.last g l))

      back : (i : ℕ) → (i ≡ k) ⊎ (i < k) → Linked (table ++ a ∷ []) (hash_in (table ++ a ∷ []) i) (get_or (set earlier k (get_or latest h 0)) i 0) i
      back i (inl e) =
          let new : get_or (set earlier k (get_or latest h 0)) k 0 ≡ get_or latest h 0 = get_or-set_same earlier k (get_or latest h 0) 0 (omega (arith, room, c.long.1)) in
          subst (λ (j : ℕ). Linked (table ++ a ∷ []) (hash_in (table ++ a ∷ []) j) (get_or (set earlier k (get_or latest h 0)) j 0) j) (sym e)
          (subst₂ (λ (g m : ℕ). Linked (table ++ a ∷ []) g m k) (he ∙ sym (hash_new table a) ∙ ap (hash_in (table ++ a ∷ [])) (sym ke)) (sym new)
          (linked_kept table a (omega arith) (subst (Linked table h (get_or latest h 0)) (sym ke) (c.last h hl))))
      back i (inr l) =
          let m : i < length table = omega arith in
          subst₂ (λ (g m : ℕ). Linked (table ++ a ∷ []) g m i) (sym (hash_kept table a i m))
          (sym (get_or-set_other earlier k i (get_or latest h 0) 0 (λ e. omega (arith, e, l)))) (linked_kept table a (omega arith) (c.back i m))
