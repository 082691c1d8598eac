-- The table of names has the document's names: where no mention differs, its marked entries are the abducibles, and the others the
-- others, each in their order; and some mention differs exactly if a name clashes.
-- Assumes nothing.
use Rattle.std.specs.Prelude.{◌≡◌, Bool, ◌&&◌, ◌||◌, ◌⊎◌}
use Rattle.std.proofs.Math.Path.{refl, sym, ap}
use Rattle.std.proofs.Common.{◌∙◌, subst, inl, inr}
use Rattle.std.proofs.Math.Bool.{true, false, not}
use Rattle.std.proofs.Math.Logic.{⊎_elim}
use mathlib.Core.List.Memᴰ
use mathlib.Core.List.{List, [], ◌∷◌, ◌++◌, map, map-append, append_assoc, append-nil}
use Rattle.base.specs.Bools.{clash, decide, both, same_test, choose_true, choose_false}
use Rattle.base.specs.paper.Lists.{◌∈◌, put, filter}
use Rattle.base.specs.Lists.{here, there, ∈_left, ∈_right, ∈_split, any_some, some_any, any_append}
use Rattle.base.specs.Parts.{filter_has, filter_from, filter_append, filter_two, filter_true}
use Rattle.spelling.specs.paper.Words.{Word, same}
use Rattle.spelling.specs.paper.Document.{Atom, Document}
use Rattle.spelling.specs.paper.Said.{mentions, firsts, names_of, clashing}
use Rattle.spelling.specs.WordLaws.{same_true, same_refl}
use Rattle.spelling.proofs.Numbering.{Clash, clashing_clash}
use Rattle.spelling.specs.Table.{name_of, is_marked, known, enter, entered, table_of, other, differs, clashes}

pub neither : (s t : Bool) → (s || t) ≡ false → (s ≡ false) × (t ≡ false)
neither true t e = clash refl e
neither false t e = (refl, e)

-- ---- entries

pub enter_known : (table : List Atom) (a : Atom) → known table a.name ≡ true → enter table a ≡ table
unfolding enter
enter_known table a e = choose_true table (table ++ a ∷ []) e

pub enter_new : (table : List Atom) (a : Atom) → known table a.name ≡ false → enter table a ≡ table ++ a ∷ []
unfolding enter
enter_new table a e = choose_false table (table ++ a ∷ []) e

known_entry : (table : List Atom) (n : Word) → known table n ≡ true → (e : Atom) × (e ∈ table) × (n ≡ e.name)
known_entry table n k =
    let s = any_some (λ (e : Atom). same n e.name) table k in
    (s.0, s.1, same_true n s.0.name s.2)

entry_known : (table : List Atom) (e : Atom) (n : Word) → e ∈ table → n ≡ e.name → known table n ≡ true
entry_known table e n i q = some_any (λ (e : Atom). same n e.name) table (e, i, subst (λ (w : Word). same n w ≡ true) q (same_refl n))

other_false : (s t : Bool) → other s t ≡ false → s ≡ t
other_false true true e = refl
other_false true false e = clash refl e
other_false false true e = clash refl e
other_false false false e = refl

other_true : (s t : Bool) → other s t ≡ true → ((s ≡ true) × (t ≡ false)) ⊎ ((s ≡ false) × (t ≡ true))
other_true true true e = clash e refl
other_true true false e = inl (refl, refl)
other_true false true e = inr (refl, refl)
other_true false false e = clash e refl

-- a mention that does not differ has its entry's mark
agrees : (table : List Atom) (a e : Atom) → differs table a ≡ false → e ∈ table → a.name ≡ e.name → e.marked ≡ a.marked
agrees table a e h i q = go (other e.marked a.marked) refl
  where
    go : (t : Bool) → other e.marked a.marked ≡ t → e.marked ≡ a.marked
    go false o = other_false e.marked a.marked o
    go true o =
        clash
        (some_any (λ (e : Atom). same a.name e.name && other e.marked a.marked) table (e, i, both _ _ (subst (λ (w : Word). same a.name w ≡ true) q (same_refl a.name)) o))
        h

entered_stays : (table ms : List Atom) (e : Atom) → e ∈ table → e ∈ entered table ms
entered_stays table [] e i = i
entered_stays table (a ∷ ms) e i = entered_stays (enter table a) ms e (go (known table a.name) refl)
  where
    go : (t : Bool) → known table a.name ≡ t → e ∈ enter table a
    go true k = subst (λ (l : List Atom). e ∈ l) (sym (enter_known table a k)) i
    go false k = subst (λ (l : List Atom). e ∈ l) (sym (enter_new table a k)) (∈_left (a ∷ []) i)

-- ---- the entries of a kind are the document's names of that kind

module _ (kind : Atom → Bool) (by-mark : (e a : Atom) → e.marked ≡ a.marked → kind e ≡ kind a) where
  abbrev fresh : List Atom → List Word → List Word
  fresh table ws = filter (λ (n : Word). not (known table n)) (firsts ws)

  abbrev names_in : List Atom → List Word
  names_in table = map name_of (filter kind table)

  -- a name that is in the table already adds nothing
  fresh_known : (table : List Atom) (n : Word) (ws : List Word) → known table n ≡ true → fresh table (n ∷ ws) ≡ fresh table ws
  unfolding firsts
  fresh_known table n ws k =
      ap (λ (b : Bool). put (not b) n (filter (λ (v : Word). not (known table v)) (filter (λ (v : Word). not (same v n)) (firsts ws)))) k
      ∙ sym (filter_two (λ (v : Word). not (known table v)) (λ (v : Word). not (known table v)) (λ (v : Word). not (same v n)) (firsts ws) (λ v. go v (known table v) refl (same v n) refl))
    where
      go : (v : Word) (x : Bool) → known table v ≡ x → (y : Bool) → same v n ≡ y → not x ≡ (not x && not y)
      go v true p y q = refl
      go v false p true q = clash (subst (λ (w : Word). known table w ≡ true) (sym (same_true v n q)) k) p
      go v false p false q = refl

  -- a new one stands next
  fresh_new : (table : List Atom) (a : Atom) (ws : List Word) → known table a.name ≡ false
      → fresh table (a.name ∷ ws) ≡ a.name ∷ fresh (table ++ a ∷ []) ws
  unfolding firsts
  fresh_new table a ws k =
      ap (λ (b : Bool). put (not b) a.name (filter (λ (v : Word). not (known table v)) (filter (λ (v : Word). not (same v a.name)) (firsts ws)))) k
      ∙ ap (λ (l : List Word). a.name ∷ l)
      (sym (filter_two (λ (v : Word). not (known (table ++ a ∷ []) v)) (λ (v : Word). not (known table v)) (λ (v : Word). not (same v a.name)) (firsts ws)
      (λ v. ap not (any_append (λ (e : Atom). same v e.name) table (a ∷ [])) ∙ go (known table v) (same v a.name))))
    where
      go : (x y : Bool) → not (x || (y || false)) ≡ (not x && not y)
      go true y = refl
      go false true = refl
      go false false = refl

  kept_known : (table ms : List Atom) (a : Atom) → differs table a ≡ false → known table a.name ≡ true
      → names_in (enter table a) ++ fresh (filter kind (enter table a)) (names_in ms) ≡ names_in table ++ fresh (filter kind table) (names_in (a ∷ ms))
  kept_known table ms a h k =
      ap (λ (l : List Atom). names_in l ++ fresh (filter kind l) (names_in ms)) (enter_known table a k)
      ∙ go (kind a) refl
    where
      go : (t : Bool) → kind a ≡ t → names_in table ++ fresh (filter kind table) (names_in ms) ≡ names_in table ++ fresh (filter kind table) (map name_of (put t a (filter kind ms)))
      go false e = refl
      go true e =
          let s = known_entry table a.name k in
          let m : kind s.0 ≡ true = by-mark s.0 a (agrees table a s.0 h s.1 s.2) ∙ e in
          ap (λ (l : List Word). names_in table ++ l) (sym (fresh_known (filter kind table) a.name (names_in ms) (entry_known (filter kind table) s.0 a.name (filter_has kind table s.1 m) s.2)))

  kept_new : (table ms : List Atom) (a : Atom) → known table a.name ≡ false
      → names_in (enter table a) ++ fresh (filter kind (enter table a)) (names_in ms) ≡ names_in table ++ fresh (filter kind table) (names_in (a ∷ ms))
  kept_new table ms a k =
      ap (λ (l : List Atom). map name_of l ++ fresh l (names_in ms)) (ap (filter kind) (enter_new table a k) ∙ filter_append kind table (a ∷ []))
      ∙ go (kind a)
    where
      unknown : (t : Bool) → known (filter kind table) a.name ≡ t → t ≡ false
      unknown true e =
          let s = known_entry (filter kind table) a.name e in
          clash (entry_known table s.0 a.name (filter_from kind table s.1).0 s.2) k
      unknown false e = refl

      go : (t : Bool) → map name_of (filter kind table ++ put t a []) ++ fresh (filter kind table ++ put t a []) (names_in ms)
          ≡ names_in table ++ fresh (filter kind table) (map name_of (put t a (filter kind ms)))
      go true =
          ap (λ (l : List Word). l ++ fresh (filter kind table ++ a ∷ []) (names_in ms)) (map-append name_of (filter kind table) (a ∷ []))
          ∙ append_assoc (names_in table) (a.name ∷ []) (fresh (filter kind table ++ a ∷ []) (names_in ms))
          ∙ ap (λ (l : List Word). names_in table ++ l) (sym (fresh_new (filter kind table) a (names_in ms) (unknown (known (filter kind table) a.name) refl)))
      go false = ap (λ (l : List Atom). map name_of l ++ fresh l (names_in ms)) (append-nil (filter kind table))

  kept : (table ms : List Atom) → clashes table ms ≡ false → names_in (entered table ms) ≡ names_in table ++ fresh (filter kind table) (names_in ms)
  unfolding firsts
  kept table [] h = sym (append-nil (names_in table))
  kept table (a ∷ ms) h =
      let n = neither (differs table a) (clashes (enter table a) ms) h in
      kept (enter table a) ms n.1
      ∙ ⊎_elim (kept_known table ms a n.0) (kept_new table ms a) (decide (known table a.name))

  pub kind_names : (ms : List Atom) → clashes [] ms ≡ false → names_in (table_of ms) ≡ names_of kind ms
  kind_names ms h = kept [] ms h ∙ filter_true (λ (n : Word). not (known [] n)) (firsts (names_in ms)) (λ n. refl)

-- ---- the document's clash

-- each mention has an entry with its name
pub mentioned_entry : (table ms : List Atom) (a : Atom) → a ∈ ms → (e : Atom) × (e ∈ entered table ms) × (a.name ≡ e.name)
mentioned_entry table [] a i = absurd (Memᴰ.not-nil i)
mentioned_entry table (b ∷ ms) a i = go (Memᴰ.cases_cons i) (mentioned_entry (enter table b) ms a)
  where
    now : (t : Bool) → known table b.name ≡ t → (e : Atom) × (e ∈ entered (enter table b) ms) × (b.name ≡ e.name)
    now true k =
        let s = known_entry table b.name k in
        (s.0, entered_stays (enter table b) ms s.0 (subst (λ (l : List Atom). s.0 ∈ l) (sym (enter_known table b k)) s.1), s.2)
    now false k = (b, entered_stays (enter table b) ms b (subst (λ (l : List Atom). b ∈ l) (sym (enter_new table b k)) (∈_right table here)), refl)

    go : (a ≡ b) ⊎ (a ∈ ms) → (a ∈ ms → (e : Atom) × (e ∈ entered (enter table b) ms) × (a.name ≡ e.name))
        → (e : Atom) × (e ∈ entered (enter table b) ms) × (a.name ≡ e.name)
    go (inl q) later =
        let s = now (known table b.name) refl in
        (s.0, s.1, ap name_of q ∙ s.2)
    go (inr j) later = later j

-- two mentions with one name and different marks
abbrev Differing : List Atom → Type 0
Differing l = (a : Atom) × (b : Atom) × (a ∈ l) × (b ∈ l) × (a.name ≡ b.name) × (other a.marked b.marked ≡ true)

clashes_differ : (table ms : List Atom) → clashes table ms ≡ true → Differing (table ++ ms)
clashes_differ table [] h = clash h refl
clashes_differ table (a ∷ ms) h = go (differs table a) refl h (clashes_differ (enter table a) ms)
  where
    moved : (x : Atom) → x ∈ enter table a ++ ms → x ∈ table ++ a ∷ ms
    moved x i = step (known table a.name) refl
      where
        step : (t : Bool) → known table a.name ≡ t → x ∈ table ++ a ∷ ms
        step true k =
            ⊎_elim (λ (j : x ∈ table). ∈_left (a ∷ ms) j) (λ (j : x ∈ ms). ∈_right table (there j))
            (∈_split table (subst (λ (l : List Atom). x ∈ l ++ ms) (enter_known table a k) i))
        step false k = subst (λ (l : List Atom). x ∈ l) (ap (λ (l : List Atom). l ++ ms) (enter_new table a k) ∙ append_assoc table (a ∷ []) ms) i

    go : (t : Bool) → differs table a ≡ t → (t || clashes (enter table a) ms) ≡ true → (clashes (enter table a) ms ≡ true → Differing (enter table a ++ ms))
        → Differing (table ++ a ∷ ms)
    go true e q later =
        let s = any_some (λ (e : Atom). same a.name e.name && other e.marked a.marked) table e in
        let p = split (same a.name s.0.name) (other s.0.marked a.marked) s.2 in
        (s.0, a, ∈_left (a ∷ ms) s.1, ∈_right table here, sym (same_true a.name s.0.name p.0), p.1)
      where
        split : (x y : Bool) → (x && y) ≡ true → (x ≡ true) × (y ≡ true)
        split true y e = (refl, e)
        split false y e = clash e refl
    go false e q later =
        let s = later q in
        (s.0, s.1, moved s.0 s.2, moved s.1 s.3, s.4, s.5)

-- names in a table once: an entry is known by its name
abbrev pub OnceNamed : List Atom → Type 0
OnceNamed table = (e f : Atom) → e ∈ table → f ∈ table → e.name ≡ f.name → e ≡ f

once_enter : (table : List Atom) (a : Atom) → OnceNamed table → OnceNamed (enter table a)
once_enter table a h = go (known table a.name) refl
  where
    go : (t : Bool) → known table a.name ≡ t → OnceNamed (enter table a)
    go true k = subst OnceNamed (sym (enter_known table a k)) h
    go false k = subst OnceNamed (sym (enter_new table a k)) grown
      where
        last : (e : Atom) → e ∈ a ∷ [] → e ≡ a
        last e i = ⊎_elim (λ (q : e ≡ a). q) (λ (j : e ∈ []). absurd (Memᴰ.not-nil j)) (Memᴰ.cases_cons i)

        new : (e f : Atom) → e ∈ table → f ∈ a ∷ [] → e.name ≡ f.name → ⊥
        new e f i j q = clash (entry_known table e a.name i (sym (q ∙ ap name_of (last f j)))) k

        both_in : (e f : Atom) → (e ∈ table) ⊎ (e ∈ a ∷ []) → (f ∈ table) ⊎ (f ∈ a ∷ []) → e.name ≡ f.name → e ≡ f
        both_in e f (inl i) (inl j) q = h e f i j q
        both_in e f (inl i) (inr j) q = absurd (new e f i j q)
        both_in e f (inr i) (inl j) q = absurd (new f e j i (sym q))
        both_in e f (inr i) (inr j) q = last e i ∙ sym (last f j)

        grown : OnceNamed (table ++ a ∷ [])
        grown e f i j q = both_in e f (∈_split table i) (∈_split table j) q

once_entered : (table ms : List Atom) → OnceNamed table → OnceNamed (entered table ms)
once_entered table [] h = h
once_entered table (a ∷ ms) h = once_entered (enter table a) ms (once_enter table a h)

-- where no mention differs, each has the mark of the entry of its name
mark_kept : (table ms : List Atom) → OnceNamed table → clashes table ms ≡ false → (a e : Atom) → a ∈ ms → e ∈ entered table ms → a.name ≡ e.name → e.marked ≡ a.marked
mark_kept table [] o h a e i j q = absurd (Memᴰ.not-nil i)
mark_kept table (b ∷ ms) o h a e i j q =
    let n = neither (differs table b) (clashes (enter table b) ms) h in
    ⊎_elim (now n.0 (known table b.name) refl) (λ (k : a ∈ ms). mark_kept (enter table b) ms (once_enter table b o) n.1 a e k j q)
    (Memᴰ.cases_cons i)
  where
    now : differs table b ≡ false → (t : Bool) → known table b.name ≡ t → a ≡ b → e.marked ≡ a.marked
    now n true k r =
        let s = known_entry table b.name k in
        let stays : s.0 ∈ entered (enter table b) ms = entered_stays (enter table b) ms s.0 (subst (λ (l : List Atom). s.0 ∈ l) (sym (enter_known table b k)) s.1) in
        let one : e ≡ s.0 = once_entered (enter table b) ms (once_enter table b o) e s.0 j stays (sym q ∙ ap name_of r ∙ s.2) in
        ap is_marked one ∙ agrees table b s.0 n s.1 s.2 ∙ ap is_marked (sym r)
    now n false k r =
        let stays : b ∈ entered (enter table b) ms = entered_stays (enter table b) ms b (subst (λ (l : List Atom). b ∈ l) (sym (enter_new table b k)) (∈_right table here)) in
        let one : e ≡ b = once_entered (enter table b) ms (once_enter table b o) e b j stays (sym q ∙ ap name_of r) in
        ap is_marked one ∙ ap is_marked (sym r)

nothing_named : OnceNamed []
nothing_named e f i j q = absurd (Memᴰ.not-nil i)

-- some mention differs from its entry exactly if a name clashes
pub clashes_clashing : (d : Document) → clashes [] (mentions d) ≡ clashing d
clashes_clashing d = same_test (λ e. (clashing_clash d).1 (to (clashes_differ [] (mentions d) e))) (λ e. back ((clashing_clash d).0 e) (clashes [] (mentions d)) refl)
  where
    to : Differing (mentions d) → Clash d
    to (a, b, i, j, q, o) = go (other_true a.marked b.marked o)
      where
        go : ((a.marked ≡ true) × (b.marked ≡ false)) ⊎ ((a.marked ≡ false) × (b.marked ≡ true)) → Clash d
        go (inl m) = record { with_abd = a; without = b; first_there = i; second_there = j; is_marked_lem = m.0; is_bare = m.1; one_name = q }
        go (inr m) = record { with_abd = b; without = a; first_there = j; second_there = i; is_marked_lem = m.1; is_bare = m.0; one_name = sym q }

    back : Clash d → (t : Bool) → clashes [] (mentions d) ≡ t → t ≡ true
    back c true e = refl
    back c false e =
        let s = mentioned_entry [] (mentions d) c.with_abd c.first_there in
        let p : s.0.marked ≡ c.with_abd.marked = mark_kept [] (mentions d) nothing_named e c.with_abd s.0 c.first_there s.1 s.2 in
        let q : s.0.marked ≡ c.without.marked = mark_kept [] (mentions d) nothing_named e c.without s.0 c.second_there s.1 (sym c.one_name ∙ s.2) in
        clash (p ∙ c.is_marked_lem) (q ∙ c.is_bare)
