-- A name that is met: its number, what it adds to the table, and whether its mark differs from the entry's.
-- Assumes nothing.
use Rattle.std.specs.Prelude.{ℕ, suc, ◌+◌, ◌%◌, ◌≤◌, ◌<◌, ◌≡◌, refl, Bool, true, false, ◌&&◌, ◌||◌, Option, Some, None, MatchOption, List, [], ◌∷◌, ◌++◌, length, get_or, set, eqb}
use Rattle.std.proofs.Common.{arith, ap₂, ◌∙◌, subst, ⊎_elim, length-append}
use Rattle.std.proofs.Math.Path.{sym, ap, subst₃}
use Rattle.std.proofs.Math.Bool.{not, or-false}
use Rattle.base.specs.paper.Bools.{choose}
use Rattle.base.specs.Bools.{clash, decide, choose_true, choose_false}
use Rattle.base.specs.paper.Lists.{put, filter, Once}
use Rattle.base.specs.Lists.{any_some}
use Rattle.base.specs.Flat.{∈_map}
use Rattle.spelling.specs.paper.Words.{Word, same}
use Rattle.spelling.specs.WordLaws.{same_true, same_refl}
use Rattle.spelling.specs.paper.Document.{Atom}
use Rattle.spelling.specs.paper.Said.{number_of}
use Rattle.spelling.specs.paper.Answer.{longest_text}
use Rattle.spelling.specs.Reader.{atom_of}
use Rattle.spelling.specs.Codes.{buckets, hash_of, first_name}
use Rattle.spelling.specs.Table.{name_of, is_marked, known, enter, other, differs, name_at, bit, no_atom}
use Rattle.naming.specs.Spans.{Name}
use Rattle.naming.specs.Chains.{names, Chained, Empty, place_of, entry_of, chained_more}
use Rattle.naming.specs.declared.Table.{Table}

-- a name of n bytes with its bucket
pub record Sought (text : List ℕ) (at n hash : ℕ) : Type 0 where
  pub short : length text ≤ longest_text
  pub name : Name text at n
  pub some : 0 < n
  pub hashed : hash ≡ hash_of (name_at text at)
  pub bucket : hash < buckets

-- a table to begin with
pub record Fresh (t : Table) : Type 0 where
  pub long : (length t.entries ≡ longest_text) × (length t.earlier ≡ longest_text) × (length t.latest ≡ buckets)
  pub empty : Empty t.latest
  pub none : (t.names ≡ 0) × (t.marked ≡ 0)
  pub single : t.clash ≡ false

-- an entry written
pub record Written (t : Table) (at hash : ℕ) (marked : Bool) (t' : Table) : Type 0 where
  pub entry : t'.entries ≡ set t.entries t.names (entry_of at marked)
  pub back : t'.earlier ≡ set t.earlier t.names (get_or t.latest hash 0)
  pub last : t'.latest ≡ set t.latest hash (t.names + 1)
  pub counted : t'.names ≡ t.names + 1
  pub marks : t'.marked ≡ t.marked + bit marked
  pub clash : t'.clash ≡ t.clash

-- the table with its counts
pub record Listed (text : List ℕ) (t : Table) (table : List Atom) (at : ℕ) : Type 0 where
  pub chained : Chained text t.entries t.earlier t.latest table at
  pub counted : t.names ≡ length table
  pub marked : t.marked ≡ length (filter is_marked table)

-- a name that was met, entered where it is new
pub record NameTaken (text : List ℕ) (t t' : Table) (table : List Atom) (a : Atom) (at code : ℕ) : Type 0 where
  pub coded : code ≡ first_name + number_of (names (enter table a)) a.name
  pub listed : Listed text t' (enter table a) at
  pub clashed : t'.clash ≡ (t.clash || differs table a)

-- ---- the table and a name

module _ (w : Word) where
  number_below : (table : List Atom) → known table w ≡ true → number_of (names table) w < length table
  number_below [] k = clash k refl
  number_below (b ∷ table) k = go (same w b.name) k (number_below table)
    where
      go : (t : Bool) → (t || known table w) ≡ true → (known table w ≡ true → number_of (names table) w < length table)
          → choose t 0 (suc (number_of (names table) w)) < suc (length table)
      go true q ih = omega arith
      go false q ih = omega (arith, ih q)

  -- a name that is known keeps its number
  pub number_kept : (table more : List Atom) → known table w ≡ true → number_of (names (table ++ more)) w ≡ number_of (names table) w
  number_kept [] more k = clash k refl
  number_kept (b ∷ table) more k = go (same w b.name) k (number_kept table more)
    where
      go : (t : Bool) → (t || known table w) ≡ true → (known table w ≡ true → number_of (names (table ++ more)) w ≡ number_of (names table) w)
          → choose t 0 (suc (number_of (names (table ++ more)) w)) ≡ choose t 0 (suc (number_of (names table) w))
      go true q ih = refl
      go false q ih = ap suc (ih q)

  -- a new one has the last
  number_new : (table : List Atom) (marked : Bool) → known table w ≡ false → number_of (names (table ++ atom_of w marked ∷ [])) w ≡ length table
  number_new [] marked k = ap (λ (t : Bool). choose t 0 1) (same_refl w)
  number_new (b ∷ table) marked k = go (same w b.name) k (number_new table marked)
    where
      more : List Word
      more = names (table ++ atom_of w marked ∷ [])

      go : (t : Bool) → (t || known table w) ≡ false → (known table w ≡ false → number_of more w ≡ length table) → choose t 0 (suc (number_of more w)) ≡ suc (length table)
      go true q ih = clash refl q
      go false q ih = ap suc (ih q)

  differs_none : (table : List Atom) (marked : Bool) → known table w ≡ false → differs table (atom_of w marked) ≡ false
  differs_none [] marked k = refl
  differs_none (b ∷ table) marked k = go (same w b.name) k (differs_none table marked)
    where
      go : (t : Bool) → (t || known table w) ≡ false → (known table w ≡ false → differs table (atom_of w marked) ≡ false)
          → ((t && other b.marked marked) || differs table (atom_of w marked)) ≡ false
      go true q ih = clash refl q
      go false q ih = ih q

  -- where no name stands twice, only its own entry tells
  differs_one : (table : List Atom) (marked : Bool) → Once (names table) → known table w ≡ true
      → differs table (atom_of w marked) ≡ other (get_or table (number_of (names table) w) no_atom).marked marked
  differs_one [] marked o k = clash k refl
  differs_one (b ∷ table) marked o k = go (same w b.name) refl k (differs_one table marked o.1)
    where
      gone : same w b.name ≡ true → known table w ≡ false
      gone e =
          ⊎_elim
          (λ (q : known table w ≡ true).
          let s = any_some (λ (c : Atom). same w c.name) table q in
          absurd (o.0 s.0.name (∈_map name_of s.1) (sym (same_true w b.name e) ∙ same_true w s.0.name s.2)))
          (λ (q : known table w ≡ false). q) (decide (known table w))

      go : (t : Bool) → same w b.name ≡ t → (t || known table w) ≡ true
          → (known table w ≡ true → differs table (atom_of w marked) ≡ other (get_or table (number_of (names table) w) no_atom).marked marked)
          → ((t && other b.marked marked) || differs table (atom_of w marked))
          ≡ other (get_or (b ∷ table) (choose t 0 (suc (number_of (names table) w))) no_atom).marked marked
      go true e q ih = last (other b.marked marked) (differs_none table marked (gone e))
        where
          last : (x : Bool) → differs table (atom_of w marked) ≡ false → (x || differs table (atom_of w marked)) ≡ x
          last true d = refl
          last false d = d
      go false e q ih = ih q

marks_more : (table : List Atom) (a : Atom) → length (filter is_marked (table ++ a ∷ [])) ≡ length (filter is_marked table) + bit a.marked
marks_more [] a = go a.marked
  where
    go : (t : Bool) → length (put t a []) ≡ 0 + bit t
    go true = refl
    go false = refl
marks_more (b ∷ table) a = go b.marked (marks_more table a)
  where
    go : (t : Bool) → length (filter is_marked (table ++ a ∷ [])) ≡ length (filter is_marked table) + bit a.marked
        → length (put t b (filter is_marked (table ++ a ∷ []))) ≡ length (put t b (filter is_marked table)) + bit a.marked
    go true e = omega arith
    go false e = e

-- two marks, as the code compares them
other_bits : (s t : Bool) → not (eqb (bit s) (bit t)) ≡ other s t
other_bits true true = refl
other_bits true false = refl
other_bits false true = refl
other_bits false false = refl

-- ---- a name is met

placed : (table : List Atom) (w : Word) (place : Option ℕ) → place ≡ place_of table w
    → MatchOption place (known table w ≡ false) (λ i. (known table w ≡ true) × (i ≡ number_of (names table) w))
unfolding place_of
placed table w place e = subst (λ (p : Option ℕ). MatchOption p (known table w ≡ false) (λ i. (known table w ≡ true) × (i ≡ number_of (names table) w))) (sym e) (go (known table w) refl)
  where
    go : (t : Bool) → known table w ≡ t
        → MatchOption (choose t (Some (number_of (names table) w)) None) (known table w ≡ false) (λ i. (known table w ≡ true) × (i ≡ number_of (names table) w))
    go true k = (k, refl)
    go false k = k

pub place_below : (table : List Atom) (w : Word) (i : ℕ) → Some i ≡ place_of table w → i < length table
place_below table w i e = let p = placed table w (Some i) e in omega (arith, number_below w table p.0, p.1)

chained_on : {text entries earlier latest : List ℕ} {table : List Atom} {at : ℕ} (next : ℕ) → at ≤ next → Chained text entries earlier latest table at
    → Chained text entries earlier latest table next
chained_on next l c =
    record {
      long = c.long;
      few = omega (arith, c.few);
      placed = c.placed;
      before = λ i m. omega (arith, c.before i m);
      once = c.once;
      last = c.last;
      back = c.back;
    }

pub listed_on : {text : List ℕ} {t : Table} {table : List Atom} {at : ℕ} (next : ℕ) → at ≤ next → Listed text t table at → Listed text t table next
listed_on next l d = record { chained = chained_on next l d.chained; counted = d.counted; marked = d.marked }

module _ {text : List ℕ} {t : Table} {table : List Atom} {at n hash : ℕ} (s : Sought text at n hash) (d : Listed text t table at) (marked : Bool) where
  -- a table that the name leaves so
  met : {t' : Table} (table' : List Atom) {code : ℕ} → enter table (atom_of (name_at text at) marked) ≡ table'
      → code ≡ first_name + number_of (names table') (name_at text at) → Listed text t' table' (at + 1)
      → t'.clash ≡ (t.clash || differs table (atom_of (name_at text at) marked))
      → NameTaken text t t' table (atom_of (name_at text at) marked) (at + 1) code
  met {t' = t'} table' {code = code} e coded listed f =
      record {
        coded = coded ∙ ap (λ (l : List Atom). first_name + number_of (names l) (name_at text at)) (sym e);
        listed = subst (λ (l : List Atom). Listed text t' l (at + 1)) (sym e) listed;
        clashed = f;
      }

  pub met_new : {t' : Table} → None ≡ place_of table (name_at text at) → Written t at hash marked t'
      → NameTaken text t t' table (atom_of (name_at text at) marked) (at + 1) (first_name + t.names)
  unfolding enter
  met_new {t' = t'} e w =
      met more (choose_false table more new) (ap (λ (k : ℕ). first_name + k) (d.counted ∙ sym (number_new (name_at text at) table marked new)))
      (record {
        chained = chained;
        counted = w.counted ∙ ap (λ (k : ℕ). k + 1) d.counted ∙ sym (length-append table (a ∷ []));
        marked = omega (arith, w.marks, d.marked, marks_more table a);
      })
      (w.clash ∙ sym (or-false t.clash) ∙ ap (λ (b : Bool). t.clash || b) (sym (differs_none (name_at text at) table marked new)))
    where
      a : Atom
      a = atom_of (name_at text at) marked

      more : List Atom
      more = table ++ a ∷ []

      new : known table (name_at text at) ≡ false
      new = placed table (name_at text at) None e

      chained : Chained text t'.entries t'.earlier t'.latest more (at + 1)
      chained =
          subst₃ (λ (x y z : List ℕ). Chained text x y z more (at + 1)) (sym w.entry) (sym w.back) (sym w.last)
          (chained_more d.chained t.names hash marked d.counted s.hashed s.bucket (omega (arith, s.name.within, s.some)) s.short new)

  -- a known name leaves all but the clash
  pub met_known : {t' : Table} {b : ℕ} → b ≡ bit marked → (i : ℕ) → Some i ≡ place_of table (name_at text at) → Listed text t' table at
      → t'.clash ≡ (t.clash || not (eqb (get_or t.entries i 0 % 2) b))
      → NameTaken text t t' table (atom_of (name_at text at) marked) (at + 1) (first_name + i)
  unfolding enter
  met_known {b = b} f i e l c =
      met table (choose_true table (table ++ a ∷ []) old) (ap (λ (k : ℕ). first_name + k) at_number) (listed_on (at + 1) (omega arith) l)
      (c
      ∙ ap (λ (x : Bool). t.clash || x)
      (ap₂ (λ (x y : ℕ). not (eqb x y)) mark f
      ∙ other_bits (get_or table (number_of (names table) w) no_atom).marked marked
      ∙ sym (differs_one w table marked d.chained.once old)))
    where
      w : Word
      w = name_at text at

      a : Atom
      a = atom_of w marked

      old : known table w ≡ true
      old = (placed table w (Some i) e).0

      at_number : i ≡ number_of (names table) w
      at_number = (placed table w (Some i) e).1

      mark : get_or t.entries i 0 % 2 ≡ bit (get_or table (number_of (names table) w) no_atom).marked
      mark = ap (λ (k : ℕ). get_or t.entries k 0 % 2) at_number ∙ (d.chained.placed (number_of (names table) w) (number_below w table old)).mark
