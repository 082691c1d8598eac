-- One step of the search as a relation: which results a task has.
-- Assumes nothing.
use Rattle.std.specs.Prelude.{◌≡◌, refl, Bool, true, false, ◌&&◌, List, [], ◌∷◌, ◌++◌, map, eqb}
use Rattle.std.proofs.Common.{sym, subst, ⊎_elim, eqb-true, eq-eqb}
use Rattle.std.specs.Bool.{beq}
use Rattle.std.proofs.Math.Bool.{not-not}
use mathlib.Core.List.Memᴰ
use Rattle.base.specs.paper.Bools.{choose}
use Rattle.base.specs.Bools.{decide, clash, both, both_left, both_right}
use Rattle.base.specs.paper.Lists.{◌∈◌}
use Rattle.base.specs.Lists.{Some, here, any_some, some_any}
use Rattle.base.specs.Flat.{∈_map, map_∈}
use Rattle.image.specs.paper.Book.{Lit, Book}
use Rattle.searching.specs.paper.Rules.{opposite, Task, want, pick, Node, on, opens, results, after, children}

abbrev same_lit : Lit → Lit → Bool
same_lit l m = eqb l.atom m.atom && beq l.sign m.sign

sign_same : (s t : Bool) → beq s t ≡ true → s ≡ t
sign_same true true e = refl
sign_same true false e = sym e
sign_same false true e = e
sign_same false false e = refl

sign_refl : (s : Bool) → beq s s ≡ true
sign_refl true = refl
sign_refl false = refl

-- `on` tests membership
pub on_∈ : (s : List Lit) (l : Lit) → on s l ≡ true → l ∈ s
unfolding on
on_∈ s l h =
    let w = any_some (same_lit l) s h in
    let m = w.0 in
    let p = eqb-true l.atom m.atom (both_left (eqb l.atom m.atom) (beq l.sign m.sign) w.2) in
    let q = sign_same l.sign m.sign (both_right (eqb l.atom m.atom) (beq l.sign m.sign) w.2) in
    let e : m ≡ l = λ i. record { atom = sym p i; sign = sym q i } in
    subst (λ (x : Lit). x ∈ s) e w.1

pub ∈_on : (s : List Lit) (l : Lit) → l ∈ s → on s l ≡ true
unfolding on
∈_on s l m = some_any (same_lit l) s (l, m, both (eqb l.atom l.atom) (beq l.sign l.sign) (eq-eqb l.atom l.atom refl) (sign_refl l.sign))

pub off_∉ : (s : List Lit) (l : Lit) → on s l ≡ false → l ∈ s → ⊥
off_∉ s l e m = clash (∈_on s l m) e

pub ∉_off : (s : List Lit) (l : Lit) → (l ∈ s → ⊥) → on s l ≡ false
∉_off s l h = ⊎_elim (λ (t : on s l ≡ true). absurd (h (on_∈ s l t))) (λ f. f) (decide (on s l))

-- the opposite's opposite
pub opposite_twice : (l : Lit) → opposite (opposite l) ≡ l
opposite_twice l = λ i. record { atom = l.atom; sign = not-not l.sign i }

-- The results of a task at the sheet s: gone, if the literal stands there already; joined to it, if neither the literal nor its opposite
-- does; or one of the lists picked.
pub data Result (b : Book) (s : List Lit) : Task → Node → Type 0 where
  gone : {l : Lit} → (opposite l ∈ s → ⊥) → l ∈ s → Result b s (want l) (record { agenda = []; sheet = s })
  joins : {l : Lit} {ts : List Task} → (opposite l ∈ s → ⊥) → (l ∈ s → ⊥) → ts ∈ opens b l → Result b s (want l) (record { agenda = ts; sheet = l ∷ s })
  picks : {ways : List (List Lit)} {way : List Lit} → way ∈ ways → Result b s (pick ways) (record { agenda = map want way; sheet = s })

pub result : (b : Book) (s : List Lit) (t : Task) {n : Node} → n ∈ results b s t → Result b s t n
unfolding results
result b s (want l) {n} m = go (on s (opposite l)) refl (on s l) refl m
  where
    joined : Some (λ (ts : List Task). n ≡ record { agenda = ts; sheet = l ∷ s }) (opens b l) → (opposite l ∈ s → ⊥) → (l ∈ s → ⊥) → Result b s (want l) n
    joined w p q = subst (λ (x : Node). Result b s (want l) x) (sym w.2) (joins p q w.1)

    go : (r : Bool) → on s (opposite l) ≡ r → (t : Bool) → on s l ≡ t
        → n ∈ choose r [] (choose t (record { agenda = []; sheet = s } ∷ []) (map (λ (ts : List Task). record { agenda = ts; sheet = l ∷ s }) (opens b l)))
        → Result b s (want l) n
    go true p t q k = absurd (Memᴰ.not-nil k)
    go false p true q k =
        subst (λ (x : Node). Result b s (want l) x) (sym (Memᴰ.eq_of_singleton k)) (gone (off_∉ s (opposite l) p) (on_∈ s l q))
    go false p false q k =
        joined (map_∈ (λ (ts : List Task). record { agenda = ts; sheet = l ∷ s }) (opens b l) k) (off_∉ s (opposite l) p) (off_∉ s l q)
result b s (pick ways) {n} m =
    let w = map_∈ (λ (way : List Lit). record { agenda = map want way; sheet = s }) ways m in
    subst (λ (x : Node). Result b s (pick ways) x) (sym w.2) (picks w.1)

pub of_result : (b : Book) (s : List Lit) (t : Task) {n : Node} → Result b s t n → n ∈ results b s t
unfolding results
of_result b s t (gone {l} p q) = rw (∉_off s (opposite l) p, ∈_on s l q) here
of_result b s t (joins {l} p q m) = rw (∉_off s (opposite l) p, ∉_off s l q) (∈_map (λ (ts : List Task). record { agenda = ts; sheet = l ∷ s }) m)
of_result b s t (picks m) = ∈_map (λ (way : List Lit). record { agenda = map want way; sheet = s }) m

-- a result with the rest of the agenda behind it
abbrev pub before : List Task → Node → Node
before rest n = record { agenda = n.agenda ++ rest; sheet = n.sheet }

-- The children of a node are the results of its first task, each before the rest.
pub data Child (b : Book) : Node → Node → Type 0 where
  child : {t : Task} {rest : List Task} {s : List Lit} {n : Node} → Result b s t n → Child b (record { agenda = t ∷ rest; sheet = s }) (before rest n)

pub child_of : (b : Book) (n : Node) {c : Node} → c ∈ children b n → Child b n c
unfolding after
child_of b n m = go n.agenda m
  where
    go : (ts : List Task) {c : Node} → c ∈ after b ts n.sheet → Child b (record { agenda = ts; sheet = n.sheet }) c
    go [] k = absurd (Memᴰ.not-nil k)
    go (t ∷ rest) k =
        let w = map_∈ (before rest) (results b n.sheet t) k in
        subst (λ (x : Node). Child b (record { agenda = t ∷ rest; sheet = n.sheet }) x) (sym w.2) (child (result b n.sheet t w.1))

pub of_child : (b : Book) {n c : Node} → Child b n c → c ∈ children b n
unfolding after
of_child b (child {t} {rest} {s} r) = ∈_map (before rest) (of_result b s t r)
