-- Which atoms a clause names in its body, and whether one of them is marked.
-- Assumes nothing.
use Rattle.std.specs.Prelude.{ℕ, ◌<◌, ◌≡◌, refl, Bool, true, false, ◌||◌, List, [], ◌∷◌, length, map, eqb}
use Rattle.std.proofs.Common.{sym, ap, ◌∙◌, arith, eq-eqb}
use Rattle.std.proofs.lemmas.List.Folds.{list_any_at, list_any_none}
use Rattle.std.proofs.lemmas.List.Elements.{All-from_all_within}
use Rattle.std.specs.Bool.{MatchBool}
use Rattle.std.specs.List.{list_any, HoldsAt, AllWithin}
use Rattle.base.specs.Bools.{clash, either_left, either_right}
use Rattle.base.specs.paper.Lists.{◌∈◌, any}
use Rattle.base.specs.Lists.{some_any}
use Rattle.image.specs.paper.Book.{Lit, Clause}

-- the test that a body has an atom
abbrev pub in_body : List Lit → ℕ → Bool
in_body ls q = any (λ (l : Lit). eqb l.atom q) ls

abbrev pub names : Clause → ℕ → Bool
names c q = in_body c.body q

-- the same of a list of atoms
abbrev pub named_in : List ℕ → ℕ → Bool
named_in ps q = any (λ (p : ℕ). eqb p q) ps

pub named_body : (ls : List Lit) (q : ℕ) → named_in (map (λ (l : Lit). l.atom) ls) q ≡ in_body ls q
named_body [] q = refl
named_body (l ∷ ls) q = ap (λ (t : Bool). eqb l.atom q || t) (named_body ls q)

-- an atom of the body is marked: the rest of the body is left
pub body_next : (s t r : Bool) → ((t || s) || r) ≡ (s || (t || r))
body_next true true r = refl
body_next true false r = refl
body_next false true r = refl
body_next false false r = refl

-- a body with no more atoms
pub body_over : (s : Bool) → s ≡ (s || false)
body_over true = refl
body_over false = refl

-- the test that a clause's body has a marked atom
abbrev pub names_marked : (ℕ → Bool) → Clause → Bool
names_marked f c = any (λ (l : Lit). f l.atom) c.body

-- what `any` answers over the atoms of the body
pub any_named : (f : ℕ → Bool) (ls : List Lit) (r : Bool)
    → (let ps : List ℕ = map (λ (l : Lit). l.atom) ls in
    MatchBool r ((k : ℕ) × (k < length ps) × HoldsAt (λ p. f p ≡ true) ps k) (AllWithin (λ p. f p ≡ false) ps 0 (length ps)))
    → r ≡ any (λ (l : Lit). f l.atom) ls
any_named f ls r h = go r h ∙ same ls
  where
    same : (ls : List Lit) → list_any f (map (λ (l : Lit). l.atom) ls) ≡ any (λ (l : Lit). f l.atom) ls
    same [] = refl
    same (l ∷ ls) = ap (λ (t : Bool). f l.atom || t) (same ls)

    go : (r : Bool)
        → (let ps : List ℕ = map (λ (l : Lit). l.atom) ls in
        MatchBool r ((k : ℕ) × (k < length ps) × HoldsAt (λ p. f p ≡ true) ps k) (AllWithin (λ p. f p ≡ false) ps 0 (length ps)))
        → r ≡ list_any f (map (λ (l : Lit). l.atom) ls)
    go true h = sym (list_any_at f (map (λ (l : Lit). l.atom) ls) h.0 0 h.1 (h.2 0))
    go false h = sym (list_any_none f (map (λ (l : Lit). l.atom) ls) (All-from_all_within (λ (p : ℕ). f p ≡ false) _ h))

-- no mark, and one mark more
abbrev pub unmarked : ℕ → Bool
unmarked q = false

abbrev pub adding : ℕ → (ℕ → Bool) → ℕ → Bool
adding a f q = eqb a q || f q

pub added : (a : ℕ) (f : ℕ → Bool) → adding a f a ≡ true
added a f = either_left (eqb a a) (f a) (eq-eqb a a refl)

pub adding_keeps : (a : ℕ) (f : ℕ → Bool) (q : ℕ) → f q ≡ true → adding a f q ≡ true
adding_keeps a f q h = either_right (eqb a q) (f q) h

pub names_in_lem : (c : Clause) (l : Lit) → l ∈ c.body → names c l.atom ≡ true
names_in_lem c l m = some_any (λ (k : Lit). eqb k.atom l.atom) c.body (l, m, eq-eqb l.atom l.atom refl)

pub names_marked_lem : (f : ℕ → Bool) (c : Clause) (l : Lit) → l ∈ c.body → f l.atom ≡ true → names_marked f c ≡ true
names_marked_lem f c l m h = some_any (λ (k : Lit). f k.atom) c.body (l, m, h)

-- ---- facts

unfoldable pub bodied : Clause → Bool
bodied c = any (λ (l : Lit). true) c.body

pub bodied_in : (c : Clause) (l : Lit) → l ∈ c.body → bodied c ≡ true
unfolding bodied
bodied_in c l m = some_any (λ (k : Lit). true) c.body (l, m, refl)

pub bodied_long : (c : Clause) → 0 < length c.body → bodied c ≡ true
unfolding bodied
bodied_long c h = go c.body h
  where
    go : (ls : List Lit) → 0 < length ls → any (λ (l : Lit). true) ls ≡ true
    go [] h = absurd (omega arith)
    go (l ∷ ls) h = refl

pub fact_none : (c : Clause) → length c.body ≡ 0 → c.body ≡ []
fact_none c e = go c.body e
  where
    go : (ls : List Lit) → length ls ≡ 0 → ls ≡ []
    go [] e = refl
    go (l ∷ ls) e = absurd (omega arith)

pub bodied_none : (c : Clause) → length c.body ≡ 0 → bodied c ≡ false
unfolding bodied
bodied_none c e = ap (λ (ls : List Lit). any (λ (l : Lit). true) ls) (fact_none c e)

pub bodied_not : (c : Clause) → bodied c ≡ false → c.body ≡ []
unfolding bodied
bodied_not c e = go c.body e
  where
    go : (ls : List Lit) → any (λ (l : Lit). true) ls ≡ false → ls ≡ []
    go [] e = refl
    go (l ∷ ls) e = clash refl e
