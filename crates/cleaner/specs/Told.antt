-- What a listing tells of a hypothesis, from what its sets have together.
-- Assumes nothing.
use Rattle.std.specs.Prelude.{ℕ, ◌+◌, ◌<◌, ◌≡◌, refl, Bool, true, false, ◌&&◌, ◌||◌, length, take, get_or}
use Rattle.std.proofs.Common.{add-one, sym, ap, ◌∙◌, take-suc}
use mathlib.Core.List.{List, [], ◌∷◌, foldl, foldl-append}
use Rattle.std.specs.Int.Bits.{bit_and, bit_or}
use Rattle.base.specs.paper.Lists.{all, any}
use Rattle.base.specs.paper.Members.{has}
use Rattle.sets.specs.Bits.{has_none, has_and, has_or}
use Rattle.cleaner.specs.declared.listed.Listed.{Listed}

-- the number of sets, the hypotheses that all of them have, and the members of some
pub record Tells (hypotheses : ℕ) (listed : Listed) (l : List ℕ) : Type 0 where
  pub count : listed.count ≡ length l
  pub every : (j : ℕ) → has listed.every j ≡ (has hypotheses j && all (λ (d : ℕ). has d j) l)
  pub some : (j : ℕ) → has listed.some j ≡ any (λ (d : ℕ). has d j) l

and_assoc : (s t u : Bool) → ((s && t) && u) ≡ (s && (t && u))
and_assoc true t u = refl
and_assoc false t u = refl

or_assoc : (s t u : Bool) → ((s || t) || u) ≡ (s || (t || u))
or_assoc true t u = refl
or_assoc false t u = refl

pub every_has : (l : List ℕ) (d j : ℕ) → has (foldl bit_and d l) j ≡ (has d j && all (λ (e : ℕ). has e j) l)
every_has [] d j = go (has d j)
  where
    go : (t : Bool) → t ≡ (t && true)
    go true = refl
    go false = refl
every_has (x ∷ l) d j =
    every_has l (bit_and d x) j ∙ ap (λ (t : Bool). t && all (λ (e : ℕ). has e j) l) (has_and d x j) ∙ and_assoc (has d j) (has x j) (all (λ (e : ℕ). has e j) l)

some_has : (l : List ℕ) (d j : ℕ) → has (foldl bit_or d l) j ≡ (has d j || any (λ (e : ℕ). has e j) l)
some_has [] d j = go (has d j)
  where
    go : (t : Bool) → t ≡ (t || false)
    go true = refl
    go false = refl
some_has (x ∷ l) d j =
    some_has l (bit_or d x) j ∙ ap (λ (t : Bool). t || any (λ (e : ℕ). has e j) l) (has_or d x j) ∙ or_assoc (has d j) (has x j) (any (λ (e : ℕ). has e j) l)

pub any_has : (l : List ℕ) (j : ℕ) → has (foldl bit_or 0 l) j ≡ any (λ (e : ℕ). has e j) l
any_has l j = some_has l 0 j ∙ ap (λ (t : Bool). t || any (λ (e : ℕ). has e j) l) (has_none j)

-- one set more
pub fold_next : (f : ℕ → ℕ → ℕ) (d : ℕ) (l : List ℕ) (i : ℕ) → i < length l → f (foldl f d (take i l)) (get_or l i 0) ≡ foldl f d (take (i + 1) l)
fold_next f d l i h =
    sym (ap (λ (k : ℕ). foldl f d (take k l)) (add-one i) ∙ ap (foldl f d) (take-suc l i 0 h) ∙ foldl-append f d (take i l) (get_or l i 0 ∷ []))
