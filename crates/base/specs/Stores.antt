-- A step of a loop over a list: what is left of the list, what a store adds to the front, and what stands behind.
-- Assumes nothing.
use Rattle.std.specs.Prelude.{◌≡◌, refl, Bool, true, false, List, [], ◌∷◌, ◌++◌, ℕ, suc, ◌+◌, ◌-◌, ◌≤◌, ◌<◌, length, take, drop, get_or, set}
use Rattle.std.proofs.Common.{sym, ap, ◌∙◌, le_of_suc-le-suc, not-suc-le-zero, add-one, arith, take-suc-set, take-suc, drop-set-lt, get_or-drop, drop-drop, drop-cons}
use Rattle.std.proofs.lemmas.List.Edits.{sets}
use Rattle.base.specs.paper.Lists.{filter}
use Rattle.base.specs.Parts.{lay}

-- of the part from i on: the first entry, and the others
pub next_all : (l : List ℕ) (i : ℕ) → i < length l → drop i l ≡ get_or l i 0 ∷ drop (i + 1) l
next_all l i h = drop-cons l i 0 h ∙ ap (λ (j : ℕ). get_or l i 0 ∷ drop j l) (sym (add-one i))

-- the part before i, and the entry at i
pub front : (l : List ℕ) (i : ℕ) → i < length l → take (i + 1) l ≡ take i l ++ get_or l i 0 ∷ []
front l i h = ap (λ (j : ℕ). take j l) (add-one i) ∙ take-suc l i 0 h

-- a store at i adds to the front and leaves what is behind
pub stored : (l : List ℕ) (i a : ℕ) → i < length l → take (i + 1) (set l i a) ≡ take i l ++ a ∷ []
stored l i a h = ap (λ (j : ℕ). take j (set l i a)) (add-one i) ∙ take-suc-set l i a h

pub stored_behind : (l : List ℕ) (i a : ℕ) → drop (i + 1) (set l i a) ≡ drop (i + 1) l
stored_behind l i a = drop-set-lt (i + 1) l i a (omega arith)

-- two lists that agree from w on agree further back,
pub behind : (a b : List ℕ) (w n : ℕ) → drop w a ≡ drop w b → drop (w + n) a ≡ drop (w + n) b
behind a b w n e = sym (drop-drop n w a) ∙ ap (drop n) e ∙ drop-drop n w b

-- and at each entry
pub behind_at : (a b : List ℕ) (w i : ℕ) → drop w a ≡ drop w b → w ≤ i → get_or a i 0 ≡ get_or b i 0
behind_at a b w i e h =
    ap (λ (n : ℕ). get_or a n 0) (omega arith) ∙ sym (get_or-drop w a (i - w) 0) ∙ ap (λ (l : List ℕ). get_or l (i - w) 0) e
    ∙ get_or-drop w b (i - w) 0 ∙ ap (λ (n : ℕ). get_or b n 0) (omega arith)

-- a list laid over another grows by a store
pub lay_store : (new old : List ℕ) (a : ℕ) → length new < length old → set (lay new old) (length new) a ≡ lay (new ++ a ∷ []) old
lay_store [] [] a h = absurd (not-suc-le-zero h)
lay_store [] (b ∷ old) a h = refl
lay_store (c ∷ new) [] a h = absurd (not-suc-le-zero h)
lay_store (c ∷ new) (b ∷ old) a h = ap (λ (l : List ℕ). c ∷ l) (lay_store new old a (le_of_suc-le-suc h))

-- a test's count goes by the first entry
pub filter_first : (t : ℕ → Bool) {x : ℕ} (l : List ℕ) → t x ≡ true → filter t (x ∷ l) ≡ x ∷ filter t l
filter_first t l e = rw e

pub filter_later : (t : ℕ → Bool) {x : ℕ} (l : List ℕ) → t x ≡ false → filter t (x ∷ l) ≡ filter t l
filter_later t l e = rw e

-- a run of stores behind a run of stores
pub sets_more : (l : List ℕ) (i : ℕ) (s t : List ℕ) → sets (sets l i s) (i + length s) t ≡ sets l i (s ++ t)
sets_more l i [] t = ap (λ (j : ℕ). sets l j t) (omega arith)
sets_more l i (a ∷ s) t = ap (λ (j : ℕ). sets (sets l i (a ∷ s)) j t) (omega arith) ∙ sets_more (set l i a) (suc i) s t
