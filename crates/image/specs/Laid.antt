-- Field values written into an image from a place on, one behind the other.
-- Assumes nothing.
use Rattle.std.specs.Prelude.{ℕ, suc, ◌+◌, ◌*◌, ◌/◌, ◌%◌, ◌≤◌, ◌<◌, ◌≡◌, refl, List, [], ◌∷◌, ◌++◌, length, take, drop, set}
use Rattle.std.proofs.Common.{add-one, arith, sym, ap, ◌∙◌}
use Rattle.std.proofs.lemmas.List.Edits.{sets, sets-eq}
use Rattle.std.proofs.Math.Seq.{length-sets}
use Rattle.std.proofs.lemmas.List.{set_comm}
use Rattle.base.specs.paper.Lists.{flat}
use Rattle.base.specs.Flat.{flat_append}
use Rattle.base.specs.Stores.{sets_more}
use Rattle.image.specs.paper.Walk.{byte_values}
use Rattle.image.specs.paper.Spell.{two}

unfoldable pub laid : List ℕ → ℕ → List ℕ → List ℕ
laid l at fs = sets l at (flat two fs)

pub length_laid : (l : List ℕ) (at : ℕ) (fs : List ℕ) → length (laid l at fs) ≡ length l
unfolding laid
length_laid l at fs = length-sets l at (flat two fs)

pub laid_none : (l : List ℕ) (at : ℕ) → laid l at [] ≡ l
unfolding laid
laid_none l at = refl

pub length_two : (fs : List ℕ) → length (flat two fs) ≡ 2 * length fs
length_two [] = refl
length_two (x ∷ fs) = omega (arith, length_two fs)

-- a store in front of the others may come first or last
sets_before : (l : List ℕ) (i a j : ℕ) (s : List ℕ) → i < j → set (sets l j s) i a ≡ sets (set l i a) j s
sets_before l i a j [] h = refl
sets_before l i a j (b ∷ s) h =
    sets_before (set l j b) i a (suc j) s (omega arith)
    ∙ ap (λ (m : List ℕ). sets m (suc j) s) (set_comm l j i b a (λ e. omega (arith, e)))

-- more fields behind those that are written
pub laid_more : (l : List ℕ) (at : ℕ) (fs gs : List ℕ) → laid (laid l at fs) (at + 2 * length fs) gs ≡ laid l at (fs ++ gs)
unfolding laid
laid_more l at fs gs =
    ap (λ (n : ℕ). sets (sets l at (flat two fs)) (at + n) (flat two gs)) (sym (length_two fs))
    ∙ sets_more l at (flat two fs) (flat two gs)
    ∙ ap (sets l at) (sym (flat_append two fs gs))

-- a field in front of those that are written
pub laid_front : (l : List ℕ) (at x : ℕ) (fs : List ℕ) → laid (laid l (at + 2) fs) at (x ∷ []) ≡ laid l at (x ∷ fs)
unfolding laid
laid_front l at x fs =
    let s : List ℕ = flat two fs in
    let high : ℕ = x / byte_values % byte_values in
    ap (λ (m : List ℕ). set m (suc at) (x % byte_values)) (sets_before l at high (at + 2) s (omega arith))
    ∙ sets_before (set l at high) (suc at) (x % byte_values) (at + 2) s (omega arith)
    ∙ ap (λ (j : ℕ). sets (set (set l at high) (suc at) (x % byte_values)) j s) (omega arith)

-- a field is two stores
pub laid_field : (l : List ℕ) (at x : ℕ) → set (set l at (x / byte_values % byte_values)) (at + 1) (x % byte_values) ≡ laid l at (x ∷ [])
unfolding laid
laid_field l at x = ap (λ (j : ℕ). set (set l at (x / byte_values % byte_values)) j (x % byte_values)) (add-one at)

-- what is written, and what stays
pub laid_whole : (l : List ℕ) (at : ℕ) (fs : List ℕ) → at + 2 * length fs ≤ length l
    → laid l at fs ≡ take at l ++ flat two fs ++ drop (at + 2 * length fs) l
unfolding laid
laid_whole l at fs h =
    sets-eq (flat two fs) l at (omega (arith, length_two fs))
    ∙ ap (λ (n : ℕ). take at l ++ flat two fs ++ drop (at + n) l) (length_two fs)
