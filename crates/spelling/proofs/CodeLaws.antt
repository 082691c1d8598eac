-- The codes tell the words apart as far as the grammar does: the fixed words from each other, and the names from the rest.
-- Assumes nothing.
use Rattle.std.specs.Prelude.{ℕ, suc, ◌+◌, ◌<◌, ◌≡◌, refl, Bool, true, false, ◌&&◌, not, List, [], ◌∷◌, eqb, leb, length, get_or}
use Rattle.std.proofs.Common.{arith, sym, ap, ◌∙◌, subst, eqb-true, eq-eqb, ne_eqb, le-leb}
use Rattle.std.proofs.lemmas.Bool.{lt-leb, not-true}
use Rattle.base.specs.paper.Bools.{choose}
use Rattle.base.specs.Bools.{both_left, both_right, same_test}
use Rattle.base.specs.paper.Lists.{below}
use Rattle.base.specs.Lists.{all_every}
use Rattle.base.specs.Below.{below_in}
use Rattle.spelling.specs.paper.Words.{Word, same, small, in_name, is_name}
use Rattle.spelling.specs.paper.Said.{number_of}
use Rattle.spelling.specs.WordLaws.{same_true, name_other}
use Rattle.spelling.specs.Codes.{fixed_words, other_code, first_name, code_of}
use Rattle.spelling.proofs.Numbering.{number_most}

-- the fixed word of a code
abbrev pub fixed_word : ℕ → Word
fixed_word i = get_or fixed_words i []

abbrev sound : ℕ → Bool
sound i = eqb (number_of fixed_words (fixed_word i)) i && not (is_name (fixed_word i))

fixed_sound : (i : ℕ) → i < other_code → sound i ≡ true
unfolding below same is_name small in_name
fixed_sound i h = all_every sound (below other_code) refl i (below_in other_code i h)

fixed_number : (i : ℕ) → i < other_code → number_of fixed_words (fixed_word i) ≡ i
fixed_number i h =
    eqb-true _ i (both_left (eqb (number_of fixed_words (fixed_word i)) i) (not (is_name (fixed_word i))) (fixed_sound i h))

pub fixed_no_name : (i : ℕ) → i < other_code → is_name (fixed_word i) ≡ false
fixed_no_name i h =
    not-true (is_name (fixed_word i)) (both_right (eqb (number_of fixed_words (fixed_word i)) i) (not (is_name (fixed_word i))) (fixed_sound i h))

-- a word that stands in a list stands at its number
at_number : (ws : List Word) (w : Word) → number_of ws w < length ws → same w (get_or ws (number_of ws w) []) ≡ true
at_number [] w h = absurd (omega arith)
at_number (v ∷ ws) w h = go (same w v) refl h (at_number ws w)
  where
    go : (t : Bool) → same w v ≡ t → choose t 0 (suc (number_of ws w)) < suc (length ws)
        → (number_of ws w < length ws → same w (get_or ws (number_of ws w) []) ≡ true)
        → same w (get_or (v ∷ ws) (choose t 0 (suc (number_of ws w))) []) ≡ true
    go true e k ih = e
    go false e k ih = ih (omega (arith, k))

abbrev coded : List Word → Word → Bool → ℕ
coded names w t = choose t (first_name + number_of names w) (number_of fixed_words w)

pub code_fixed : (names : List Word) (w : Word) (i : ℕ) → i < other_code → eqb (code_of names w) i ≡ same w (fixed_word i)
unfolding code_of
code_fixed names w i h = go (is_name w) refl
  where
    go : (t : Bool) → is_name w ≡ t → eqb (coded names w t) i ≡ same w (fixed_word i)
    go true e = ne_eqb _ i (λ p. omega (arith, p)) ∙ sym (name_other w (fixed_word i) e (fixed_no_name i h))
    go false e =
        same_test
        (λ p.
        let is : number_of fixed_words w ≡ i = eqb-true _ i p in
        subst (λ (k : ℕ). same w (fixed_word k) ≡ true) is (at_number fixed_words w (omega arith)))
        (λ p. eq-eqb _ i (ap (number_of fixed_words) (same_true w (fixed_word i) p) ∙ fixed_number i h))

pub code_name : (names : List Word) (w : Word) → leb first_name (code_of names w) ≡ is_name w
unfolding code_of
code_name names w = go (is_name w) refl
  where
    go : (t : Bool) → is_name w ≡ t → leb first_name (coded names w t) ≡ t
    go true e = le-leb first_name (first_name + number_of names w) (omega arith)
    go false e = lt-leb first_name (number_of fixed_words w) (omega (arith, number_most fixed_words w))
