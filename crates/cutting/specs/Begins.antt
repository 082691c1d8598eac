-- The test that a word stands at a place, a byte at a time; and the test that it is the whole run there.
-- Assumes nothing.
use Rattle.std.specs.Prelude.{ℕ, ◌+◌, ◌-◌, ◌<◌, ◌≤◌, ◌≡◌, refl, Bool, true, false, ◌&&◌, length, get_or, nat_eq}
use Rattle.std.specs.Cmp.Lexicographic.{pointwise}
use native.Mathlib.Omega.{arith}
use Rattle.std.proofs.Common.{sym, ◌∙◌, drop_of_length-le, eqb-true, eq-eqb, ne_eqb}
use Rattle.std.proofs.Math.Path.{ap}
use Rattle.std.proofs.Math.Seq.{take-append_seam}
use mathlib.Core.List.{List, [], ◌∷◌, ◌++◌}
use Rattle.std.proofs.Math.ListN.{take, drop}
use Rattle.std.proofs.Math.Dec.{eqb}
use Rattle.base.specs.Bools.{same_test}
use Rattle.base.specs.Stores.{next_all}
use Rattle.spelling.specs.paper.Words.{Word, in_name, same}
use Rattle.spelling.specs.Cut.{span, begins}
use Rattle.spelling.specs.Cutting.{span_whole}
use Rattle.spelling.specs.Table.{name_at}
use Rattle.spelling.specs.WordLaws.{same_true}

-- a word that is longer than the text
pub begins_short : (w t : List ℕ) → length t < length w → begins w t ≡ false
unfolding begins
begins_short [] t h = absurd (omega arith)
begins_short (a ∷ w) [] h = refl
begins_short (a ∷ w) (b ∷ t) h = go (eqb a b) (begins_short w t (omega arith))
  where
    go : (q : Bool) → begins w t ≡ false → (q && begins w t) ≡ false
    go true e = e
    go false e = refl

module _ (w t : List ℕ) (at : ℕ) where
  -- what is left of the word behind its first i bytes
  abbrev pub left : ℕ → Bool
  left i = begins (drop i w) (drop (at + i) t)

  pub begins_start : begins w (drop at t) ≡ left 0
  begins_start = let none : at ≡ at + 0 = omega arith in ap (λ (n : ℕ). begins w (drop n t)) none

  module _ (i : ℕ) where
    pub begins_over : length w ≤ i → left i ≡ true
    unfolding begins
    begins_over h = ap (λ (v : List ℕ). begins v (drop (at + i) t)) (drop_of_length-le w h)

    module _ (h : i < length w) (k : at + i < length t) where
      begins_next : left i ≡ (eqb (get_or w i 0) (get_or t (at + i) 0) && left (i + 1))
      unfolding begins
      begins_next =
          let one : at + i + 1 ≡ at + (i + 1) = omega arith in
          ap (λ (v : List ℕ). begins v (drop (at + i) t)) (next_all w i h)
          ∙ ap (begins (get_or w i 0 ∷ drop (i + 1) w)) (next_all t (at + i) k)
          ∙ ap (λ (n : ℕ). eqb (get_or w i 0) (get_or t (at + i) 0) && begins (drop (i + 1) w) (drop n t)) one

      pub begins_met : get_or t (at + i) 0 ≡ get_or w i 0 → left i ≡ left (i + 1)
      begins_met e = begins_next ∙ ap (λ (q : Bool). q && left (i + 1)) (eq-eqb _ _ (sym e))

      pub begins_unmet : (get_or t (at + i) 0 ≡ get_or w i 0 → ⊥) → left i ≡ false
      begins_unmet e = begins_next ∙ ap (λ (q : Bool). q && left (i + 1)) (ne_eqb _ _ (λ p. e (sym p)))

-- as the library's tests have it
pub begins_pointwise : (w t : List ℕ) → begins w t ≡ pointwise nat_eq w (take (length w) t)
unfolding begins
begins_pointwise [] t = refl
begins_pointwise (a ∷ w) [] = refl
begins_pointwise (a ∷ w) (b ∷ t) = ap (λ (q : Bool). eqb a b && q) (begins_pointwise w t)

pub same_pointwise : (v w : Word) → same v w ≡ pointwise nat_eq v w
unfolding same
same_pointwise [] [] = refl
same_pointwise [] (b ∷ w) = refl
same_pointwise (a ∷ v) [] = refl
same_pointwise (a ∷ v) (b ∷ w) = ap (λ (q : Bool). eqb a b && q) (same_pointwise v w)

-- ---- the whole run

eqb_turned : (a b : ℕ) → eqb a b ≡ eqb b a
eqb_turned a b = same_test (λ e. eq-eqb b a (sym (eqb-true a b e))) (λ e. eq-eqb a b (sym (eqb-true b a e)))

pub same_begins : (v w t : List ℕ) → length v ≡ length w → begins w (v ++ t) ≡ same v w
unfolding begins same
same_begins [] [] t e = refl
same_begins [] (b ∷ w) t e = absurd (omega arith)
same_begins (a ∷ v) [] t e = absurd (omega arith)
same_begins (a ∷ v) (b ∷ w) t e = ap (λ (q : Bool). q && begins w (v ++ t)) (eqb_turned b a) ∙ ap (λ (q : Bool). eqb a b && q) (same_begins v w t (omega arith))

pub other_length : (v w : Word) → (length v ≡ length w → ⊥) → same v w ≡ false
other_length v w n = go (same v w) refl
  where
    go : (t : Bool) → same v w ≡ t → t ≡ false
    go true e = absurd (n (ap length (same_true v w e)))
    go false e = refl

-- the bytes of a run
pub run_bytes : (text : List ℕ) (at end : ℕ) → end ≡ at + length (name_at text at) → take (end - at) (drop at text) ≡ name_at text at
run_bytes text at end e =
    let n : end - at ≡ length (name_at text at) = omega arith in
    ap (λ (k : ℕ). take k (drop at text)) n
    ∙ ap (take (length (name_at text at))) (sym (span_whole in_name (drop at text)))
    ∙ take-append_seam (name_at text at) (span in_name (drop at text)).rest

pub run_same : (text : List ℕ) (at : ℕ) (w : Word) → length (name_at text at) ≡ length w → begins w (drop at text) ≡ same (name_at text at) w
run_same text at w e =
    ap (begins w) (sym (span_whole in_name (drop at text))) ∙ same_begins (name_at text at) w (span in_name (drop at text)).rest e
