-- The laws of marks: a mark more, in its word, is that atom's and no other's; and where nothing is marked, each word is 0.
-- Assumes nothing.
use Prim.Native.Nat.{ℕ, zero, suc, ◌+◌, ◌*◌, ◌/◌, ◌%◌, ◌^◌, ◌<◌}
use Rattle.std.specs.Prelude.{◌≡◌, refl, Bool, true, false, ◌||◌, List, [], ◌∷◌, eqb, length, get_or, set}
use Rattle.std.proofs.Common.{sym, ap, ap₂, ◌∙◌, arith, eqb-true, eq-eqb, ne_eqb, get_or-set_same, get_or-set_other}
use Rattle.std.proofs.Math.Logic.{⊎_elim}
use Rattle.std.proofs.lemmas.Bool.{eqb-false}
use Rattle.std.proofs.lemmas.Bool.Decides.{Decides-eqb}
use Rattle.std.proofs.lemmas.List.{ext_get_or}
use Rattle.std.proofs.lemmas.Slice.Eq.{slice_eq-Decides}
use Rattle.std.specs.Bool.{Decides}
use lib.Pointwise.{pointwise}
use Rattle.std.specs.Int.Bits.{bit_or}
use Rattle.base.specs.Bools.{decide, clash, same_test}
use Rattle.base.specs.paper.Members.{has}
use Rattle.sets.specs.SetLaws.{set_bits, same_members, within_has}
use Rattle.sets.specs.Bits.{has_none, has_one, has_or}
use Rattle.marks.specs.declared.Marks.{Marks}
use Rattle.marks.specs.Marked.{words, markable, mark_in}

-- ---- words

module _ (ws : List ℕ) (long : length ws ≡ words) (atom : ℕ) (few : atom < markable) where
  abbrev word : ℕ
  word = bit_or (2 ^ (atom % set_bits)) (get_or ws (atom / set_bits) 0)

  pub mark_more : (p : ℕ) → mark_in (set ws (atom / set_bits) word) p ≡ (eqb atom p || mark_in ws p)
  unfolding mark_in
  mark_more p =
      ⊎_elim (λ e. at (eqb-true (atom / set_bits) (p / set_bits) e)) (λ e. off (eqb-false (atom / set_bits) (p / set_bits) e))
      (decide (eqb (atom / set_bits) (p / set_bits)))
    where
      i : ℕ
      i = p % set_bits

      at : atom / set_bits ≡ p / set_bits → has (get_or (set ws (atom / set_bits) word) (p / set_bits) 0) i ≡ (eqb atom p || has (get_or ws (p / set_bits) 0) i)
      at e =
          let inside : atom / set_bits < length ws = omega arith in
          let same : eqb (atom % set_bits) i ≡ eqb atom p =
          same_test (λ t. eq-eqb atom p (omega (arith, eqb-true (atom % set_bits) i t)))
          (λ t. eq-eqb (atom % set_bits) i (ap (λ (n : ℕ). n % set_bits) (eqb-true atom p t))) in
          ap (λ (n : ℕ). has (get_or (set ws (atom / set_bits) word) n 0) i) (sym e)
          ∙ ap (λ (n : ℕ). has n i) (get_or-set_same ws (atom / set_bits) word 0 inside)
          ∙ has_or (2 ^ (atom % set_bits)) (get_or ws (atom / set_bits) 0) i
          ∙ ap₂ (λ (t : Bool) (n : ℕ). t || has (get_or ws n 0) i) (has_one (atom % set_bits) i ∙ same) e

      off : (atom / set_bits ≡ p / set_bits → ⊥) → has (get_or (set ws (atom / set_bits) word) (p / set_bits) 0) i ≡ (eqb atom p || has (get_or ws (p / set_bits) 0) i)
      off e =
          ap (λ (n : ℕ). has n i) (get_or-set_other ws (atom / set_bits) (p / set_bits) word 0 (λ f. e (sym f)))
          ∙ ap (λ (t : Bool). t || has (get_or ws (p / set_bits) 0) i) (sym (ne_eqb atom p (λ f. e (ap (λ (n : ℕ). n / set_bits) f))))

-- words of 0 mark nothing
pub mark_none : (p : ℕ) → mark_in (0 ∷ 0 ∷ 0 ∷ 0 ∷ []) p ≡ false
unfolding mark_in
mark_none p = ap (λ (n : ℕ). has n (p % set_bits)) (zeros (p / set_bits)) ∙ has_none (p % set_bits)
  where
    zeros : (w : ℕ) → get_or {A = ℕ} (0 ∷ 0 ∷ 0 ∷ 0 ∷ []) w 0 ≡ 0
    zeros zero = refl
    zeros (suc zero) = refl
    zeros (suc (suc zero)) = refl
    zeros (suc (suc (suc zero))) = refl
    zeros (suc (suc (suc (suc w)))) = refl

-- where nothing is marked, a word is 0
pub none_mark : (ws : List ℕ) (which : ℕ) → get_or ws which 0 < 2 ^ set_bits → ((p : ℕ) → mark_in ws p ≡ false) → get_or ws which 0 ≡ 0
unfolding mark_in
none_mark ws which fits none = same_members (get_or ws which 0) 0 (λ j. ⊎_elim (λ h. clash h (off j h)) (λ h. h ∙ sym (has_none j)) (decide (has (get_or ws which 0) j)))
  where
    off : (j : ℕ) → has (get_or ws which 0) j ≡ true → has (get_or ws which 0) j ≡ false
    off j h =
        let low : j < set_bits = within_has (get_or ws which 0) set_bits fits j h in
        let word : which ≡ (which * set_bits + j) / set_bits = omega arith in
        let bit : j ≡ (which * set_bits + j) % set_bits = omega arith in
        ap₂ (λ (w i : ℕ). has (get_or ws w 0) i) word bit ∙ none (which * set_bits + j)

-- so words that mark nothing are the same words
pub none_same : (ls rs : List ℕ) → length ls ≡ length rs
    → ((i : ℕ) → get_or ls i 0 < 2 ^ set_bits) → ((i : ℕ) → get_or rs i 0 < 2 ^ set_bits)
    → ((p : ℕ) → mark_in ls p ≡ false) → ((p : ℕ) → mark_in rs p ≡ false) → ls ≡ rs
none_same ls rs e fits fits' none none' = ext_get_or 0 ls rs e (λ i _. none_mark ls i (fits i) none ∙ sym (none_mark rs i (fits' i) none'))

-- ---- what `==` says

pub marks_same : (l r : Marks) (t : Bool) → t ≡ pointwise eqb l.words r.words → Decides t (l ≡ r)
marks_same l r t e =
    let d : Decides t (l.words ≡ r.words) = slice_eq-Decides Decides-eqb l.words r.words t e in
    (λ h i. record { words = d.0 h i }, λ h. d.1 (ap (λ (m : Marks). m.words) h))
