-- The classes of bytes, tested one part after the other.
-- Assumes nothing.
use Rattle.std.specs.Prelude.{ℕ, ◌≡◌, refl, Bool, true, false, ◌||◌}
use Rattle.std.proofs.Math.Path.{ap}
use Rattle.std.proofs.Common.{◌∙◌, ne_eqb}
use Rattle.std.proofs.Math.Dec.{eqb}
use Rattle.spelling.specs.paper.Words.{within, blank, small, in_name}

no_more : (p : Bool) → (p || false) ≡ p
no_more true = refl
no_more false = refl

module _ (b : ℕ) where
  -- neither a space nor a tab nor LF
  pub blank_last : (b ≡ 32 → ⊥) → (b ≡ 9 → ⊥) → (b ≡ 10 → ⊥) → blank b ≡ eqb b 13
  unfolding blank
  blank_last h i j =
      ap (λ (q : Bool). q || (eqb b 9 || (eqb b 10 || (eqb b 13 || false)))) (ne_eqb b 32 h)
      ∙ ap (λ (q : Bool). q || (eqb b 10 || (eqb b 13 || false))) (ne_eqb b 9 i)
      ∙ ap (λ (q : Bool). q || (eqb b 13 || false)) (ne_eqb b 10 j)
      ∙ no_more (eqb b 13)

  pub name_small : within 97 122 b ≡ true → in_name b ≡ true
  unfolding in_name small
  name_small e = ap (λ (q : Bool). q || within 65 90 b || within 48 57 b || eqb b 95) e

  module _ (not-small : within 97 122 b ≡ false) where
    pub name_great : within 65 90 b ≡ true → in_name b ≡ true
    unfolding in_name small
    name_great e = ap (λ (q : Bool). q || within 65 90 b || within 48 57 b || eqb b 95) not-small ∙ ap (λ (q : Bool). q || within 48 57 b || eqb b 95) e

    module _ (not-great : within 65 90 b ≡ false) where
      beyond_letters : in_name b ≡ (within 48 57 b || eqb b 95)
      unfolding in_name small
      beyond_letters = ap (λ (q : Bool). q || within 65 90 b || within 48 57 b || eqb b 95) not-small ∙ ap (λ (q : Bool). q || within 48 57 b || eqb b 95) not-great

      pub name_digit : within 48 57 b ≡ true → in_name b ≡ true
      name_digit e = beyond_letters ∙ ap (λ (q : Bool). q || eqb b 95) e

      pub name_last : within 48 57 b ≡ false → in_name b ≡ eqb b 95
      name_last e = beyond_letters ∙ ap (λ (q : Bool). q || eqb b 95) e
