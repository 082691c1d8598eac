-- Laws of `Stands`: a sequence stands where its parts stand one after the other.
-- Assumes nothing.
use Rattle.std.specs.Prelude.{ℕ, ◌+◌, ◌*◌, ◌≤◌, ◌≡◌, refl, List, [], ◌∷◌, ◌++◌, length}
use Rattle.std.proofs.Common.{sym, ap₂, ◌∙◌, subst, arith}
use Rattle.image.specs.paper.Walk.{field_at}
use Rattle.image.specs.Spell.{Stands, none, more}

module _ {s : List ℕ} where
  pub stands_at : {at to : ℕ} {xs : List ℕ} → at ≡ to → Stands s at xs → Stands s to xs
  stands_at {xs = xs} e h = subst (λ (k : ℕ). Stands s k xs) e h

  pub stands_join : {at : ℕ} {xs ys : List ℕ} → Stands s at xs → Stands s (at + 2 * length xs) ys → Stands s at (xs ++ ys)
  stands_join {at} none k = stands_at (omega arith) k
  stands_join {at} (more {xs = xs} there value h) k = more there value (stands_join h (stands_at (omega arith) k))

  pub stands_left : {at : ℕ} (xs ys : List ℕ) → Stands s at (xs ++ ys) → Stands s at xs
  stands_left [] ys h = none
  stands_left {at = at} (x ∷ xs) ys (more there value h) = more there value (stands_left {at = at + 2} xs ys h)

  pub stands_right : {at : ℕ} (xs : List ℕ) {ys : List ℕ} → Stands s at (xs ++ ys) → Stands s (at + 2 * length xs) ys
  stands_right {at} [] h = stands_at (omega arith) h
  stands_right {at} (x ∷ xs) (more there value h) = stands_at (omega arith) (stands_right {at = at + 2} xs h)

  pub stands_there : {at x : ℕ} {xs : List ℕ} → Stands s at (x ∷ xs) → at + 2 ≤ length s
  stands_there (more there value h) = there

  pub stands_value : {at x : ℕ} {xs : List ℕ} → Stands s at (x ∷ xs) → field_at s at ≡ x
  stands_value (more there value h) = value

  pub stands_rest : {at x : ℕ} {xs : List ℕ} → Stands s at (x ∷ xs) → Stands s (at + 2) xs
  stands_rest (more there value h) = h

  -- what stands lies within the image
  pub stands_within : {at : ℕ} (x : ℕ) (xs : List ℕ) → Stands s at (x ∷ xs) → at + 2 * length (x ∷ xs) ≤ length s
  stands_within {at} x [] (more there value h) = omega arith
  stands_within {at} x (y ∷ xs) (more there value h) = let k : at + 2 + 2 * length (y ∷ xs) ≤ length s = stands_within {at = at + 2} y xs h in omega arith

  -- as many field values that stand at one place are the same
  pub stands_same : {at : ℕ} (xs ys : List ℕ) → Stands s at xs → Stands s at ys → length xs ≡ length ys → xs ≡ ys
  stands_same [] [] h k e = refl
  stands_same [] (y ∷ ys) h k e = absurd (omega arith)
  stands_same (x ∷ xs) [] h k e = absurd (omega arith)
  stands_same {at = at} (x ∷ xs) (y ∷ ys) (more t v h) (more t' v' k) e = ap₂ ◌∷◌ (sym v ∙ v') (stands_same {at = at + 2} xs ys h k (omega arith))
