-- Words that are the same, and that a name is no fixed word.
-- Assumes nothing.
use Rattle.std.specs.Prelude.{ℕ, ◌≡◌, refl, Bool, true, false, [], ◌∷◌, eqb}
use Rattle.std.proofs.Common.{sym, ap, ◌∙◌, subst, eqb-true, eq-eqb}
use Rattle.base.specs.Bools.{clash, both, both_left, both_right}
use Rattle.spelling.specs.paper.Words.{Word, same, is_name}

pub same_true : (v w : Word) → same v w ≡ true → v ≡ w
unfolding same
same_true [] [] e = refl
same_true [] (b ∷ w) e = clash refl (sym e)
same_true (a ∷ v) [] e = clash refl (sym e)
same_true (a ∷ v) (b ∷ w) e =
    let p : a ≡ b = eqb-true a b (both_left (eqb a b) (same v w) e) in
    let q : v ≡ w = same_true v w (both_right (eqb a b) (same v w) e) in
    ap (λ (c : ℕ). c ∷ v) p ∙ ap (λ (u : Word). b ∷ u) q

pub same_refl : (w : Word) → same w w ≡ true
unfolding same
same_refl [] = refl
same_refl (b ∷ w) = both (eqb b b) (same w w) (eq-eqb b b refl) (same_refl w)

-- a name is not the same as a word that is no name
pub name_other : (n v : Word) → is_name n ≡ true → is_name v ≡ false → same n v ≡ false
name_other n v p q = go (same n v) refl
  where
    go : (t : Bool) → same n v ≡ t → t ≡ false
    go true e = clash (subst (λ (w : Word). is_name w ≡ true) (same_true n v e) p) q
    go false e = refl
