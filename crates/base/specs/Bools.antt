-- Laws of tests: a Boolean is read as the statement that it is `true`. Each connective has its two ways.
-- Assumes nothing.
use Rattle.std.specs.Prelude.{◌≡◌, refl, Bool, true, false, ◌&&◌, ◌||◌, ◌⊎◌}
use Rattle.std.proofs.Common.{sym, ◌∙◌, true≢false, inl, inr}
use Rattle.base.specs.paper.Bools.{choose}

pub decide : (t : Bool) → (t ≡ true) ⊎ (t ≡ false)
decide true = inl refl
decide false = inr refl

pub clash {ℓ} : {A : Type ℓ} {t : Bool} → t ≡ true → t ≡ false → A
clash p q = absurd (true≢false (sym p ∙ q))

pub choose_true {ℓ} : {A : Type ℓ} {t : Bool} (a b : A) → t ≡ true → choose t a b ≡ a
choose_true {t = true} a b p = refl
choose_true {t = false} a b p = clash p refl

pub choose_false {ℓ} : {A : Type ℓ} {t : Bool} (a b : A) → t ≡ false → choose t a b ≡ b
choose_false {t = true} a b p = clash refl p
choose_false {t = false} a b p = refl

pub both : (s t : Bool) → s ≡ true → t ≡ true → (s && t) ≡ true
both true t p q = q
both false t p q = p

pub both_left : (s t : Bool) → (s && t) ≡ true → s ≡ true
both_left true t p = refl
both_left false t p = p

pub both_right : (s t : Bool) → (s && t) ≡ true → t ≡ true
both_right true t p = p
both_right false t p = clash p refl

pub either : (s t : Bool) → (s || t) ≡ true → (s ≡ true) ⊎ (t ≡ true)
either true t p = inl refl
either false t p = inr p

pub either_left : (s t : Bool) → s ≡ true → (s || t) ≡ true
either_left true t p = refl
either_left false t p = clash p refl

pub either_right : (s t : Bool) → t ≡ true → (s || t) ≡ true
either_right true t p = refl
either_right false t p = p

-- two tests that hold under the same condition are equal
pub same_test : {s t : Bool} → (s ≡ true → t ≡ true) → (t ≡ true → s ≡ true) → s ≡ t
same_test {s = true} {t = t} f g = sym (f refl)
same_test {s = false} {t = true} f g = g refl
same_test {s = false} {t = false} f g = refl
