-- Tests over lists: tests that agree on every member, and tests that fail.
-- Assumes nothing.
use Rattle.std.specs.Prelude.{◌≡◌, refl, Bool, true, false, ◌&&◌, ◌||◌, List, [], ◌∷◌}
use Rattle.std.proofs.Common.{ap₂}
use Rattle.base.specs.Bools.{clash}
use Rattle.base.specs.paper.Lists.{Every, all, any}
use Rattle.base.specs.Lists.{Some, here, there, every_none, every_more, every_first, every_rest, all_every, any_some}

module _ {ℓ} {A : Type ℓ} where
  pub all_same : (s t : A → Bool) (l : List A) → Every (λ (a : A). s a ≡ t a) l → all s l ≡ all t l
  all_same s t [] h = refl
  all_same s t (a ∷ l) h = ap₂ ◌&&◌ (every_first h) (all_same s t l (every_rest h))

  pub any_same : (s t : A → Bool) (l : List A) → Every (λ (a : A). s a ≡ t a) l → any s l ≡ any t l
  any_same s t [] h = refl
  any_same s t (a ∷ l) h = ap₂ ◌||◌ (every_first h) (any_same s t l (every_rest h))

  -- where not all hold, one fails
  pub all_fails : (t : A → Bool) (l : List A) → all t l ≡ false → Some (λ (a : A). t a ≡ false) l
  all_fails t [] p = clash refl p
  all_fails t (a ∷ l) p = go (t a) refl p (all_fails t l)
    where
      later : Some (λ (b : A). t b ≡ false) l → Some (λ (b : A). t b ≡ false) (a ∷ l)
      later s = (s.0, there s.1, s.2)

      go : (s : Bool) → t a ≡ s → (s && all t l) ≡ false → (all t l ≡ false → Some (λ (b : A). t b ≡ false) l) → Some (λ (b : A). t b ≡ false) (a ∷ l)
      go true e q ih = later (ih q)
      go false e q ih = (a, here, e)

  -- where not any holds, each fails
  pub any_fails : (t : A → Bool) (l : List A) → any t l ≡ false → Every (λ (a : A). t a ≡ false) l
  any_fails t [] p = every_none (λ (a : A). t a ≡ false)
  any_fails t (a ∷ l) p = go (t a) refl p (any_fails t l)
    where
      go : (s : Bool) → t a ≡ s → (s || any t l) ≡ false → (any t l ≡ false → Every (λ (b : A). t b ≡ false) l) → Every (λ (b : A). t b ≡ false) (a ∷ l)
      go true e q ih = clash refl q
      go false e q ih = every_more e (ih q)

  pub fails_all : (t : A → Bool) (l : List A) → Some (λ (a : A). t a ≡ false) l → all t l ≡ false
  fails_all t l s = go (all t l) refl
    where
      go : (r : Bool) → all t l ≡ r → all t l ≡ false
      go true e = clash (all_every t l e s.0 s.1) s.2
      go false e = e

  pub fails_any : (t : A → Bool) (l : List A) → Every (λ (a : A). t a ≡ false) l → any t l ≡ false
  fails_any t l h = go (any t l) refl
    where
      go : (r : Bool) → any t l ≡ r → any t l ≡ false
      go true e =
          let s = any_some t l e in
          clash s.2 (h s.0 s.1)
      go false e = e
