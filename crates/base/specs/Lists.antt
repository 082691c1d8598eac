-- Laws of lists: membership, what holds of every or of some member, the tests of both; and how many stand before the first that passes a test.
-- Assumes nothing.
use Rattle.std.specs.Prelude.{◌≡◌, refl, Bool, true, false, ◌||◌, ◌⊎◌, List, [], ◌∷◌, ◌++◌, ℕ, suc, ◌+◌, ◌≤◌, length}
use Rattle.std.proofs.Common.{sym, subst, ⊎_elim, arith}
use mathlib.Core.List.Memᴰ
use Rattle.base.specs.paper.Bools.{choose}
use Rattle.base.specs.Bools.{both, both_left, both_right, either, either_left, either_right, clash}
use Rattle.base.specs.paper.Lists.{◌∈◌, Every, all, any}

module _ {ℓ} {A : Type ℓ} where
  -- P holds of some member
  abbrev pub Some {κ} : (A → Type κ) → List A → Type (ℓ ⊔ κ)
  Some P l = (a : A) × a ∈ l × P a

  pub here : {a : A} {l : List A} → a ∈ a ∷ l
  here = Memᴰ.head refl

  pub there : {a b : A} {l : List A} → a ∈ l → a ∈ b ∷ l
  there m = Memᴰ.tail m

  pub ∈_left : {a : A} {s : List A} (t : List A) → a ∈ s → a ∈ s ++ t
  ∈_left t m = Memᴰ.append_left t m

  pub ∈_right : {a : A} (s : List A) {t : List A} → a ∈ t → a ∈ s ++ t
  ∈_right s m = Memᴰ.append_right s m

  pub ∈_split : {a : A} (s : List A) {t : List A} → a ∈ s ++ t → (a ∈ s) ⊎ (a ∈ t)
  ∈_split s m = Memᴰ.append_cases s m

pub every_none {ℓ κ} : {A : Type ℓ} (P : A → Type κ) → Every P []
every_none P a m = absurd (Memᴰ.not-nil m)

module _ {ℓ κ} {A : Type ℓ} {P : A → Type κ} where
  pub every_more : {a : A} {l : List A} → P a → Every P l → Every P (a ∷ l)
  every_more p ps b m = ⊎_elim (λ e. subst P (sym e) p) (λ t. ps b t) (Memᴰ.cases_cons m)

  pub every_first : {a : A} {l : List A} → Every P (a ∷ l) → P a
  every_first ps = ps _ here

  pub every_rest : {a : A} {l : List A} → Every P (a ∷ l) → Every P l
  every_rest ps b m = ps b (there m)

  pub every_both : {s t : List A} → Every P s → Every P t → Every P (s ++ t)
  every_both {s = s} p q b m = ⊎_elim (p b) (q b) (∈_split s m)

  pub every_left : {s : List A} (t : List A) → Every P (s ++ t) → Every P s
  every_left t p b m = p b (∈_left t m)

  pub every_right : (s : List A) {t : List A} → Every P (s ++ t) → Every P t
  every_right s p b m = p b (∈_right s m)

module _ {ℓ} {A : Type ℓ} where
  pub all_every : (t : A → Bool) (l : List A) → all t l ≡ true → Every (λ (a : A). t a ≡ true) l
  all_every t [] p = every_none (λ (a : A). t a ≡ true)
  all_every t (a ∷ l) p = every_more (both_left (t a) (all t l) p) (all_every t l (both_right (t a) (all t l) p))

  pub every_all : (t : A → Bool) (l : List A) → Every (λ (a : A). t a ≡ true) l → all t l ≡ true
  every_all t [] p = refl
  every_all t (a ∷ l) p = both (t a) (all t l) (every_first p) (every_all t l (every_rest p))

  pub any_some : (t : A → Bool) (l : List A) → any t l ≡ true → Some (λ (a : A). t a ≡ true) l
  any_some t [] p = clash p refl
  any_some t (a ∷ l) p =
      ⊎_elim (λ (q : t a ≡ true). (a, here, q)) (λ (q : any t l ≡ true). later (any_some t l q)) (either (t a) (any t l) p)
    where
      later : Some (λ (b : A). t b ≡ true) l → Some (λ (b : A). t b ≡ true) (a ∷ l)
      later s = (s.0, there s.1, s.2)

  pub some_any : (t : A → Bool) (l : List A) → Some (λ (a : A). t a ≡ true) l → any t l ≡ true
  some_any t [] s = absurd (Memᴰ.not-nil s.1)
  some_any t (a ∷ l) s =
      ⊎_elim
      (λ (e : s.0 ≡ a). either_left (t a) (any t l) (subst (λ (x : A). t x ≡ true) e s.2))
      (λ (m : s.0 ∈ l). either_right (t a) (any t l) (some_any t l (s.0, m, s.2)))
      (Memᴰ.cases_cons s.1)

  pub any_append : (t : A → Bool) (s u : List A) → any t (s ++ u) ≡ (any t s || any t u)
  any_append t [] u = refl
  any_append t (a ∷ s) u = go (t a) (any_append t s u)
    where
      go : (b : Bool) → any t (s ++ u) ≡ (any t s || any t u) → (b || any t (s ++ u)) ≡ ((b || any t s) || any t u)
      go true e = refl
      go false e = e

  -- how many members stand before the first that passes the test
  abbrev pub ahead : (A → Bool) → List A → ℕ
  ahead t [] = 0
  ahead t (a ∷ l) = choose (t a) 0 (suc (ahead t l))

  pub ahead_length : (t : A → Bool) (l : List A) → ahead t l ≤ length l
  ahead_length t [] = omega arith
  ahead_length t (a ∷ l) = go (t a) (ahead_length t l)
    where
      go : (b : Bool) → ahead t l ≤ length l → choose b 0 (suc (ahead t l)) ≤ suc (length l)
      go true h = omega arith
      go false h = omega arith

  -- none of the first list passes
  pub ahead_append : (t : A → Bool) (s u : List A) → any t s ≡ false → ahead t (s ++ u) ≡ length s + ahead t u
  ahead_append t [] u e = omega arith
  ahead_append t (a ∷ s) u e = go (t a) e (ahead_append t s u)
    where
      go : (b : Bool) → (b || any t s) ≡ false → (any t s ≡ false → ahead t (s ++ u) ≡ length s + ahead t u)
          → choose b 0 (suc (ahead t (s ++ u))) ≡ suc (length s) + ahead t u
      go true q h = clash refl q
      go false q h = omega (arith, h q)
