-- Laws of parts of a list: the members that pass a test, and what holds of each member and each later one; a list laid over another.
-- Assumes nothing.
use Rattle.std.specs.Prelude.{◌≡◌, refl, Bool, true, false, ◌&&◌, not, ◌⊎◌, List, [], ◌∷◌, ◌++◌, suc, ◌≤◌, length, take, drop}
use Rattle.std.proofs.Common.{sym, ap, ◌∙◌, subst, inl, inr, ⊎_elim, le_of_suc-le-suc, not-suc-le-zero, arith}
use mathlib.Core.List.Memᴰ
use Rattle.base.specs.paper.Bools.{choose}
use Rattle.base.specs.Bools.{clash}
use Rattle.base.specs.paper.Lists.{◌∈◌, Every, put, filter, Pairwise}
use Rattle.base.specs.Lists.{there, every_none, every_more, every_first, every_rest, every_both, every_left, every_right, ahead}

module _ {ℓ} {A : Type ℓ} where
  -- a member that passes stays
  pub filter_has : (t : A → Bool) (l : List A) {x : A} → x ∈ l → t x ≡ true → x ∈ filter t l
  filter_has t [] m p = absurd (Memᴰ.not-nil m)
  filter_has t (a ∷ l) {x} m p =
      go (t a) refl (λ n. filter_has t l n p) (Memᴰ.cases_cons m)
    where
      go : (b : Bool) → t a ≡ b → (x ∈ l → x ∈ filter t l) → (x ≡ a) ⊎ (x ∈ l) → x ∈ put b a (filter t l)
      go true e rest (inl q) = Memᴰ.head q
      go true e rest (inr n) = there (rest n)
      go false e rest (inl q) = clash (subst (λ (y : A). t y ≡ true) q p) e
      go false e rest (inr n) = rest n

  -- and what stays is a member that passes
  pub filter_from : (t : A → Bool) (l : List A) {x : A} → x ∈ filter t l → (x ∈ l) × (t x ≡ true)
  filter_from t [] m = absurd (Memᴰ.not-nil m)
  filter_from t (a ∷ l) {x} m = go (t a) refl (λ n. filter_from t l n) m
    where
      go : (b : Bool) → t a ≡ b → (x ∈ filter t l → (x ∈ l) × (t x ≡ true)) → x ∈ put b a (filter t l) → (x ∈ a ∷ l) × (t x ≡ true)
      go true e rest n =
          ⊎_elim
          (λ (q : x ≡ a). (Memᴰ.head q, subst (λ (y : A). t y ≡ true) (sym q) e))
          (λ (k : x ∈ filter t l). (there (rest k).0, (rest k).1))
          (Memᴰ.cases_cons n)
      go false e rest n = (there (rest n).0, (rest n).1)

  pub filter_append : (t : A → Bool) (s u : List A) → filter t (s ++ u) ≡ filter t s ++ filter t u
  filter_append t [] u = refl
  filter_append t (a ∷ s) u = go (t a) (filter_append t s u)
    where
      go : (b : Bool) → filter t (s ++ u) ≡ filter t s ++ filter t u → put b a (filter t (s ++ u)) ≡ put b a (filter t s) ++ filter t u
      go true e = ap (λ (l : List A). a ∷ l) e
      go false e = e

  -- one test that is two
  pub filter_two : (p q r : A → Bool) (l : List A) → ((a : A) → p a ≡ (q a && r a)) → filter p l ≡ filter q (filter r l)
  filter_two p q r [] h = refl
  filter_two p q r (a ∷ l) h = ap (λ (b : Bool). put b a (filter p l)) (h a) ∙ go (q a) refl (r a) (filter_two p q r l h)
    where
      go : (x : Bool) → q a ≡ x → (y : Bool) → filter p l ≡ filter q (filter r l) → put (x && y) a (filter p l) ≡ filter q (put y a (filter r l))
      go true e true i = ap (λ (m : List A). a ∷ m) i ∙ ap (λ (b : Bool). put b a (filter q (filter r l))) (sym e)
      go false e true i = i ∙ ap (λ (b : Bool). put b a (filter q (filter r l))) (sym e)
      go true e false i = i
      go false e false i = i

  pub filter_true : (t : A → Bool) (l : List A) → ((a : A) → t a ≡ true) → filter t l ≡ l
  filter_true t [] h = refl
  filter_true t (a ∷ l) h = ap (λ (b : Bool). put b a (filter t l)) (h a) ∙ ap (λ (m : List A). a ∷ m) (filter_true t l h)

  pub filter_length : (t : A → Bool) (l : List A) → length (filter t l) ≤ length l
  filter_length t [] = omega arith
  filter_length t (a ∷ l) = go (t a) (filter_length t l)
    where
      go : (b : Bool) → length (filter t l) ≤ length l → length (put b a (filter t l)) ≤ suc (length l)
      go true h = omega arith
      go false h = omega arith

  -- without those that pass the test, what stands before the first of them is left as it is
  pub filter_ahead : (t : A → Bool) (l : List A)
      → filter (λ a. not (t a)) l ≡ take (ahead t l) l ++ filter (λ a. not (t a)) (drop (ahead t l) l)
  filter_ahead t [] = refl
  filter_ahead t (a ∷ l) = go (t a) refl (filter_ahead t l)
    where
      go : (b : Bool) → t a ≡ b → filter (λ a. not (t a)) l ≡ take (ahead t l) l ++ filter (λ a. not (t a)) (drop (ahead t l) l)
          → put (not b) a (filter (λ a. not (t a)) l)
          ≡ take (choose b 0 (suc (ahead t l))) (a ∷ l) ++ filter (λ a. not (t a)) (drop (choose b 0 (suc (ahead t l))) (a ∷ l))
      go true e h = sym (rw e)
      go false e h = ap (λ (m : List A). a ∷ m) h

  -- the new list laid over the old from the front, as far as the old one reaches
  abbrev pub lay : List A → List A → List A
  lay [] old = old
  lay (a ∷ new) [] = []
  lay (a ∷ new) (b ∷ old) = a ∷ lay new old

  pub length_lay : (new old : List A) → length (lay new old) ≡ length old
  length_lay [] old = refl
  length_lay (a ∷ new) [] = refl
  length_lay (a ∷ new) (b ∷ old) = ap suc (length_lay new old)

  pub lay_fits : (new old : List A) → length new ≤ length old → lay new old ≡ new ++ drop (length new) old
  lay_fits [] old h = refl
  lay_fits (a ∷ new) [] h = absurd (not-suc-le-zero h)
  lay_fits (a ∷ new) (b ∷ old) h = ap (λ (l : List A). a ∷ l) (lay_fits new old (le_of_suc-le-suc h))

  pub take_lay : (new old : List A) → length new ≤ length old → take (length new) (lay new old) ≡ new
  take_lay [] old h = refl
  take_lay (a ∷ new) [] h = absurd (not-suc-le-zero h)
  take_lay (a ∷ new) (b ∷ old) h = ap (λ (l : List A). a ∷ l) (take_lay new old (le_of_suc-le-suc h))

  -- what does not fit is cut off
  pub lay_full : (new more old : List A) → length new ≡ length old → lay (new ++ more) old ≡ lay new old
  lay_full [] [] old e = refl
  lay_full [] (a ∷ more) [] e = refl
  lay_full [] (a ∷ more) (b ∷ old) e = absurd (omega (arith, e))
  lay_full (a ∷ new) more [] e = refl
  lay_full (a ∷ new) more (b ∷ old) e = ap (λ (l : List A). a ∷ l) (lay_full new more old (omega (arith, e)))

module _ {ℓ κ} {A : Type ℓ} (R : A → A → Type κ) where
  pub pairwise_filter : (t : A → Bool) (l : List A) → Pairwise R l → Pairwise R (filter t l)
  pairwise_filter t [] p = tt
  pairwise_filter t (a ∷ l) p = go (t a) (pairwise_filter t l p.1)
    where
      go : (b : Bool) → Pairwise R (filter t l) → Pairwise R (put b a (filter t l))
      go true q = (λ b m. p.0 b (filter_from t l m).0, q)
      go false q = q

  -- of two lists one after the other: what holds in each, and between the two
  pub pairwise_left : (s t : List A) → Pairwise R (s ++ t) → Pairwise R s
  pairwise_left [] t p = tt
  pairwise_left (a ∷ s) t p = (every_left t p.0, pairwise_left s t p.1)

  pub pairwise_right : (s t : List A) → Pairwise R (s ++ t) → Pairwise R t
  pairwise_right [] t p = p
  pairwise_right (a ∷ s) t p = pairwise_right s t p.1

  pub pairwise_between : (s t : List A) → Pairwise R (s ++ t) → Every (λ a. Every (R a) t) s
  pairwise_between [] t p = every_none (λ a. Every (R a) t)
  pairwise_between (a ∷ s) t p = every_more (every_right s p.0) (pairwise_between s t p.1)

  pub pairwise_append : (s t : List A) → Pairwise R s → Pairwise R t → Every (λ a. Every (R a) t) s → Pairwise R (s ++ t)
  pairwise_append [] t p q e = q
  pairwise_append (a ∷ s) t p q e = (every_both p.0 (every_first e), pairwise_append s t p.1 q (every_rest e))

  pub pairwise_last : (l : List A) (x : A) → Pairwise R l → Every (λ a. R a x) l → Pairwise R (l ++ x ∷ [])
  pairwise_last l x p e = pairwise_append l (x ∷ []) p (every_none (R x), tt) (λ a m. every_more (e a m) (every_none (R a)))
