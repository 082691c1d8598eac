-- Members of mapped lists and of lists laid flat, and sums over lists.
-- Assumes nothing.
use Rattle.std.specs.Prelude.{◌≡◌, refl, ◌⊎◌, List, [], ◌∷◌, ◌++◌, map, ℕ, suc, ◌+◌, ◌≤◌, length}
use Rattle.std.proofs.Common.{sym, ap, subst, ◌∙◌, inl, inr, append_assoc, arith}
use mathlib.Core.List.Memᴰ
use Rattle.base.specs.paper.Lists.{◌∈◌, Every, flat, sum}
use Rattle.base.specs.Lists.{Some, here, there, ∈_left, ∈_right, ∈_split}

pub ∈_map : {A B : Type 0} (f : A → B) {a : A} {l : List A} → a ∈ l → f a ∈ map f l
∈_map f m = Memᴰ.map f m

pub map_∈ : {A B : Type 0} (f : A → B) {b : B} (l : List A) → b ∈ map f l → Some (λ (a : A). b ≡ f a) l
map_∈ f l m =
    let o = Memᴰ.of_map f l m in
    (o.0, o.1, sym o.2)

pub every_map : {A B : Type 0} (P : B → Type 0) (f : A → B) (l : List A) → Every (λ (a : A). P (f a)) l → Every P (map f l)
every_map P f l h b m =
    let o = map_∈ f l m in
    subst P (sym o.2) (h o.0 o.1)

pub map_every : {A B : Type 0} (P : B → Type 0) (f : A → B) (l : List A) → Every P (map f l) → Every (λ (a : A). P (f a)) l
map_every P f l h a m = h (f a) (∈_map f m)

module _ {A B : Type 0} (f : B → List A) where
  pub ∈_flat : {a : A} {b : B} (l : List B) → b ∈ l → a ∈ f b → a ∈ flat f l
  ∈_flat [] m k = absurd (Memᴰ.not-nil m)
  ∈_flat {a} {b} (c ∷ l) m k = go (λ n. ∈_flat l n k) (Memᴰ.cases_cons m)
    where
      go : (b ∈ l → a ∈ flat f l) → (b ≡ c) ⊎ (b ∈ l) → a ∈ f c ++ flat f l
      go ih (inl e) = ∈_left (flat f l) (subst (λ (x : B). a ∈ f x) e k)
      go ih (inr n) = ∈_right (f c) (ih n)

  pub flat_∈ : {a : A} (l : List B) → a ∈ flat f l → Some (λ (b : B). a ∈ f b) l
  flat_∈ [] m = absurd (Memᴰ.not-nil m)
  flat_∈ {a} (c ∷ l) m = go (flat_∈ l) (∈_split (f c) m)
    where
      go : (a ∈ flat f l → Some (λ (b : B). a ∈ f b) l) → (a ∈ f c) ⊎ (a ∈ flat f l) → Some (λ (b : B). a ∈ f b) (c ∷ l)
      go ih (inl k) = (c, here, k)
      go ih (inr k) = ((ih k).0, there (ih k).1, (ih k).2)

  pub flat_append : (s t : List B) → flat f (s ++ t) ≡ flat f s ++ flat f t
  flat_append [] t = refl
  flat_append (b ∷ s) t = ap (λ (l : List A). f b ++ l) (flat_append s t) ∙ sym (append_assoc (f b) (flat f s) (flat f t))

module _ {A : Type 0} (w : A → ℕ) where
  pub sum_append : (s t : List A) → sum w (s ++ t) ≡ sum w s + sum w t
  sum_append [] t = omega arith
  sum_append (a ∷ s) t = omega (arith, sum_append s t)

  -- a member weighs no more than all together
  pub sum_part : {a : A} (l : List A) → a ∈ l → w a ≤ sum w l
  sum_part [] m = absurd (Memᴰ.not-nil m)
  sum_part {a} (b ∷ l) m = go (sum_part l) (Memᴰ.cases_cons m)
    where
      go : (a ∈ l → w a ≤ sum w l) → (a ≡ b) ⊎ (a ∈ l) → w a ≤ w b + sum w l
      go ih (inl e) = omega (arith, ap w e)
      go ih (inr k) = omega (arith, ih k)

pub sum_same : {A : Type 0} (u w : A → ℕ) (l : List A) → ((a : A) → u a ≡ w a) → sum u l ≡ sum w l
sum_same u w [] h = refl
sum_same u w (a ∷ l) h = omega (arith, h a, sum_same u w l h)

pub sum_map : {A B : Type 0} (w : B → ℕ) (f : A → B) (l : List A) → sum w (map f l) ≡ sum (λ (a : A). w (f a)) l
sum_map w f [] = refl
sum_map w f (a ∷ l) = ap (λ (n : ℕ). w (f a) + n) (sum_map w f l)

-- where each weighs 1, the sum is the number of members
pub sum_ones : {A : Type 0} (l : List A) → sum (λ (a : A). 1) l ≡ length l
sum_ones [] = refl
sum_ones (a ∷ l) = omega (arith, sum_ones l)

pub sum_less : {A : Type 0} (u w : A → ℕ) (l : List A) → ((a : A) → u a ≤ w a) → sum u l ≤ sum w l
sum_less u w [] h = omega arith
sum_less u w (a ∷ l) h = omega (arith, h a, sum_less u w l h)

pub sum_add : {A : Type 0} (u w : A → ℕ) (l : List A) → sum (λ (a : A). u a + w a) l ≡ sum u l + sum w l
sum_add u w [] = refl
sum_add u w (a ∷ l) = omega (arith, sum_add u w l)

pub sum_none : {A : Type 0} (l : List A) → sum (λ (a : A). 0) l ≡ 0
sum_none [] = refl
sum_none (a ∷ l) = omega (arith, sum_none l)

pub sum_sucs : {A : Type 0} (w : A → ℕ) (l : List A) → sum (λ (a : A). suc (w a)) l ≡ length l + sum w l
sum_sucs w [] = refl
sum_sucs w (a ∷ l) = omega (arith, sum_sucs w l)
