-- Laws of the smallest of a family, over any order `inside`: what inserting keeps, and that it keeps exactly the smallest.
-- Assumes nothing.
use Rattle.std.specs.Prelude.{◌≡◌, Bool, ◌↔◌, ◌⊎◌}
use Rattle.std.proofs.Math.Path.{refl}
use Rattle.std.proofs.Common.{sym, ap, subst, ◌∙◌, inl}
use Rattle.std.proofs.Math.Bool.{true, false, not}
use Rattle.std.proofs.Math.Logic.{inr, ⊎_elim}
use mathlib.Core.List.Memᴰ
use mathlib.Core.List.{List, [], ◌∷◌, ◌++◌, foldl}
use Prim.Native.Nat.{suc, ◌+◌, ◌≤◌}
use native.Mathlib.Omega.{arith}
use Rattle.std.proofs.lemmas.Bool.{not-true}
use Rattle.std.proofs.Math.ListN.{length, length-append}
use Rattle.base.specs.paper.Bools.{choose}
use Rattle.base.specs.Bools.{clash}
use Rattle.base.specs.paper.Least as defs
use Rattle.base.specs.paper.Lists.{◌∈◌, Every, any, filter, Pairwise, Once}
use Rattle.base.specs.Lists.{Some, here, there, ∈_left, ∈_right, ∈_split, any_some, some_any}
use Rattle.base.specs.Parts.{filter_has, filter_from, filter_length, pairwise_filter, pairwise_last}

module _ {ℓ} {A : Type ℓ} (inside : A → A → Bool) where
  abbrev insert : List A → A → List A
  insert = defs.insert inside

  abbrev smallest : List A → List A
  smallest = defs.smallest inside

  -- x is in the family, and whatever of the family is inside x is x itself
  abbrev pub LeastOf {κ} : (A → Type κ) → A → Type (ℓ ⊔ κ)
  LeastOf P x = P x × ((y : A) → P y → inside y x ≡ true → y ≡ x)

  -- neither is inside the other
  abbrev pub Separate : A → A → Type 0
  Separate a b = (inside a b ≡ false) × (inside b a ≡ false)

  -- none is inside another
  abbrev pub Apart : List A → Type ℓ
  Apart l = Pairwise Separate l

  -- the kept ones are of the family, each of the family has a kept one inside it, and none is inside another
  pub record Least {κ} (P : A → Type κ) (kept : List A) : Type (ℓ ⊔ κ) where
    pub from : Every P kept
    pub under : (x : A) → P x → Some (λ k. inside k x ≡ true) kept
    pub apart : Apart kept

  pub least_same {κ μ} : {P : A → Type κ} {Q : A → Type μ} {kept : List A} → ((x : A) → P x ↔ Q x) → Least P kept → Least Q kept
  least_same same l = record {
    from = λ x m. (same x).0 (l.from x m);
    under = λ x q. l.under x ((same x).1 q);
    apart = l.apart;
  }

  -- at most one more is kept
  pub length_insert : (kept : List A) (s : A) → length (insert kept s) ≤ suc (length kept)
  unfolding defs.insert
  length_insert kept s = go (any (λ k. inside k s) kept)
    where
      go : (t : Bool) → length (choose t kept (filter (λ k. not (inside s k)) kept ++ s ∷ [])) ≤ suc (length kept)
      go true = omega arith
      go false =
          omega
          (arith, length-append (filter (λ k. not (inside s k)) kept) (s ∷ []), filter_length (λ k. not (inside s k)) kept)

  pub length_inserted : (l kept : List A) → length (foldl insert kept l) ≤ length kept + length l
  length_inserted [] kept = omega arith
  length_inserted (s ∷ l) kept = omega (arith, length_inserted l (insert kept s), length_insert kept s)

  module _
      (reflexive : (a : A) → inside a a ≡ true)
      (transitive : (a b c : A) → inside a b ≡ true → inside b c ≡ true → inside a c ≡ true) where
    apart_once : (l : List A) → Apart l → Once l
    apart_once [] p = tt
    apart_once (a ∷ l) p = (λ b m e. clash (subst (λ (z : A). inside a z ≡ true) e (reflexive a)) (p.0 b m).0, apart_once l p.1)

    -- of two members one is inside the other only if they are one
    apart_same : (l : List A) {k x : A} → Apart l → k ∈ l → x ∈ l → inside k x ≡ true → k ≡ x
    apart_same [] p m n h = absurd (Memᴰ.not-nil m)
    apart_same (a ∷ l) {k} {x} p m n h = go (Memᴰ.cases_cons m) (Memᴰ.cases_cons n) (λ i j. apart_same l p.1 i j h)
      where
        go : (k ≡ a) ⊎ (k ∈ l) → (x ≡ a) ⊎ (x ∈ l) → (k ∈ l → x ∈ l → k ≡ x) → k ≡ x
        go (inl d) (inl e) f = d ∙ sym e
        go (inl d) (inr j) f = clash (subst (λ (z : A). inside z x ≡ true) d h) (p.0 x j).0
        go (inr i) (inl e) f = clash (subst (λ (z : A). inside k z ≡ true) e h) (p.0 k i).1
        go (inr i) (inr j) f = f i j

    -- inserting adds one to the family
    pub insert_least {κ} : {P : A → Type κ} (kept : List A) (s : A) → Least P kept → Least (λ x. P x ⊎ (x ≡ s)) (insert kept s)
    unfolding defs.insert
    insert_least {P = P} kept s least = go (any (λ k. inside k s) kept) refl
      where
        rest : List A
        rest = filter (λ k. not (inside s k)) kept

        covered : Some (λ k. inside k s ≡ true) kept → (x : A) → P x ⊎ (x ≡ s) → Some (λ k. inside k x ≡ true) kept
        covered w x (inl p) = least.under x p
        covered w x (inr e) = (w.0, w.1, subst (λ (z : A). inside w.0 z ≡ true) (sym e) w.2)

        split : {x : A} → x ∈ rest ++ s ∷ [] → (x ∈ rest) ⊎ (x ≡ s)
        split m = ⊎_elim (λ n. inl n) (λ n. inr (Memᴰ.eq_of_singleton n)) (∈_split rest m)

        stays : (x k : A) → k ∈ kept → inside k x ≡ true → (t : Bool) → inside s k ≡ t → Some (λ k. inside k x ≡ true) (rest ++ s ∷ [])
        stays x k m h true e = (s, ∈_right rest here, transitive s k x e h)
        stays x k m h false e =
            (k, ∈_left (s ∷ []) (filter_has (λ k. not (inside s k)) kept m (ap not e)), h)

        go : (t : Bool) → any (λ k. inside k s) kept ≡ t → Least (λ x. P x ⊎ (x ≡ s)) (choose t kept (rest ++ s ∷ []))
        go true e = record {
          from = λ x m. inl (least.from x m);
          under = covered (any_some (λ k. inside k s) kept e);
          apart = least.apart;
        }
        go false e = record {
          from = λ x m. ⊎_elim (λ n. inl (least.from x (filter_from (λ k. not (inside s k)) kept n).0)) (λ i. inr i) (split m);
          under = λ x w.
              ⊎_elim
              (λ (p : P x). let u = least.under x p in stays x u.0 u.1 u.2 (inside s u.0) refl)
              (λ (i : x ≡ s). (s, ∈_right rest here, subst (λ (z : A). inside s z ≡ true) (sym i) (reflexive s)))
              w;
          apart =
              pairwise_last Separate rest s (pairwise_filter Separate (λ k. not (inside s k)) kept least.apart)
              (λ k m. (missed k (filter_from (λ k. not (inside s k)) kept m).0 (inside k s) refl, not-true (inside s k) (filter_from (λ k. not (inside s k)) kept m).1));
        }
          where
            missed : (k : A) → k ∈ kept → (t : Bool) → inside k s ≡ t → t ≡ false
            missed k m true i = clash (some_any (λ k. inside k s) kept (k, m, i)) e
            missed k m false i = refl

    -- and so does inserting the members of a list
    pub inserted_least : {P : A → Type ℓ} (l kept : List A) → Least P kept → Least (λ x. P x ⊎ (x ∈ l)) (foldl insert kept l)
    inserted_least {P = P} [] kept least = least_same (λ x. (λ p. inl p, λ w. ⊎_elim (λ p. p) (λ (m : x ∈ []). absurd (Memᴰ.not-nil m)) w)) least
    inserted_least {P = P} (s ∷ l) kept least =
        least_same (λ x. (to x, back x)) (inserted_least {P = λ x. P x ⊎ (x ≡ s)} l (insert kept s) (insert_least kept s least))
      where
        to : (x : A) → (P x ⊎ (x ≡ s)) ⊎ (x ∈ l) → P x ⊎ (x ∈ s ∷ l)
        to x (inl (inl p)) = inl p
        to x (inl (inr e)) = inr (Memᴰ.head e)
        to x (inr m) = inr (there m)

        back : (x : A) → P x ⊎ (x ∈ s ∷ l) → (P x ⊎ (x ≡ s)) ⊎ (x ∈ l)
        back x (inl p) = inl (inl p)
        back x (inr m) = ⊎_elim (λ (e : x ≡ s). inl (inr e)) (λ (n : x ∈ l). inr n) (Memᴰ.cases_cons m)

    pub smallest_least : (l : List A) → Least (λ x. x ∈ l) (smallest l)
    unfolding defs.smallest
    smallest_least l =
        least_same (λ x. (λ w. ⊎_elim (λ (m : x ∈ []). absurd (Memᴰ.not-nil m)) (λ (m : x ∈ l). m) w, λ m. inr m))
        (inserted_least l [] none)
      where
        none : Least (λ x. x ∈ []) []
        none = record {
          from = λ x m. m;
          under = λ x m. absurd (Memᴰ.not-nil m);
          apart = tt;
        }

    -- none is named twice
    pub least_once {κ} : {P : A → Type κ} {kept : List A} → Least P kept → Once kept
    least_once {kept = kept} least = apart_once kept least.apart

    module _ (antisymmetric : (a b : A) → inside a b ≡ true → inside b a ≡ true → a ≡ b) where
      -- the kept ones are exactly the smallest of the family
      pub least_members {κ} : {P : A → Type κ} {kept : List A} → Least P kept → (x : A) → x ∈ kept ↔ LeastOf P x
      least_members {P = P} {kept = kept} least x = (to, back)
        where
          to : x ∈ kept → LeastOf P x
          to m = (least.from x m, λ y p h. below y h (least.under y p))
            where
              below : (y : A) → inside y x ≡ true → Some (λ k. inside k y ≡ true) kept → y ≡ x
              below y h u =
                  let e : u.0 ≡ x = apart_same kept least.apart u.1 m (transitive u.0 y x u.2 h) in
                  antisymmetric y x h (subst (λ (z : A). inside z y ≡ true) e u.2)

          back : LeastOf P x → x ∈ kept
          back w =
              let u = least.under x w.0 in
              subst (λ (z : A). z ∈ kept) (w.1 u.0 (least.from u.0 u.1) u.2) u.1

      -- inserting the members of a list keeps exactly its smallest members, once each
      pub smallest_members : (l : List A) (x : A) → x ∈ smallest l ↔ LeastOf (λ y. y ∈ l) x
      smallest_members l x = least_members (smallest_least l) x

      pub smallest_once : (l : List A) → Once (smallest l)
      smallest_once l = least_once (smallest_least l)
