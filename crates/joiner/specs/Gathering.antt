-- Gathering: the sets of a list that no kept set and no later one is inside, one after the other. What is gathered is never dropped, and
-- in the end it is the smallest sets.
-- Assumes nothing.
use Rattle.std.specs.Prelude.{◌≡◌, refl, Bool, true, false, ◌⊎◌, ℕ, ◌≤◌, ◌<◌, length, Option, MatchOption}
use Rattle.std.proofs.Common.{sym, subst, ◌∙◌, inl, inr, arith, length-append}
use Rattle.std.proofs.Math.Path.{ap}
use mathlib.Core.List.Memᴰ
use mathlib.Core.List.{List, [], ◌∷◌, ◌++◌, append-nil, append_assoc}
use Rattle.base.specs.paper.Bools.{choose}
use Rattle.base.specs.Bools.{clash, choose_true, choose_false}
use Rattle.base.specs.paper.Lists.{◌∈◌, Every, any}
use Rattle.base.specs.Lists.{Some, here, ∈_left, ∈_right, ∈_split, any_some, some_any, every_rest, every_both}
use Rattle.base.specs.Parts.{pairwise_last}
use Rattle.base.specs.Least
use Rattle.sets.specs.paper.Sets.{inside}
use Rattle.sets.specs.SetLaws.{inside_reflexive, inside_transitive}
use Rattle.sets.specs.KeptLaws.{Keeps}
use Rattle.kept.specs.Agreed.{AtFront}

-- A set joins unless a kept set is inside it, or a later one: one of the list, or of `behind`, which comes after the list.
unfoldable pub gathered : List ℕ → List ℕ → List ℕ → List ℕ
gathered behind kept [] = kept
gathered behind kept (s ∷ l) = gathered behind (choose (any (λ k. inside k s) (kept ++ (l ++ behind))) kept (kept ++ s ∷ [])) l

-- r is the number of the kept sets, which stand in the front of the list, unless they outnumber its entries
abbrev pub Fitted : List ℕ → Option ℕ → List ℕ → Type 0
Fitted kept r after = MatchOption r (length after < length kept) (λ n. AtFront kept n after)

-- the same of some list that has the smallest sets of both lists
pub record FittedOf (left right : List ℕ) (r : Option ℕ) (after : List ℕ) : Type 0 where
  pub kept : List ℕ
  pub keeps : Keeps (λ s. s ∈ left ++ right) kept
  pub fitted : Fitted kept r after

module _ (behind kept : List ℕ) (s : ℕ) (l : List ℕ) where
  pub gathered_stays : any (λ k. inside k s) (kept ++ (l ++ behind)) ≡ true → gathered behind kept (s ∷ l) ≡ gathered behind kept l
  unfolding gathered
  gathered_stays e = ap (λ (k : List ℕ). gathered behind k l) (choose_true kept (kept ++ s ∷ []) e)

  pub gathered_joins : any (λ k. inside k s) (kept ++ (l ++ behind)) ≡ false → gathered behind kept (s ∷ l) ≡ gathered behind (kept ++ s ∷ []) l
  unfolding gathered
  gathered_joins e = ap (λ (k : List ℕ). gathered behind k l) (choose_false kept (kept ++ s ∷ []) e)

-- nothing is dropped
pub gathered_length : (behind l kept : List ℕ) → length kept ≤ length (gathered behind kept l)
unfolding gathered
gathered_length behind [] kept = omega arith
gathered_length behind (s ∷ l) kept = go (any (λ k. inside k s) (kept ++ (l ++ behind))) (gathered_length behind l)
  where
    go : (t : Bool) → ((k : List ℕ) → length k ≤ length (gathered behind k l)) → length kept ≤ length (gathered behind (choose t kept (kept ++ s ∷ [])) l)
    go true more = more kept
    go false more = omega (arith, more (kept ++ s ∷ []), length-append kept (s ∷ []))

-- two lists one after the other
pub gathered_append : (behind p q kept : List ℕ) → gathered behind kept (p ++ q) ≡ gathered behind (gathered (q ++ behind) kept p) q
unfolding gathered
gathered_append behind [] q kept = refl
gathered_append behind (s ∷ p) q kept =
    ap (λ (m : List ℕ). gathered behind (choose (any (λ k. inside k s) (kept ++ m)) kept (kept ++ s ∷ [])) (p ++ q)) (append_assoc p q behind)
    ∙ gathered_append behind p q (choose (any (λ k. inside k s) (kept ++ (p ++ (q ++ behind)))) kept (kept ++ s ∷ []))

-- ---- what is gathered is the smallest

-- the kept ones and the later ones are of the family, each of the family has one of them inside it, no kept one is inside another, and no
-- later one is inside a kept one
record Covered (P : ℕ → Type 0) (kept later : List ℕ) : Type 0 where
  from : Every P kept
  ahead : Every P later
  under : (x : ℕ) → P x → Some (λ k. inside k x ≡ true) (kept ++ later)
  apart : Least.Apart inside kept
  below : Every (λ k. Every (λ t. inside t k ≡ false) later) kept

unmet : (t : ℕ → Bool) (l : List ℕ) → any t l ≡ false → Every (λ k. t k ≡ false) l
unmet t l e k m = go (t k) refl
  where
    go : (b : Bool) → t k ≡ b → b ≡ false
    go true i = clash (some_any t l (k, m, i)) e
    go false i = refl

module _ {P : ℕ → Type 0} {kept : List ℕ} {set : ℕ} {later : List ℕ} (covered : Covered P kept (set ∷ later)) where
  covered_stays : any (λ k. inside k set) (kept ++ later) ≡ true → Covered P kept later
  covered_stays e = record {
    from = covered.from;
    ahead = every_rest covered.ahead;
    under = λ x p. let u = covered.under x p in found x u.0 u.2 (∈_split kept u.1);
    apart = covered.apart;
    below = λ k m. every_rest (covered.below k m);
  }
    where
      w : Some (λ k. inside k set ≡ true) (kept ++ later)
      w = any_some (λ k. inside k set) (kept ++ later) e

      behind : (x k : ℕ) → inside k x ≡ true → (k ≡ set) ⊎ (k ∈ later) → Some (λ k. inside k x ≡ true) (kept ++ later)
      behind x k h (inl i) =
          (w.0, w.1, inside_transitive w.0 set x w.2 (subst (λ (z : ℕ). inside z x ≡ true) i h))
      behind x k h (inr m) = (k, ∈_right kept m, h)

      found : (x k : ℕ) → inside k x ≡ true → (k ∈ kept) ⊎ (k ∈ set ∷ later) → Some (λ k. inside k x ≡ true) (kept ++ later)
      found x k h (inl m) = (k, ∈_left later m, h)
      found x k h (inr m) = behind x k h (Memᴰ.cases_cons m)

  covered_joins : any (λ k. inside k set) (kept ++ later) ≡ false → Covered P (kept ++ set ∷ []) later
  covered_joins e = record {
    from = every_both covered.from (λ x m. subst P (sym (Memᴰ.eq_of_singleton m)) (covered.ahead set here));
    ahead = every_rest covered.ahead;
    under = λ x p. let u = covered.under x p in found x u.0 u.2 (∈_split kept u.1);
    apart = pairwise_last (Least.Separate inside) kept set covered.apart (λ k m. (none k (∈_left later m), covered.below k m set here));
    below =
        every_both
        (λ k m. every_rest (covered.below k m))
        (λ k m t n. subst (λ (z : ℕ). inside t z ≡ false) (sym (Memᴰ.eq_of_singleton m)) (none t (∈_right kept n)));
  }
    where
      none : Every (λ k. inside k set ≡ false) (kept ++ later)
      none = unmet (λ k. inside k set) (kept ++ later) e

      behind : (x k : ℕ) → inside k x ≡ true → (k ≡ set) ⊎ (k ∈ later) → Some (λ k. inside k x ≡ true) ((kept ++ set ∷ []) ++ later)
      behind x k h (inl i) = (set, ∈_left later (∈_right kept here), subst (λ (z : ℕ). inside z x ≡ true) i h)
      behind x k h (inr m) = (k, ∈_right (kept ++ set ∷ []) m, h)

      found : (x k : ℕ) → inside k x ≡ true → (k ∈ kept) ⊎ (k ∈ set ∷ later) → Some (λ k. inside k x ≡ true) ((kept ++ set ∷ []) ++ later)
      found x k h (inl m) = (k, ∈_left later (∈_left (set ∷ []) m), h)
      found x k h (inr m) = behind x k h (Memᴰ.cases_cons m)

covered_keeps : {P : ℕ → Type 0} (l kept : List ℕ) → Covered P kept l → Keeps P (gathered [] kept l)
unfolding gathered
covered_keeps {P} [] kept c = record {
  from = c.from;
  under = λ x p. subst (Some (λ k. inside k x ≡ true)) (append-nil kept) (c.under x p);
  apart = c.apart;
}
covered_keeps {P} (s ∷ l) kept c =
    go (any (λ k. inside k s) (kept ++ (l ++ []))) (ap (λ (m : List ℕ). any (λ k. inside k s) (kept ++ m)) (sym (append-nil l))) (covered_keeps l)
  where
    go : (t : Bool) → any (λ k. inside k s) (kept ++ l) ≡ t → ((k : List ℕ) → Covered P k l → Keeps P (gathered [] k l))
        → Keeps P (gathered [] (choose t kept (kept ++ s ∷ [])) l)
    go true e more = more kept (covered_stays c e)
    go false e more = more (kept ++ s ∷ []) (covered_joins c e)

pub gathered_keeps : (l : List ℕ) → Keeps (λ s. s ∈ l) (gathered [] [] l)
gathered_keeps l =
    covered_keeps l [] record {
      from = λ x m. absurd (Memᴰ.not-nil m);
      ahead = λ x m. m;
      under = λ x m. (x, m, inside_reflexive x);
      apart = tt;
      below = λ k m. absurd (Memᴰ.not-nil m);
    }
