-- Laws of the first member of a list that fails a test.
-- Assumes nothing.
use Prim.Native.Nat.{ℕ, suc, ◌≤◌, ◌<◌}
use Rattle.std.specs.Prelude.{◌≡◌, Bool, not, ◌&&◌, ◌||◌, get_or, drop, ltb, Option, Some, None}
use Rattle.std.proofs.Math.Path.{refl, sym, ap}
use Rattle.std.proofs.Common.{◌∙◌, ⊎_elim, length-append, drop-cons, ltb-true, ltb-false, lt-ltb, le-ltb}
use Rattle.std.proofs.Math.Bool.{true, false}
use mathlib.Core.List.{List, [], ◌∷◌, ◌++◌}
use native.Mathlib.Omega.{arith}
use Rattle.std.proofs.Math.ListN.{length}
use Rattle.base.specs.paper.Bools.{choose}
use Rattle.base.specs.Bools.{choose_true, choose_false, decide, clash}
use Rattle.base.specs.paper.Lists.{Every, all, any}
use Rattle.base.specs.Lists.{every_none, every_more, every_first, every_rest}
use Rattle.judging.specs.paper.Failing.{first_failing, First}

-- the place of the first member that fails the test, where one does
abbrev pub failing_at : {A : Type 0} → (A → Bool) → List A → Option ℕ
failing_at t l = choose (ltb (first_failing t l) (length l)) (Some (first_failing t l)) None

module _ {A : Type 0} where
  module _ (test : A → Bool) where
    pub failing_none : first_failing test [] ≡ 0
    unfolding first_failing
    failing_none = refl

    pub failing_later : (a : A) (l : List A) → test a ≡ true → first_failing test (a ∷ l) ≡ suc (first_failing test l)
    unfolding first_failing
    failing_later a l e = choose_true (suc (first_failing test l)) 0 e

    pub failing_now : (a : A) (l : List A) → test a ≡ false → first_failing test (a ∷ l) ≡ 0
    unfolding first_failing
    failing_now a l e = choose_false (suc (first_failing test l)) 0 e

    pub failing_most : (l : List A) → first_failing test l ≤ length l
    unfolding first_failing
    failing_most [] = omega arith
    failing_most (a ∷ l) = go (test a) (failing_most l)
      where
        go : (r : Bool) → first_failing test l ≤ length l → choose r (suc (first_failing test l)) 0 ≤ suc (length l)
        go true h = omega arith
        go false h = omega arith

    -- in words: the members before it pass, and it fails itself
    pub failing_first : (l : List A) → first_failing test l < length l → First test l (first_failing test l)
    unfolding first_failing
    failing_first [] h = absurd (omega arith)
    failing_first (a ∷ l) h = go (test a) refl h (failing_first l)
      where
        go : (r : Bool) → test a ≡ r → choose r (suc (first_failing test l)) 0 < suc (length l) → (first_failing test l < length l → First test l (first_failing test l))
            → First test (a ∷ l) (choose r (suc (first_failing test l)) 0)
        go true e k ih =
            let f = ih (omega arith) in
            record {
              before = a ∷ f.before;
              this = f.this;
              behind = f.behind;
              split = ap (λ (x : List A). a ∷ x) f.split;
              place = ap suc f.place;
              passed = every_more e f.passed;
              fails = f.fails;
            }
        go false e k ih =
            record { before = []; this = a; behind = l; split = refl; place = refl; passed = every_none (λ (x : A). test x ≡ true); fails = e }

    -- and only there
    pub first_failing_lem : (l : List A) (i : ℕ) → First test l i → (first_failing test l ≡ i) × (i < length l)
    first_failing_lem l i f = (
      ap (first_failing test) f.split ∙ go f.before f.passed ∙ f.place,
      omega (arith, ap length f.split, length-append f.before (f.this ∷ f.behind), f.place),
    )
      where
        go : (s : List A) → Every (λ (a : A). test a ≡ true) s → first_failing test (s ++ f.this ∷ f.behind) ≡ length s
        go [] e = failing_now f.this f.behind f.fails
        go (a ∷ s) e = failing_later a (s ++ f.this ∷ f.behind) (every_first e) ∙ ap suc (go s (every_rest e))

    pub failing_all : (l : List A) → length l ≤ first_failing test l → all test l ≡ true
    unfolding first_failing
    failing_all [] h = refl
    failing_all (a ∷ l) h = go (test a) h (failing_all l)
      where
        go : (r : Bool) → suc (length l) ≤ choose r (suc (first_failing test l)) 0 → (length l ≤ first_failing test l → all test l ≡ true) → (r && all test l) ≡ true
        go true k ih = ih (omega arith)
        go false k ih = absurd (omega arith)

    pub failing_not_all : (l : List A) → first_failing test l < length l → all test l ≡ false
    unfolding first_failing
    failing_not_all [] h = absurd (omega arith)
    failing_not_all (a ∷ l) h = go (test a) h (failing_not_all l)
      where
        go : (r : Bool) → choose r (suc (first_failing test l)) 0 < suc (length l) → (first_failing test l < length l → all test l ≡ false) → (r && all test l) ≡ false
        go true k ih = ih (omega arith)
        go false k ih = refl

    pub all_failing : (l : List A) → all test l ≡ true → length l ≤ first_failing test l
    all_failing l e =
        ⊎_elim (λ (h : ltb (first_failing test l) (length l) ≡ true). clash e (failing_not_all l (ltb-true (first_failing test l) (length l) h)))
        (λ (h : ltb (first_failing test l) (length l) ≡ false). ltb-false (first_failing test l) (length l) h) (decide (ltb (first_failing test l) (length l)))

    -- some member fails exactly if not all pass
    pub not_all_any : (l : List A) (r : Bool) → all test l ≡ r → any (λ (a : A). not (test a)) l ≡ not r
    not_all_any [] r e = ap not e
    not_all_any (a ∷ l) r e = go (test a) e (not_all_any l)
      where
        go : (q : Bool) → (q && all test l) ≡ r → ((p : Bool) → all test l ≡ p → any (λ (b : A). not (test b)) l ≡ not p) → (not q || any (λ (b : A). not (test b)) l) ≡ not r
        go true k ih = ih r k
        go false k ih = ap not k

    -- the same of what is left of a list behind its first i members
    pub failing_rest : (l : List A) (d : A) (i : ℕ) → i < length l → test (get_or l i d) ≡ true → first_failing test (drop i l) ≡ suc (first_failing test (drop (suc i) l))
    failing_rest l d i h e = ap (first_failing test) (drop-cons l i d h) ∙ failing_later (get_or l i d) (drop (suc i) l) e

    pub failing_here : (l : List A) (d : A) (i : ℕ) → i < length l → test (get_or l i d) ≡ false → first_failing test (drop i l) ≡ 0
    failing_here l d i h e = ap (first_failing test) (drop-cons l i d h) ∙ failing_now (get_or l i d) (drop (suc i) l) e

    pub some_fails : (l : List A) (i : ℕ) → first_failing test l ≡ i → i < length l → Some i ≡ failing_at test l
    some_fails l i e h =
        sym
        (choose_true (Some (first_failing test l)) None (lt-ltb (first_failing test l) (length l) (omega (arith, e)))
        ∙ ap Some e)

    pub none_fails : (l : List A) → length l ≤ first_failing test l → None ≡ failing_at test l
    none_fails l h = sym (choose_false (Some (first_failing test l)) None (le-ltb (first_failing test l) (length l) h))

    pub fails_some : (l : List A) (i : ℕ) → failing_at test l ≡ Some i → (first_failing test l ≡ i) × (i < length l)
    fails_some l i e = go (ltb (first_failing test l) (length l)) refl e
      where
        go : (t : Bool) → ltb (first_failing test l) (length l) ≡ t → choose t (Some (first_failing test l)) None ≡ Some i → (first_failing test l ≡ i) × (i < length l)
        go true q k = let same : first_failing test l ≡ i = cc in (same, omega (arith, same, ltb-true (first_failing test l) (length l) q))
        go false q k = let no : ◌≡◌ {A = ℕ} 0 1 = cc in absurd (omega arith)

    pub fails_none : (l : List A) → failing_at test l ≡ None → length l ≤ first_failing test l
    fails_none l e = go (ltb (first_failing test l) (length l)) refl e
      where
        go : (t : Bool) → ltb (first_failing test l) (length l) ≡ t → choose t (Some (first_failing test l)) None ≡ None → length l ≤ first_failing test l
        go true q k = let no : ◌≡◌ {A = ℕ} 0 1 = cc in absurd (omega arith)
        go false q k = ltb-false (first_failing test l) (length l) q
