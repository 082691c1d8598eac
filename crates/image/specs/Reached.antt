-- For the place of refusal 9 (paper 02, A2): the test whether an atom depends on itself says what `Depends` says.
-- Assumes nothing.
use Prim.Native.Nat.{ℕ, zero, suc, ◌+◌, ◌-◌, ◌≤◌, ◌<◌}
use Rattle.std.proofs.Common.{arith, sym, ◌∙◌}
use Rattle.std.specs.Prelude.{◌≡◌, Bool, false, ◌&&◌, ◌||◌, ◌⊎◌, ◌↔◌, List, [], ◌∷◌, length}
use Rattle.std.proofs.Math.Path.{refl, subst}
use Rattle.std.proofs.Math.Bool.{true}
use Rattle.std.proofs.Math.Logic.{inl, inr, ⊎_elim}
use mathlib.Core.List.Memᴰ
use Rattle.std.proofs.Math.Dec.{eqb}
use borrow.Author.Tests.{eqb-true, eqb-false, eq-eqb}
use Rattle.base.specs.Bools.{decide, clash, both, both_left, both_right, either, either_left, either_right}
use Rattle.base.specs.paper.Lists.{◌∈◌, Every, any}
use Rattle.base.specs.Lists.{here, there, every_none, every_more, any_some, some_any}
use Rattle.image.specs.paper.Book.{Lit, Clause, Book}
use Rattle.image.specs.paper.Loops.{Depends, direct, through, reached, on_loop}
use Rattle.image.specs.LoopLaws.{Distinct, none, more, distinct_few, Closed}

module _ (cs : List Clause) where
  -- one step
  pub record Step (p q : ℕ) : Type 0 where
    pub clause : Clause
    pub lit : Lit
    pub among : clause ∈ cs
    pub heads : clause.head ≡ p
    pub within : lit ∈ clause.body
    pub leads : lit.atom ≡ q

  step_depends : {p q : ℕ} → Step p q → Depends cs p q
  step_depends s = direct s.clause s.lit s.among s.heads s.within s.leads

  abbrev goes : ℕ → ℕ → Lit → Bool
  goes n q l = eqb l.atom q || reached cs n l.atom q

  abbrev goes_from : ℕ → ℕ → ℕ → Clause → Bool
  goes_from n p q c = eqb c.head p && any (goes n q) c.body

  pub reached_step : (n p q r : ℕ) → Step p r → (r ≡ q) ⊎ (reached cs n r q ≡ true) → reached cs (suc n) p q ≡ true
  unfolding reached
  reached_step n p q r s h =
      some_any (goes_from n p q) cs (
        s.clause,
        s.among,
        both (eqb s.clause.head p) (any (goes n q) s.clause.body) (eq-eqb s.clause.head p s.heads)
            (some_any (goes n q) s.clause.body (s.lit, s.within, arrives h)),
      )
    where
      arrives : (r ≡ q) ⊎ (reached cs n r q ≡ true) → goes n q s.lit ≡ true
      arrives (inl e) = either_left (eqb s.lit.atom q) (reached cs n s.lit.atom q) (eq-eqb s.lit.atom q (s.leads ∙ e))
      arrives (inr e) =
          either_right (eqb s.lit.atom q) (reached cs n s.lit.atom q)
          (subst (λ (x : ℕ). reached cs n x q ≡ true) (sym s.leads) e)

  pub step_reached : (n p q : ℕ) → reached cs (suc n) p q ≡ true → (r : ℕ) × Step p r × ((r ≡ q) ⊎ (reached cs n r q ≡ true))
  unfolding reached
  step_reached n p q h =
      let f = any_some (goes_from n p q) cs h in
      let c : Clause = f.0 in
      let g = any_some (goes n q) c.body (both_right (eqb c.head p) (any (goes n q) c.body) f.2) in
      let l : Lit = g.0 in (
        l.atom,
        record {
          clause = c;
          lit = l;
          among = f.1;
          heads = eqb-true c.head p (both_left (eqb c.head p) (any (goes n q) c.body) f.2);
          within = g.1;
          leads = refl;
        },
        ⊎_elim (λ (e : eqb l.atom q ≡ true). inl (eqb-true l.atom q e)) (λ (e : reached cs n l.atom q ≡ true). inr e)
            (either (eqb l.atom q) (reached cs n l.atom q) g.2),
      )

  pub reached_depends : (n p q : ℕ) → reached cs n p q ≡ true → Depends cs p q
  unfolding reached
  reached_depends zero p q h = clash h refl
  reached_depends (suc n) p q h =
      let s = step_reached n p q h in
      ⊎_elim (λ (e : s.0 ≡ q). subst (Depends cs p) e (step_depends s.1))
      (λ (e : reached cs n s.0 q ≡ true). through (step_depends s.1) (reached_depends n s.0 q e)) s.2

  -- ---- a path, by the atoms that its steps go out from

  pub data Path : ℕ → ℕ → List ℕ → Type 0 where
    one : {p q : ℕ} → Step p q → Path p q (p ∷ [])
    more_steps : {p r q : ℕ} {l : List ℕ} → Step p r → Path r q l → Path p q (p ∷ l)

  path_reached : {p q : ℕ} {l : List ℕ} → Path p q l → reached cs (length l) p q ≡ true
  path_reached (one s) = reached_step 0 _ _ _ s (inl refl)
  path_reached (more_steps {l = l} s t) = reached_step (length l) _ _ _ s (inr (path_reached t))

  -- the rest of a path from one of its atoms on
  record Rest (p q : ℕ) (l : List ℕ) : Type 0 where
    atoms : List ℕ
    path : Path p q atoms
    distinct : Distinct atoms

  rest_from : {r q : ℕ} {l : List ℕ} (p : ℕ) → p ∈ l → Path r q l → Distinct l → Rest p q l
  rest_from {q = q} p m (one {p = r} s) d =
      ⊎_elim (λ (e : p ≡ r). record { atoms = r ∷ []; path = subst (λ (x : ℕ). Path x q (r ∷ [])) (sym e) (one s); distinct = d })
      (λ (k : p ∈ []). absurd (Memᴰ.not-nil k)) (Memᴰ.cases_cons m)
  rest_from {q = q} p m (more_steps {p = r} {l = l} s t) (more out d) =
      ⊎_elim (λ (e : p ≡ r). record { atoms = r ∷ l; path = subst (λ (x : ℕ). Path x q (r ∷ l)) (sym e) (more_steps s t); distinct = more out d })
      (λ (k : p ∈ l). let f = rest_from p k t d in record { atoms = f.atoms; path = f.path; distinct = f.distinct }) (Memᴰ.cases_cons m)

  -- is the number in the list?
  found : (p : ℕ) (l : List ℕ) → (p ∈ l) ⊎ (p ∈ l → ⊥)
  found p [] = inr (λ m. absurd (Memᴰ.not-nil m))
  found p (a ∷ l) = ⊎_elim (λ (e : eqb p a ≡ true). inl (subst (λ (x : ℕ). x ∈ a ∷ l) (sym (eqb-true p a e)) here)) (λ (e : eqb p a ≡ false). later (eqb-false p a e) (found p l)) (decide (eqb p a))
    where
      later : (p ≡ a → ⊥) → (p ∈ l) ⊎ (p ∈ l → ⊥) → (p ∈ a ∷ l) ⊎ (p ∈ a ∷ l → ⊥)
      later n (inl m) = inl (there m)
      later n (inr h) = inr (λ m. ⊎_elim n h (Memᴰ.cases_cons m))

  -- a path that passes no atom twice
  record Simple (p q : ℕ) : Type 0 where
    atoms : List ℕ
    path : Path p q atoms
    distinct : Distinct atoms

  one_simple : {p q : ℕ} → Step p q → Simple p q
  one_simple s = record { atoms = _; path = one s; distinct = more (λ m. absurd (Memᴰ.not-nil m)) none }

  step_simple : {p r q : ℕ} → Step p r → Simple r q → Simple p q
  step_simple {p} s t =
      ⊎_elim (λ (m : p ∈ t.atoms). let f = rest_from p m t.path t.distinct in record { atoms = f.atoms; path = f.path; distinct = f.distinct })
      (λ (out : p ∈ t.atoms → ⊥). record { atoms = p ∷ t.atoms; path = more_steps s t.path; distinct = more out t.distinct }) (found p t.atoms)

  simple_behind : {p r q : ℕ} {l : List ℕ} → Path p r l → Simple r q → Simple p q
  simple_behind (one s) t = step_simple s t
  simple_behind (more_steps s u) t = step_simple s (simple_behind u t)

  depends_simple : {p q : ℕ} → Depends cs p q → Simple p q
  depends_simple (direct c l m e k f) = one_simple (record { clause = c; lit = l; among = m; heads = e; within = k; leads = f })
  depends_simple (through d e) = let s = depends_simple d in simple_behind s.path (depends_simple e)

  -- more steps reach no less
  reached_more : (n p q : ℕ) → reached cs n p q ≡ true → reached cs (suc n) p q ≡ true
  unfolding reached
  reached_more zero p q h = clash h refl
  reached_more (suc n) p q h =
      let s = step_reached n p q h in
      reached_step (suc n) p q s.0 s.1 (⊎_elim (λ (e : s.0 ≡ q). inl e) (λ (e : reached cs n s.0 q ≡ true). inr (reached_more n s.0 q e)) s.2)

  reached_up : (k n p q : ℕ) → reached cs n p q ≡ true → reached cs (k + n) p q ≡ true
  reached_up zero n p q h = subst (λ (m : ℕ). reached cs m p q ≡ true) (let e : n ≡ 0 + n = omega arith in e) h
  reached_up (suc k) n p q h = subst (λ (m : ℕ). reached cs m p q ≡ true) (let e : suc (k + n) ≡ suc k + n = omega arith in e) (reached_more (k + n) p q (reached_up k n p q h))

  path_heads : {p q : ℕ} {l : List ℕ} (atoms : ℕ) → Every (λ (c : Clause). c.head < atoms) cs → Path p q l → Every (λ (a : ℕ). a < atoms) l
  path_heads atoms h (one s) = every_more (subst (λ (x : ℕ). x < atoms) s.heads (h s.clause s.among)) (every_none (λ (a : ℕ). a < atoms))
  path_heads atoms h (more_steps s t) = every_more (subst (λ (x : ℕ). x < atoms) s.heads (h s.clause s.among)) (path_heads atoms h t)

  -- as many steps as there are atoms are enough
  pub depends_reached : (atoms : ℕ) → Every (λ (c : Clause). c.head < atoms) cs → {p q : ℕ} → Depends cs p q → reached cs atoms p q ≡ true
  depends_reached atoms h {p} {q} d =
      let s = depends_simple d in
      let few : length s.atoms ≤ atoms = distinct_few atoms s.atoms s.distinct (path_heads atoms h s.path) in
      let k : ℕ = atoms - length s.atoms in
      subst (λ (m : ℕ). reached cs m p q ≡ true) (let e : k + length s.atoms ≡ atoms = omega arith in e)
      (reached_up k (length s.atoms) p q (path_reached s.path))

-- the test says exactly whether the atom depends on itself
pub on_loop_lem : (b : Book) → Closed b → (p : ℕ) → (on_loop b p ≡ true) ↔ Depends b.clauses p p
unfolding on_loop
on_loop_lem b closed p = (reached_depends b.clauses b.atoms p p, depends_reached b.clauses b.atoms closed.heads)
