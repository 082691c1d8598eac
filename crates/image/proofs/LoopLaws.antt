-- A book has no loop by the test exactly if no atom depends on itself; and then a rank falls from each head to each atom of
-- its bodies.
-- Assumes nothing.
use Prim.Native.Nat.{ℕ, zero, suc, ◌+◌, ◌≤◌, ◌<◌}
use Rattle.std.proofs.Math.Path.{◌≡◌, refl, ap, subst}
use Rattle.std.proofs.Common.{sym, ⊎_elim}
use Rattle.std.specs.Prelude.{Bool, ◌&&◌, List, [], ◌∷◌, length, eqb}
use Rattle.std.proofs.Math.Bool.{true, false}
use mathlib.Core.List.Memᴰ
use native.Mathlib.Omega.{arith}
use borrow.Author.Tests.{eqb-true, eq-eqb}
use Rattle.base.specs.paper.Bools.{choose}
use Rattle.base.specs.Bools.{decide, clash, both, both_left, both_right}
use Rattle.base.specs.paper.Lists.{◌∈◌, Every, any}
use Rattle.base.specs.Lists.{every_none, every_more, any_some, some_any}
use Rattle.image.specs.paper.Book.{Lit, Clause, Book}
use Rattle.image.specs.Sound.{Ranks}
use Rattle.image.specs.paper.Loops.{Depends, direct, through, pending, loop_free}
use Rattle.image.specs.LoopLaws.{rank, depends_head, free_quiet, quiet_free, Distinct, none, more, distinct_few, Bodied, Closed}

-- a clause that keeps its head pending
abbrev keeps : List Clause → ℕ → ℕ → Clause → Bool
keeps cs n p c = eqb c.head p && any (λ (l : Lit). pending cs n l.atom) c.body

module _ (cs : List Clause) where
  pub pending_more : (n : ℕ) (c : Clause) (l : Lit) → c ∈ cs → l ∈ c.body → pending cs n l.atom ≡ true → pending cs (suc n) c.head ≡ true
  unfolding pending
  pending_more n c l m k h =
      some_any (keeps cs n c.head) cs (
        c,
        m,
        both (eqb c.head c.head) (any (λ (l' : Lit). pending cs n l'.atom) c.body) (eq-eqb c.head c.head refl)
            (some_any (λ (l' : Lit). pending cs n l'.atom) c.body (l, k, h)),
      )

  -- a pending atom has a clause with a pending atom in its body
  pub record Kept (n p : ℕ) : Type 0 where
    pub clause : Clause
    pub lit : Lit
    pub among : clause ∈ cs
    pub heads : clause.head ≡ p
    pub within : lit ∈ clause.body
    pub holds : pending cs n lit.atom ≡ true

  pub pending_from : (n p : ℕ) → pending cs (suc n) p ≡ true → Kept n p
  unfolding pending
  pending_from n p h =
      let f = any_some (keeps cs n p) cs h in
      let body = any (λ (l : Lit). pending cs n l.atom) f.0.body in
      let g = any_some (λ (l : Lit). pending cs n l.atom) f.0.body (both_right (eqb f.0.head p) body f.2) in
      record {
        clause = f.0;
        lit = g.0;
        among = f.1;
        heads = eqb-true f.0.head p (both_left (eqb f.0.head p) body f.2);
        within = g.1;
        holds = g.2;
      }

  -- what is pending was so in the round before
  pub pending_less : (n p : ℕ) → pending cs (suc n) p ≡ true → pending cs n p ≡ true
  unfolding pending
  pending_less zero p h = refl
  pending_less (suc n) p h =
      let k = pending_from (suc n) p h in
      subst (λ (q : ℕ). pending cs (suc n) q ≡ true) k.heads
      (pending_more n k.clause k.lit k.among k.within (pending_less n k.lit.atom k.holds))

  -- ---- from the relation to the rounds

  pub depends_less : {p q : ℕ} → Depends cs p q → (n : ℕ) → pending cs n q ≡ true → pending cs (suc n) p ≡ true
  depends_less (direct c l m e k f) n h =
      subst (λ (r : ℕ). pending cs (suc n) r ≡ true) e (pending_more n c l m k (subst (λ (r : ℕ). pending cs n r ≡ true) (sym f) h))
  depends_less (through {q = q} d e) n h = pending_less (suc n) _ (depends_less d (suc n) (depends_less e n h))

  pub loop_pending : {p : ℕ} → Depends cs p p → (n : ℕ) → pending cs n p ≡ true
  unfolding pending
  loop_pending d zero = refl
  loop_pending d (suc n) = depends_less d n (loop_pending d n)

  -- ---- the rank

  pub rank_falls : (n : ℕ) (c : Clause) (l : Lit) → c ∈ cs → l ∈ c.body → rank cs n l.atom < rank cs (suc n) c.head
  unfolding rank pending
  rank_falls zero c l m k = omega arith
  rank_falls (suc n) c l m k =
      let h : rank cs n l.atom < rank cs (suc n) c.head = rank_falls n c l m k in
      go (pending cs n l.atom) refl h
    where
      go : (t : Bool) → pending cs n l.atom ≡ t → rank cs n l.atom < rank cs (suc n) c.head
          → choose t 1 0 + rank cs n l.atom < choose (pending cs (suc n) c.head) 1 0 + rank cs (suc n) c.head
      go false e h = omega arith
      go true e h =
          let up : pending cs (suc n) c.head ≡ true = pending_more n c l m k e in
          let one : ◌≡◌ {A = ℕ} (choose (pending cs (suc n) c.head) 1 0) 1 = ap (λ (t : Bool). choose t 1 0) up in
          omega arith

-- ---- from the rounds to the relation: a long chain of atoms has one twice

-- atoms, each in a body of the one before
data Chain (cs : List Clause) : List ℕ → Type 0 where
  last : {p : ℕ} → Chain cs (p ∷ [])
  link : {p q : ℕ} {l : List ℕ} → Depends cs p q → Chain cs (q ∷ l) → Chain cs (p ∷ q ∷ l)

chain_depends : {cs : List Clause} {p : ℕ} (l : List ℕ) {q : ℕ} → Chain cs (p ∷ l) → q ∈ l → Depends cs p q
chain_depends [] c m = absurd (Memᴰ.not-nil m)
chain_depends {cs} {p} (r ∷ l) {q} (link d c) m =
    ⊎_elim (λ (e : q ≡ r). subst (λ (k : ℕ). Depends cs p k) (sym e) d) (λ k. through d (chain_depends l c k)) (Memᴰ.cases_cons m)

chain_distinct : {cs : List Clause} → ((p : ℕ) → Depends cs p p → ⊥) → {p : ℕ} (l : List ℕ) → Chain cs (p ∷ l) → Distinct (p ∷ l)
chain_distinct free [] c = more (λ m. Memᴰ.not-nil m) none
chain_distinct free {p} (q ∷ l) (link d c) = more (λ m. free p (chain_depends (q ∷ l) (link d c) m)) (chain_distinct free l c)

record Long (cs : List Clause) (bound n p : ℕ) : Type 0 where
  rest : List ℕ
  chain : Chain cs (p ∷ rest)
  count : length rest ≡ n
  small : Every (λ (a : ℕ). a < bound) (p ∷ rest)

pending_long : (cs : List Clause) (bound : ℕ) → Bodied bound cs → (n p : ℕ) → p < bound → pending cs n p ≡ true → Long cs bound n p
pending_long cs bound small zero p h e =
    record { rest = []; chain = last; count = refl; small = every_more h (every_none (λ (a : ℕ). a < bound)) }
pending_long cs bound small (suc n) p h e =
    let k = pending_from cs n p e in
    let q : ℕ = k.lit.atom in
    let r = pending_long cs bound small n q (small k.clause k.among k.lit k.within) k.holds in
    record {
      rest = q ∷ r.rest;
      chain = link (direct k.clause k.lit k.among k.heads k.within refl) r.chain;
      count = ap suc r.count;
      small = every_more h r.small;
    }

-- ---- the test and the relation say the same

pub free_loopless : (b : Book) → Closed b → loop_free b ≡ true → (p : ℕ) → Depends b.clauses p p → ⊥
free_loopless b closed free p d =
    let h = depends_head b.clauses d in
    let k : p < b.atoms = subst (λ (q : ℕ). q < b.atoms) h.2 (closed.heads h.0 h.1) in
    clash (loop_pending b.clauses d b.atoms) (free_quiet b free p k)

pub loopless_free : (b : Book) → Closed b → ((p : ℕ) → Depends b.clauses p p → ⊥) → loop_free b ≡ true
loopless_free b closed free = quiet_free b (λ p h. ⊎_elim (λ e. absurd (never p h e)) (λ e. e) (decide (pending b.clauses b.atoms p)))
  where
    never : (p : ℕ) → p < b.atoms → pending b.clauses b.atoms p ≡ true → ⊥
    never p h e =
        let r = pending_long b.clauses b.atoms closed.bodies b.atoms p h e in
        let c : length r.rest ≡ b.atoms = r.count in
        let few : suc (length r.rest) ≤ b.atoms = distinct_few b.atoms (p ∷ r.rest) (chain_distinct free r.rest r.chain) r.small in
        omega arith

-- a book without loops has a rank that falls from head to body
pub free_ranks : (b : Book) → Closed b → loop_free b ≡ true → Ranks b.clauses (rank b.clauses b.atoms)
unfolding rank
free_ranks b closed free c m l k =
    let h : rank b.clauses b.atoms l.atom < choose (pending b.clauses b.atoms c.head) 1 0 + rank b.clauses b.atoms c.head =
    rank_falls b.clauses b.atoms c l m k in
    let quiet : ◌≡◌ {A = ℕ} (choose (pending b.clauses b.atoms c.head) 1 0) 0 =
    ap (λ (t : Bool). choose t 1 0) (free_quiet b free c.head (closed.heads c m)) in
    omega arith
