-- The rounds of the loop test, an atom's rank, and that a list of numbers below n without one twice is no longer than n.
-- Assumes nothing.
use Prim.Native.Nat.{ℕ, zero, suc, ◌+◌, ◌≤◌, ◌<◌}
use Rattle.std.proofs.Math.Path.{◌≡◌, ap, subst}
use Rattle.std.proofs.Common.{sym, ◌∙◌, ⊎_elim}
use Rattle.std.specs.Prelude.{Bool, not, List, [], ◌∷◌, length, eqb}
use Rattle.std.proofs.Math.Bool.{true, false}
use mathlib.Core.List.Memᴰ
use native.Mathlib.Omega.{arith}
use borrow.Author.Tests.{eqb-true, eqb-false, not-true}
use Rattle.base.specs.paper.Bools.{choose}
use Rattle.base.specs.Bools.{decide}
use Rattle.base.specs.paper.Lists.{◌∈◌, Every, below}
use Rattle.base.specs.Lists.{Some, here, there, every_none, every_more, every_first, every_rest, all_every, every_all}
use Rattle.image.specs.paper.Book.{Lit, Clause, Book}
use Rattle.image.specs.paper.Loops.{Depends, direct, through, pending, quiet, loop_free}
use Rattle.base.specs.Below.{below_in}

-- An atom's rank: in how many of the first n rounds it is pending.
unfoldable pub rank : List Clause → ℕ → ℕ → ℕ
rank cs zero p = 0
rank cs (suc n) p = choose (pending cs n p) 1 0 + rank cs n p

module _ (cs : List Clause) where
  -- the head that a chain of dependence starts from
  pub depends_head : {p q : ℕ} → Depends cs p q → Some (λ (c : Clause). c.head ≡ p) cs
  depends_head (direct c l m e k f) = (c, m, e)
  depends_head (through d e) = depends_head d

  pub rank_most : (n p : ℕ) → rank cs n p ≤ n
  unfolding rank
  rank_most zero p = omega arith
  rank_most (suc n) p = go (pending cs n p) (rank_most n p)
    where
      go : (t : Bool) → rank cs n p ≤ n → choose t 1 0 + rank cs n p ≤ suc n
      go true h = omega arith
      go false h = omega arith

-- ---- the numbers below n

pub in_below : (n p : ℕ) → p ∈ below n → p < n
unfolding below
in_below zero p m = absurd (Memᴰ.not-nil m)
in_below (suc n) p m = ⊎_elim (λ (e : p ≡ n). omega arith) (λ k. let h : p < n = in_below n p k in omega arith) (Memᴰ.cases_cons m)

pub quiet_none : (cs : List Clause) (atoms n : ℕ) → quiet cs atoms n ≡ true → (p : ℕ) → p < atoms → pending cs n p ≡ false
unfolding quiet
quiet_none cs atoms n h p k = not-true _ (all_every (λ (q : ℕ). not (pending cs n q)) (below atoms) h p (below_in atoms p k))

pub none_quiet : (cs : List Clause) (atoms n : ℕ) → ((p : ℕ) → p < atoms → pending cs n p ≡ false) → quiet cs atoms n ≡ true
unfolding quiet
none_quiet cs atoms n h = every_all (λ (q : ℕ). not (pending cs n q)) (below atoms) (λ p m. ap not (h p (in_below atoms p m)))

-- no atom is pending at the end of the rounds
pub free_quiet : (b : Book) → loop_free b ≡ true → (p : ℕ) → p < b.atoms → pending b.clauses b.atoms p ≡ false
unfolding loop_free
free_quiet b h p k = quiet_none b.clauses b.atoms b.atoms h p k

pub quiet_free : (b : Book) → ((p : ℕ) → p < b.atoms → pending b.clauses b.atoms p ≡ false) → loop_free b ≡ true
unfolding loop_free
quiet_free b h = none_quiet b.clauses b.atoms b.atoms h

-- ---- from the rounds to the relation: a long chain of atoms has one twice

-- no member twice
pub data Distinct : List ℕ → Type 0 where
  none : Distinct []
  more : {a : ℕ} {l : List ℕ} → (a ∈ l → ⊥) → Distinct l → Distinct (a ∷ l)

-- without its member n, a distinct list of numbers up to n is at most one shorter
record Lower (n : ℕ) (l : List ℕ) : Type 0 where
  rest : List ℕ
  distinct : Distinct rest
  small : Every (λ (a : ℕ). a < n) rest
  inside : (a : ℕ) → a ∈ rest → a ∈ l
  count : length l ≤ suc (length rest)

lower : (n : ℕ) (l : List ℕ) → Distinct l → Every (λ (a : ℕ). a < suc n) l → Lower n l
lower n [] d h = record { rest = []; distinct = none; small = every_none (λ (a : ℕ). a < n); inside = λ a m. m; count = omega arith }
lower n (a ∷ l) (more out d) h =
    ⊎_elim (λ e. last (eqb-true a n e)) (λ e. other (eqb-false a n e) (lower n l d (every_rest h))) (decide (eqb a n))
  where
    last : a ≡ n → Lower n (a ∷ l)
    last e =
        record {
          rest = l;
          distinct = d;
          small =
              λ b m.
              let up : b < suc n = h b (there m) in
              let apart : b ≡ n → ⊥ = λ q. out (subst (λ (k : ℕ). k ∈ l) (q ∙ sym e) m) in
              omega arith;
          inside = λ b m. there m;
          count = omega arith;
        }

    other : (a ≡ n → ⊥) → Lower n l → Lower n (a ∷ l)
    other e r =
        let up : a < suc n = h a here in
        record {
          rest = a ∷ r.rest;
          distinct = more (λ m. out (r.inside a m)) r.distinct;
          small = every_more (omega arith) r.small;
          inside = λ b m. ⊎_elim (λ (q : b ≡ a). subst (λ (k : ℕ). k ∈ a ∷ l) (sym q) here) (λ k. there (r.inside b k)) (Memᴰ.cases_cons m);
          count = let c : length l ≤ suc (length r.rest) = r.count in omega arith;
        }

pub distinct_few : (n : ℕ) (l : List ℕ) → Distinct l → Every (λ (a : ℕ). a < n) l → length l ≤ n
distinct_few zero [] d h = omega arith
distinct_few zero (a ∷ l) d h = let no : a < 0 = every_first h in absurd (omega arith)
distinct_few (suc n) l d h =
    let r = lower n l d h in
    let k : length r.rest ≤ n = distinct_few n r.rest r.distinct r.small in
    let c : length l ≤ suc (length r.rest) = r.count in
    omega arith

-- every atom of a body is below n
abbrev pub Bodied : ℕ → List Clause → Type 0
Bodied n cs = (c : Clause) → c ∈ cs → (l : Lit) → l ∈ c.body → l.atom < n

-- ---- the test and the relation say the same

-- every head and every atom of a body is an atom of the book
pub record Closed (b : Book) : Type 0 where
  pub heads : (c : Clause) → c ∈ b.clauses → c.head < b.atoms
  pub bodies : Bodied b.atoms b.clauses
