-- On a book without loops the values are a model of the clauses' equations, and the only one.
-- Assumes nothing.
use Prim.Native.Nat.{ℕ, zero, suc, ◌<◌}
use Rattle.std.proofs.Common.{arith, sym, ap, ◌∙◌, eqb-true}
use Rattle.std.specs.Prelude.{◌≡◌, Bool, eqb}
use Rattle.base.specs.paper.Bools.{choose}
use Rattle.base.specs.paper.Lists.{◌∈◌}
use Rattle.base.specs.Parts.{filter_from}
use Rattle.base.specs.Tests.{all_same, any_same}
use Rattle.base.specs.paper.Members.{has}
use Rattle.image.specs.paper.Book.{Lit, Clause, Book}
use Rattle.image.specs.Sound.{Orderly}
use Rattle.meaning.specs.paper.Meaning.{abducible, clauses_for, true_in, all_true, found, valued, depth, value}

-- v gives each atom the value that is found from v itself
abbrev pub Model : Book → ℕ → (ℕ → Bool) → Type 0
Model b d v = (p : ℕ) → v p ≡ found b d v p

-- a clause for p is a clause of the book, with the head p
pub for_clause : (b : Book) (p : ℕ) {c : Clause} → c ∈ clauses_for b p → (c ∈ b.clauses) × (c.head ≡ p)
unfolding clauses_for
for_clause b p {c} m =
    let o = filter_from (λ (k : Clause). eqb k.head p) b.clauses m in
    (o.0, eqb-true c.head p o.1)

-- literals whose atoms have the same values are true alike
pub same_true : (v w : ℕ → Bool) (l : Lit) → v l.atom ≡ w l.atom → true_in v l ≡ true_in w l
same_true v w l e = ap (λ (t : Bool). true_in (λ (p : ℕ). t) l) e

-- v and w agree on the bodies of p's clauses
abbrev Agree : Book → (ℕ → Bool) → (ℕ → Bool) → ℕ → Type 0
Agree b v w p = (c : Clause) → c ∈ clauses_for b p → (l : Lit) → l ∈ c.body → v l.atom ≡ w l.atom

-- so the same is found for p from both
found_same : (b : Book) (d : ℕ) (v w : ℕ → Bool) (p : ℕ) → Agree b v w p → found b d v p ≡ found b d w p
found_same b d v w p h =
    ap (λ (t : Bool). choose (abducible b p) (has d p) t)
    (any_same (λ (c : Clause). all_true v c.body) (λ (c : Clause). all_true w c.body) (clauses_for b p)
    (λ c m. all_same (true_in v) (true_in w) c.body (λ l k. same_true v w l (h c m l k))))

module _ (book : Book) (orderly : Orderly book) where
  -- the atoms of p's clauses have a smaller rank
  pub lower : (p : ℕ) (c : Clause) → c ∈ clauses_for book p → (l : Lit) → l ∈ c.body → orderly.rank l.atom < orderly.rank p
  lower p c m l k =
      let f = for_clause book p m in
      rw f.1 at (orderly.falls c f.0 l k)

  -- what holds of an atom whenever it holds of the atoms of its clauses holds of every atom
  pub by_rank : (P : ℕ → Type 0) → ((p : ℕ) → ((c : Clause) → c ∈ clauses_for book p → (l : Lit) → l ∈ c.body → P l.atom) → P p) → (p : ℕ) → P p
  by_rank P step p = go (suc (orderly.rank p)) p (omega arith)
    where
      go : (n : ℕ) (q : ℕ) → orderly.rank q < n → P q
      go zero q h = absurd (omega arith)
      go (suc n) q h = step q (λ c m l k. go n l.atom (omega (arith, lower q c m l k)))

  -- one more level changes nothing once it is deeper than the rank
  steady : (d n p : ℕ) → orderly.rank p < n → valued book d n p ≡ valued book d (suc n) p
  unfolding valued
  steady d zero p h = absurd (omega arith)
  steady d (suc n) p h =
      found_same book d (valued book d n) (valued book d (suc n)) p
      (λ c m l k. steady d n l.atom (omega (arith, lower p c m l k)))

  -- The values are a model.
  pub value_model : (d : ℕ) → Model book d (value book d)
  unfolding valued
  value_model d p = steady d (depth book) p (omega (arith, orderly.ranked p))

  -- Two models agree on every atom.
  pub models_agree : (d : ℕ) (v w : ℕ → Bool) → Model book d v → Model book d w → (p : ℕ) → v p ≡ w p
  models_agree d v w mv mw =
      by_rank (λ (p : ℕ). v p ≡ w p) (λ p ih. mv p ∙ found_same book d v w p ih ∙ sym (mw p))

  -- So the values are the only model.
  pub value_only : (d : ℕ) (v : ℕ → Bool) → Model book d v → (p : ℕ) → v p ≡ value book d p
  value_only d v m = models_agree d v (value book d) m (value_model d)
