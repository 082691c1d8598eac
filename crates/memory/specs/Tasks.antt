-- The children of a node, by its first task, and memory for them.
-- Assumes nothing.
use Rattle.std.specs.Prelude.{ℕ, ◌+◌, ◌≤◌, ◌<◌, ◌≡◌, true, false}
use Rattle.std.proofs.Common.{arith}
use Rattle.std.proofs.Math.Path.{refl, ap}
use mathlib.Core.List.{List, [], ◌∷◌, ◌++◌, map}
use borrow.Author.Tests.{lt-ltb, le-ltb}
use Rattle.base.specs.paper.Lists.{Every}
use Rattle.base.specs.Lists.{every_first}
use Rattle.image.specs.paper.Book.{Lit, Clause, Book}
use Rattle.image.specs.Sound.{Orderly}
use Rattle.meaning.specs.paper.Meaning.{clauses_for}
use Rattle.searching.specs.paper.Rules.{opposite, Task, want, pick, break, Node, on, results, after, children}
use Rattle.searching.proofs.Results.{child_of}
use Rattle.searching.specs.Bounds.{held}
use Rattle.searching.proofs.Bounds.{frames_fall, child_named}
use Rattle.area.specs.Ground.{pos, neg}
use Rattle.memory.specs.Machine.{node_of, Fine, by_ways}

-- ---- children

module _ (book : Book) (sheet : List Lit) (rest : List Task) (literal : Lit) where
  pub children_refused : on sheet (opposite literal) ≡ true → children book (node_of (want literal ∷ rest) sheet) ≡ []
  unfolding after results
  children_refused p = rw p

  pub children_so : on sheet (opposite literal) ≡ false → on sheet literal ≡ true
      → children book (node_of (want literal ∷ rest) sheet) ≡ node_of rest sheet ∷ []
  unfolding after results
  children_so p q = rw (p, q)

  pub children_takes : on sheet (opposite literal) ≡ false → on sheet literal ≡ false → literal.atom < book.abducibles
      → children book (node_of (want literal ∷ rest) sheet) ≡ node_of rest (literal ∷ sheet) ∷ []
  unfolding after results
  children_takes p q a = rw (p, q, lt-ltb literal.atom book.abducibles a)

-- a defined atom
module _ (book : Book) (sheet : List Lit) (rest : List Task) (atom : ℕ) (defined : book.abducibles ≤ atom) (not-wanted : on sheet (pos atom) ≡ false) (not-denied : on sheet (neg atom) ≡ false) where
  pub children_opens : children book (node_of (want (pos atom) ∷ rest) sheet) ≡ by_ways rest (pos atom ∷ sheet) (map (λ (c : Clause). c.body) (clauses_for book atom))
  unfolding after results
  children_opens = rw (not-denied, not-wanted, le-ltb atom book.abducibles defined) (both (clauses_for book atom))
    where
      both : (ks : List Clause)
          → map (λ (n : Node). node_of (n.agenda ++ rest) n.sheet)
          (map (λ (ts : List Task). node_of ts (pos atom ∷ sheet)) (map (λ (c : Clause). map want c.body) ks))
          ≡ by_ways rest (pos atom ∷ sheet) (map (λ (c : Clause). c.body) ks)
      both [] = refl
      both (k ∷ ks) = ap (λ (ns : List Node). node_of (map want k.body ++ rest) (pos atom ∷ sheet) ∷ ns) (both ks)

  pub children_denies : children book (node_of (want (neg atom) ∷ rest) sheet) ≡ node_of (map break (clauses_for book atom) ++ rest) (neg atom ∷ sheet) ∷ []
  unfolding after results
  children_denies = rw (not-wanted, not-denied, le-ltb atom book.abducibles defined)

pub children_picks : (b : Book) (sheet : List Lit) (rest : List Task) (ways : List (List Lit))
    → children b (node_of (pick ways ∷ rest) sheet) ≡ by_ways rest sheet ways
unfolding after results
children_picks b sheet rest [] = refl
children_picks b sheet rest (way ∷ ways) =
    ap (λ (ns : List Node). node_of (map want way ++ rest) sheet ∷ ns) (children_picks b sheet rest ways)

-- ---- memory for the children

module _ (b : Book) (o : Orderly b) where
  pub fine_children : (k j : ℕ) (t : Task) (rest : List Task) (sheet : List Lit) → j ≤ held sheet t → Fine b k (node_of (t ∷ rest) sheet)
      → Every (Fine b (k + j)) (children b (node_of (t ∷ rest) sheet))
  fine_children k j t rest sheet g f c m =
      let d = child_of b (node_of (t ∷ rest) sheet) m in
      (omega (arith, frames_fall b (every_first f.1) d, f.0), child_named b o f.1 d)

pub held_free : (sheet : List Lit) (l : Lit) → on sheet l ≡ false → 1 ≤ held sheet (want l)
unfolding held
held_free sheet l e = rw e (omega arith)

pub held_pick : (sheet : List Lit) (ways : List (List Lit)) → 1 ≤ held sheet (pick ways)
unfolding held
held_pick sheet ways = omega arith
