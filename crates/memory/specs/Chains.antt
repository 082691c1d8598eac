-- Chains of ways, taken apart by their number.
-- Assumes nothing.
use Rattle.std.specs.Prelude.{ℕ, suc, ◌+◌, ◌≤◌, ◌<◌, ◌≡◌, refl, List, [], ◌∷◌}
use Rattle.std.proofs.Common.{arith}
use Rattle.image.specs.paper.Book.{Lit, Book}
use Rattle.searching.specs.paper.Rules.{Node}
use Rattle.area.specs.Area as layout
use Rattle.area.specs.Ground.{Listed, Chain}
use Rattle.memory.specs.Machine.{Fine}

pub record Ahead (image : List ℕ) (tab : ℕ → ℕ) (n : ℕ) (ls : List Lit) (lss : List (List Lit)) : Type 0 where
  pub low : layout.ways ≤ n
  pub high : n + 1 < layout.trail
  pub first : Listed image tab (tab n) ls
  pub others : Chain image tab (tab (n + 1)) lss

pub chain_ahead : {image : List ℕ} {tab : ℕ → ℕ} {n : ℕ} {ls : List Lit} {lss : List (List Lit)} → Chain image tab n (ls ∷ lss) → Ahead image tab n ls lss
chain_ahead (Chain.way p q l c) = record { low = p; high = q; first = l; others = c }

-- the number of no way
pub chain_none : {image : List ℕ} {tab : ℕ → ℕ} {n : ℕ} {lss : List (List Lit)} → Chain image tab n lss → n ≡ 0 → lss ≡ []
chain_none Chain.end e = refl
chain_none (Chain.way p q l c) e = absurd (omega arith)

pub chain_empty : {image : List ℕ} {tab : ℕ → ℕ} {n : ℕ} → Chain image tab n [] → n ≡ 0
chain_empty Chain.end = refl

-- a way's number is no code
pub chain_apart : {image : List ℕ} {tab : ℕ → ℕ} {n : ℕ} {lss : List (List Lit)} → Chain image tab n lss → (n ≡ layout.joins → ⊥) × (n ≡ layout.joins_set → ⊥)
chain_apart Chain.end = (λ e. omega (arith, e), λ e. omega (arith, e))
chain_apart (Chain.way p q l c) = (λ e. omega (arith, e, p), λ e. omega (arith, e, p))

-- a node with fewer frames below it
pub fine_less : (b : Book) (n : Node) (k : ℕ) → Fine b (suc k) n → Fine b k n
fine_less b n k f = (omega (arith, f.0), f.1)
