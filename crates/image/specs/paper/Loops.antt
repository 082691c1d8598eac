-- Refusal 9, paper 01, 4.8: "An atom depends on the atoms that stand in the bodies of its clauses, with or without negation, on those that
-- these depend on, and so on."
-- `Depends` says it as a relation; `loop_free` tests it by rounds, and `on_loop` of one atom. That they say the same is `LoopLaws`' and
-- `Reached`'s.
-- Assumes nothing.
use Rattle.std.specs.Prelude.{ℕ, zero, suc, ◌≡◌, Bool, true, false, not, ◌&&◌, ◌||◌, List, [], ◌∷◌, eqb}
use Rattle.base.specs.paper.Bools.{choose}
use Rattle.base.specs.paper.Lists.{◌∈◌, all, any, below}
use Rattle.image.specs.paper.Book.{Lit, Clause, Book}

pub data Depends (cs : List Clause) : ℕ → ℕ → Type 0 where
  direct : {p q : ℕ} (c : Clause) (l : Lit) → c ∈ cs → c.head ≡ p → l ∈ c.body → l.atom ≡ q → Depends cs p q
  through : {p q r : ℕ} → Depends cs p q → Depends cs q r → Depends cs p r

-- In round 0 every atom is pending; in round n + 1 an atom is pending if a body of its clauses has an atom that was pending
-- in round n.
unfoldable pub pending : List Clause → ℕ → ℕ → Bool
pending cs zero p = true
pending cs (suc n) p = any (λ (c : Clause). eqb c.head p && any (λ (l : Lit). pending cs n l.atom) c.body) cs

-- after n rounds none of the first `atoms` atoms is pending
unfoldable pub quiet : List Clause → ℕ → ℕ → Bool
quiet cs atoms n = all (λ (p : ℕ). not (pending cs n p)) (below atoms)

-- No loop: as many rounds as there are atoms leave none pending.
unfoldable pub loop_free : Book → Bool
loop_free b = quiet b.clauses b.atoms b.atoms

-- q is reached from p in at most n steps, each from a head to an atom of its body
unfoldable pub reached : List Clause → ℕ → ℕ → ℕ → Bool
reached cs zero p q = false
reached cs (suc n) p q =
    any (λ (c : Clause). eqb c.head p && any (λ (l : Lit). eqb l.atom q || reached cs n l.atom q) c.body) cs

-- Does the atom depend on itself? As many steps as there are atoms are enough.
unfoldable pub on_loop : Book → ℕ → Bool
on_loop b p = reached b.clauses b.atoms p p

-- of these clauses, those before "the first one, in the image's order, whose head is on a loop" (paper 02, A2.4)
unfoldable pub before_loop : Book → List Clause → List Clause
before_loop b [] = []
before_loop b (c ∷ cs) = choose (on_loop b c.head) [] (c ∷ before_loop b cs)
