-- A node is visited, as the code does it.
-- Assumes nothing.
use Rattle.std.specs.Prelude.{ℕ, ◌≡◌, refl, List}
use Rattle.std.proofs.Common.{sym, ap, subst}
use Rattle.image.specs.paper.Book.{Book}
use Rattle.searching.specs.paper.Rules.{Node}
use Rattle.memory.specs.declared.run.Run.{Run}
use Rattle.memory.specs.Machine.{Holds, with_hand}
use Rattle.memory.specs.Pieces.{counting}
use Rattle.memory.specs.Agreed.{Tasked, Visited, Picked, picks, Went, visits, succeeds}

-- the machine does not look at the counts
pub counting_holds : {image : List ℕ} {b : Book} {work : List ℕ} {run : Run} {all : List Node} → Holds image b work run all → Holds image b work (counting run) all
counting_holds {run = run} h = with_hand h (counting run) refl refl refl h.hand

pub counted_tasked : (work : List ℕ) (run q : Run) → Tasked work run → q ≡ counting run → Tasked work q
counted_tasked work run q t e =
    subst (Tasked work) (sym e)
    (record { image = t.image; b = t.b; x = t.x; rest = t.rest; holds = counting_holds t.holds; state = t.state })

pub counted_numbers : (run q : Run) → q ≡ counting run → (q.task ≡ run.task) × (q.count ≡ run.count)
counted_numbers run q e = (ap (λ (o : Run). o.task) e, ap (λ (o : Run). o.count) e)

module _ (budget : ℕ) (sets work : List ℕ) (run : Run) where
  pub went_want : (v : List ℕ) (p q : Run) → (run.nodes ≡ budget → ⊥) → p ≡ counting run → Visited work p v q → Went budget sets work run sets v q
  went_want v p q n e x = visits n (subst (λ (o : Run). Visited work o v q) e x) refl

  pub went_pick : (after : List ℕ) (p q : Run) → (run.nodes ≡ budget → ⊥) → p ≡ counting run → Picked sets work p after q → Went budget sets work run after work q
  went_pick after p q n e x = go (subst (λ (o : Run). Picked sets work o after q) e x)
    where
      go : Picked sets work (counting run) after q → Went budget sets work run after work q
      go (picks y i) = visits n y i
      go (Picked.succeeds y i) = succeeds n y i refl
