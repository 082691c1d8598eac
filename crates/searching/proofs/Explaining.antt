-- What the list of the smallest explaining sets says of all explaining sets, of whatever size (paper 02, A3.1 and A3.4). That none
-- explains where the list is empty is Main's `explanations_none`.
-- Assumes nothing.
use Rattle.std.specs.Prelude.{ℕ, ◌≡◌, true, false, ◌↔◌, List}
use Rattle.base.specs.Bools.{clash}
use Rattle.base.specs.paper.Lists.{◌∈◌}
use Rattle.base.specs.paper.Members.{has}
use Rattle.image.specs.paper.Book.{Book}
use Rattle.image.specs.Sound.{Orderly}
use Rattle.meaning.specs.paper.Meaning.{explains}
use Rattle.searching.specs.paper.Explanations.{Explanations}
use Rattle.searching.proofs.Main.{smallest_inside}

-- A hypothesis is in all explaining sets exactly if it is in all of the list, since inside every explaining set lies a smallest one.
pub all_explaining : (b : Book) → Orderly b → (h : ℕ) (l : List ℕ) → Explanations b l
    → ((d : ℕ) → d ∈ l → has d h ≡ true) ↔ ((d : ℕ) → explains b d ≡ true → has d h ≡ true)
all_explaining b o h l e = (to, λ f d m. f d ((e.members d).0 m).explaining)
  where
    to : ((d : ℕ) → d ∈ l → has d h ≡ true) → (d : ℕ) → explains b d ≡ true → has d h ≡ true
    to f d x =
        let w = smallest_inside b o d x in
        w.2 h (f w.0 ((e.members w.0).1 w.1))

-- It is in some of them if it is in some of the list,
pub some_explaining : (b : Book) (h : ℕ) (l : List ℕ) → Explanations b l → (d : ℕ) → d ∈ l → has d h ≡ true
    → (e : ℕ) × (explains b e ≡ true) × (has e h ≡ true)
some_explaining b h l e d m p = (d, ((e.members d).0 m).explaining, p)

-- and not in all if some of the list is without it.
pub not_all : (b : Book) (h : ℕ) (l : List ℕ) → Explanations b l → (d : ℕ) → d ∈ l → has d h ≡ false
    → ((e : ℕ) → explains b e ≡ true → has e h ≡ true) → ⊥
not_all b h l e d m p f = clash (f d ((e.members d).0 m).explaining) p
