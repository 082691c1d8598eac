-- The notes: none yet, and one more.
-- Assumes nothing.
use Prim.Native.Nat.{ℕ, ◌<◌}
use mathlib.Core.Path.{◌≡◌, refl, sym, ap, ◌∙◌}
use mathlib.Core.Bool.{Bool, true, false}
use mathlib.Core.Logic.{⊎_elim}
use mathlib.Core.List.{List}
use native.Mathlib.Omega.{arith}
use lib.ListN.{length, get_or, set, replicate, get_or-replicate, length-replicate, get_or-eq_default}
use lib.Seq.{get_or-set_same, get_or-set_other, set_out}
use lib.Dec.{eqb, ltb}
use borrow.Author.Tests.{eqb-true, eqb-false, ltb-true, ltb-false}
use Rattle.std.specs.Prelude.{Option, Some, None, is_some}
use Rattle.base.specs.Bools.{decide}
use Rattle.image.specs.Accepted.{book_in, IsBook}
use Rattle.meaning.specs.paper.Meaning.{value}
use Rattle.judging.specs.Notes.{Given, Noted}

pub noted_none : (s : List ℕ) (d n : ℕ) → IsBook s → Noted s d (replicate n None)
noted_none s d n book = record {
  book = book;
  true = λ p t e.
      let none : get_or (replicate {A = Option Bool} n None) p None ≡ None =
      ⊎_elim (λ (q : ltb p n ≡ true). get_or-replicate n p None None (ltb-true p n q))
      (λ (q : ltb p n ≡ false). get_or-eq_default (replicate n None) None (omega (arith, ltb-false p n q, length-replicate {A = Option Bool} n None)))
      (decide (ltb p n)) in
      let no : ◌≡◌ {A = ℕ} 0 1 = cc in
      absurd (omega arith);
}

-- a value that is found and noted
pub noted_more : (s : List ℕ) (d p : ℕ) (t : Bool) (notes : List (Option Bool)) → Noted s d notes → t ≡ value (book_in s) d p → Noted s d (set notes p (Some t))
noted_more s d p t notes noted e = record { book = noted.book; true = now }
  where
    now : (q : ℕ) (u : Bool) → get_or (set notes p (Some t)) q None ≡ Some u → u ≡ value (book_in s) d q
    now q u k =
        ⊎_elim (λ (n : ltb p (length notes) ≡ true). inside (ltb-true p (length notes) n))
        (λ (n : ltb p (length notes) ≡ false). noted.true q u (sym (ap (λ (l : List (Option Bool)). get_or l q None) (set_out notes p (Some t) (ltb-false p (length notes) n))) ∙ k))
        (decide (ltb p (length notes)))
      where
        inside : p < length notes → u ≡ value (book_in s) d q
        inside h =
            ⊎_elim
            (λ (n : eqb q p ≡ true).
            let same : q ≡ p = eqb-true q p n in
            let here : get_or (set notes p (Some t)) q None ≡ Some t = ap (λ (j : ℕ). get_or (set notes p (Some t)) j None) same ∙ get_or-set_same notes p (Some t) None h in
            let told : u ≡ t = cc in
            told ∙ e ∙ ap (value (book_in s) d) (sym same))
            (λ (n : eqb q p ≡ false). noted.true q u (sym (get_or-set_other notes p q (Some t) None (eqb-false q p n)) ∙ k))
            (decide (eqb q p))

-- the values are the same by what the judge was given
pub same_values : (g h : Given) (s : List ℕ) → g ≡ h → s ≡ h.image → value (book_in g.image) g.set ≡ value (book_in s) h.set
same_values g h s e f = ap (λ (k : Given). value (book_in k.image) k.set) e ∙ ap (λ (l : List ℕ). value (book_in l) h.set) (sym f)

-- what is told of a place by whether there is one
pub none_of : (o : Option ℕ) → is_some o ≡ false → o ≡ None
none_of None e = refl
none_of (Some x) e = let no : ◌≡◌ {A = ℕ} 0 1 = cc in absurd (omega arith)

pub some_of : (o : Option ℕ) → is_some o ≡ true → (x : ℕ) × (o ≡ Some x)
some_of None e = let no : ◌≡◌ {A = ℕ} 0 1 = cc in absurd (omega arith)
some_of (Some x) e = (x, refl)
