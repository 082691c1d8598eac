-- A table of words and their codes, which is searched from the front.
-- Assumes nothing.
use Rattle.std.specs.Prelude.{ℕ, zero, suc, ◌+◌, ◌<◌, ◌≡◌, ◌⊎◌, Bool, false, List, [], ◌∷◌, length, slice_index_or}
use Rattle.std.proofs.Common.{Bor, arith, inl, inr, sym, subst}
use Rattle.std.proofs.Math.Nat.{eq-or-lt_of_le}
use Rattle.base.specs.paper.Lists.{Every}
use Rattle.base.specs.Lists.{every_first, every_rest}
use Rattle.spelling.specs.paper.Words.{Word}

abbrev pub Entry : Type 0
Entry = Bor Word × ℕ

-- the entry at a place; behind the table it is one of no word
abbrev pub entry : List Entry → ℕ → Entry
entry es i = slice_index_or es i (record { ref_ptr = (0, 0); now = [] }, 0)

-- no word before place i is the one that is sought
pub record Unmet (p : Word → Bool) (es : List Entry) (i : ℕ) : Type 0 where
  pub each : (k : ℕ) → k < i → p (entry es k).0.now ≡ false

module _ (p : Word → Bool) (es : List Entry) where
  pub unmet_first : Unmet p es 0
  unmet_first = record { each = λ k h. absurd (omega arith) }

  pub unmet_more : (i : ℕ) → Unmet p es i → p (entry es i).0.now ≡ false → Unmet p es (i + 1)
  unmet_more i u e = record { each = λ k h. go k (eq-or-lt_of_le (omega arith)) }
    where
      go : (k : ℕ) → (k ≡ i) ⊎ (k < i) → p (entry es k).0.now ≡ false
      go k (inl q) = subst (λ (n : ℕ). p (entry es n).0.now ≡ false) (sym q) e
      go k (inr l) = u.each k l

-- what each entry is
pub each_entry : {P : Entry → Type 0} (es : List Entry) → Every P es → (i : ℕ) → i < length es → P (entry es i)
each_entry [] h i l = absurd (omega arith)
each_entry (e ∷ es) h zero l = every_first h
each_entry (e ∷ es) h (suc i) l = each_entry es (every_rest h) i (omega arith)
