-- A loop that looks through the entries from i to n of a list, for one that passes a test or for one that fails it: what is left
-- decides.
-- Assumes nothing.
use Rattle.std.specs.Prelude.{◌≡◌, refl, Bool, true, false, ◌||◌, List, [], ◌∷◌, ◌++◌, ℕ, suc, ◌+◌, ◌≤◌, ◌<◌, length, take, drop, get_or}
use Rattle.std.proofs.Common.{sym, ap, ◌∙◌, add-one, arith, take-append-drop, length-take-le, take-take}
use Rattle.std.proofs.Math.Seq.{slice, slice_empty, slice-cons, length-slice}
use Rattle.std.proofs.lemmas.List.{drop-append-le}
use Rattle.base.specs.paper.Lists.{all, any}
use Rattle.base.specs.Lists.{any_append, ahead, ahead_append}

-- of the part from i to n: the first entry, and the others
pub next : (l : List ℕ) (i n : ℕ) → i < n → n ≤ length l → slice i n l ≡ get_or l i 0 ∷ slice (i + 1) n l
next l i n h k = slice-cons i n l 0 h k ∙ ap (λ (j : ℕ). get_or l i 0 ∷ slice j n l) (sym (add-one i))

-- four entries
four : (l : List ℕ) (i : ℕ) → i + 4 ≤ length l → slice i (i + 4) l ≡ get_or l i 0 ∷ get_or l (i + 1) 0 ∷ get_or l (i + 2) 0 ∷ get_or l (i + 3) 0 ∷ []
four l i h =
    at i (i + 1) (omega arith) (omega arith)
    ∙ ap (λ (m : List ℕ). get_or l i 0 ∷ m)
    (at (i + 1) (i + 2) (omega arith) (omega arith)
    ∙ ap (λ (m : List ℕ). get_or l (i + 1) 0 ∷ m)
    (at (i + 2) (i + 3) (omega arith) (omega arith)
    ∙ ap (λ (m : List ℕ). get_or l (i + 2) 0 ∷ m)
    (at (i + 3) (i + 4) (omega arith) (omega arith) ∙ ap (λ (m : List ℕ). get_or l (i + 3) 0 ∷ m) (slice_empty (i + 4) l))))
  where
    at : (j k : ℕ) → j + 1 ≡ k → j < i + 4 → slice j (i + 4) l ≡ get_or l j 0 ∷ slice k (i + 4) l
    at j k e q = next l j (i + 4) q h ∙ ap (λ (m : ℕ). get_or l j 0 ∷ slice m (i + 4) l) e

pub any_four : (t : ℕ → Bool) (l : List ℕ) (i : ℕ) → i + 4 ≤ length l
    → any t (slice i (i + 4) l) ≡ (t (get_or l i 0) || (t (get_or l (i + 1) 0) || (t (get_or l (i + 2) 0) || t (get_or l (i + 3) 0))))
any_four t l i h = ap (any t) (four l i h) ∙ ap (λ (b : Bool). t (get_or l i 0) || (t (get_or l (i + 1) 0) || (t (get_or l (i + 2) 0) || b))) (last (t (get_or l (i + 3) 0)))
  where
    last : (b : Bool) → (b || false) ≡ b
    last true = refl
    last false = refl

-- the part from i to n in two parts
pub parted : (l : List ℕ) (i m n : ℕ) → i ≤ m → m ≤ n → n ≤ length l → slice i n l ≡ slice i m l ++ slice m n l
parted l i m n h k q =
    ap (drop i) (sym (take-append-drop m (take n l)) ∙ ap (λ (s : List ℕ). s ++ slice m n l) (take-take m n l k))
    ∙ drop-append-le i (take m l) (slice m n l) (omega (arith, length-take-le m l (omega arith)))

module _ (t : ℕ → Bool) (l : List ℕ) (i m n : ℕ) (h : i ≤ m) (k : m ≤ n) (q : n ≤ length l) where
  -- one of the entries before m passes
  pub any_met_part : any t (slice i m l) ≡ true → any t (slice i n l) ≡ true
  any_met_part e = ap (any t) (parted l i m n h k q) ∙ any_append t (slice i m l) (slice m n l) ∙ rw e

  -- none of them does
  pub any_unmet_part : any t (slice i m l) ≡ false → any t (slice i n l) ≡ any t (slice m n l)
  any_unmet_part e = ap (any t) (parted l i m n h k q) ∙ any_append t (slice i m l) (slice m n l) ∙ rw e

  pub ahead_unmet_part : any t (slice i m l) ≡ false → i + ahead t (slice i n l) ≡ m + ahead t (slice m n l)
  ahead_unmet_part e =
      omega (arith, ap (ahead t) (parted l i m n h k q), ahead_append t (slice i m l) (slice m n l) e, length-slice i m l (omega arith))

module _ (t : ℕ → Bool) (l : List ℕ) (i n : ℕ) where
  -- nothing is left
  pub any_none : i ≡ n → any t (slice i n l) ≡ false
  any_none e = ap (λ (j : ℕ). any t (slice j n l)) e ∙ ap (any t) (slice_empty n l)

  pub all_none : i ≡ n → all t (slice i n l) ≡ true
  all_none e = ap (λ (j : ℕ). all t (slice j n l)) e ∙ ap (all t) (slice_empty n l)

  pub ahead_none : i ≡ n → i + ahead t (slice i n l) ≡ i
  ahead_none e = omega (arith, ap (λ (j : ℕ). ahead t (slice j n l)) e, ap (ahead t) (slice_empty n l))

  -- the next entry passes
  pub any_met : i < n → n ≤ length l → t (get_or l i 0) ≡ true → any t (slice i n l) ≡ true
  any_met h k e = ap (any t) (next l i n h k) ∙ rw e

  pub all_met : i < n → n ≤ length l → t (get_or l i 0) ≡ true → all t (slice i n l) ≡ all t (slice (i + 1) n l)
  all_met h k e = ap (all t) (next l i n h k) ∙ rw e

  pub ahead_met : i < n → n ≤ length l → t (get_or l i 0) ≡ true → i + ahead t (slice i n l) ≡ i
  ahead_met h k e =
      let none : ahead t (slice i n l) ≡ 0 = ap (ahead t) (next l i n h k) ∙ rw e in
      omega arith

  -- the next entry fails
  pub any_unmet : i < n → n ≤ length l → t (get_or l i 0) ≡ false → any t (slice i n l) ≡ any t (slice (i + 1) n l)
  any_unmet h k e = ap (any t) (next l i n h k) ∙ rw e

  pub ahead_unmet : i < n → n ≤ length l → t (get_or l i 0) ≡ false → i + ahead t (slice i n l) ≡ i + 1 + ahead t (slice (i + 1) n l)
  ahead_unmet h k e =
      let more : ahead t (slice i n l) ≡ suc (ahead t (slice (i + 1) n l)) = ap (ahead t) (next l i n h k) ∙ rw e in
      omega arith

  pub all_unmet : i < n → n ≤ length l → t (get_or l i 0) ≡ false → all t (slice i n l) ≡ false
  all_unmet h k e = ap (all t) (next l i n h k) ∙ rw e
