-- The first set that passes a test, of a list that is looked through part by part.
-- Assumes nothing.
use Rattle.std.specs.Prelude.{◌≡◌, refl, Bool, true, false, ◌||◌, cond, List, [], ◌∷◌, ◌++◌, ℕ, zero, suc, ◌+◌, ◌*◌, ◌/◌, ◌≤◌, ◌<◌, ltb, length, take, drop, get_or, Some, None}
use Rattle.std.proofs.Common.{sym, ap, ◌∙◌, arith, take-append-drop, drop-drop, mul_comm}
use Rattle.std.proofs.Math.Seq.{length-take-le, take-add}
use Rattle.std.proofs.Math.Dec.{leb-zero, leb-suc-suc}
use Rattle.std.specs.List.{position_or_len}
use Rattle.std.proofs.lemmas.List.Recursion.{is_position_or_len}
use Rattle.std.specs.Simd.{first_chunks}
use Rattle.base.specs.paper.Bools.{choose}
use Rattle.base.specs.paper.Lists.{any}
use Rattle.base.specs.Lists.{any_append, ahead, ahead_append}
use Rattle.kept.specs.Agreed.{first}

module _ (t : ℕ → Bool) where
  -- std's place of the first
  ahead_position : (l : List ℕ) → ahead t l ≡ position_or_len t l
  ahead_position l = is_position_or_len (ahead t) t refl step l
    where
      step : (x : ℕ) (xs : List ℕ) → ahead t (x ∷ xs) ≡ cond (t x) 0 (1 + ahead t xs)
      step x xs = go (t x)
        where
          go : (b : Bool) → choose b 0 (suc (ahead t xs)) ≡ cond b 0 (1 + ahead t xs)
          go true = refl
          go false = omega arith

  ahead_any : (l : List ℕ) → ltb (ahead t l) (length l) ≡ any t l
  ahead_any [] = refl
  ahead_any (a ∷ l) = go (t a) (ahead_any l)
    where
      go : (b : Bool) → ltb (ahead t l) (length l) ≡ any t l → ltb (choose b 0 (suc (ahead t l))) (suc (length l)) ≡ (b || any t l)
      go true e = leb-suc-suc 0 (length l) ∙ leb-zero (length l)
      go false e = leb-suc-suc (suc (ahead t l)) (length l) ∙ e

  pub first_position : (l : List ℕ) → cond (ltb (position_or_len t l) (length l)) (Some (position_or_len t l)) None ≡ first t l
  first_position l = rw (sym (ahead_position l), ahead_any l) (go (any t l))
    where
      go : (b : Bool) → cond b (Some (ahead t l)) None ≡ choose b (Some (ahead t l)) None
      go true = refl
      go false = refl

  pub any_none : (l : List ℕ) → None ≡ first t l → any t l ≡ false
  any_none l = go (any t l)
    where
      go : (b : Bool) → None ≡ choose b (Some (ahead t l)) None → b ≡ false
      go true e = cc
      go false e = refl

  pub any_some : (l : List ℕ) {k : ℕ} → Some k ≡ first t l → (any t l ≡ true) × (k ≡ ahead t l)
  any_some l {k} = go (any t l)
    where
      go : (b : Bool) → Some k ≡ choose b (Some (ahead t l)) None → (b ≡ true) × (k ≡ ahead t l)
      go true e = (refl, cc)
      go false e = cc

  -- the first that passes stands in the one list, or in the other
  ahead_left : (s u : List ℕ) → any t s ≡ true → ahead t (s ++ u) ≡ ahead t s
  ahead_left [] u e = cc
  ahead_left (a ∷ s) u e = go (t a) e (ahead_left s u)
    where
      go : (b : Bool) → (b || any t s) ≡ true → (any t s ≡ true → ahead t (s ++ u) ≡ ahead t s) → choose b 0 (suc (ahead t (s ++ u))) ≡ choose b 0 (suc (ahead t s))
      go true e h = refl
      go false e h = ap suc (h e)

  -- one of the first n passes
  pub first_early : (n : ℕ) (l : List ℕ) {k : ℕ} → Some k ≡ first t (take n l) → Some k ≡ first t l
  first_early n l {k} e =
      let there = any_some (take n l) e in
      let whole : l ≡ take n l ++ drop n l = sym (take-append-drop n l) in
      let met : any t l ≡ true = ap (any t) whole ∙ any_append t (take n l) (drop n l) ∙ rw there.0 in
      let at : ahead t l ≡ k = ap (ahead t) whole ∙ ahead_left (take n l) (drop n l) there.0 ∙ sym there.1 in
      rw (met, at)

  module _ (l : List ℕ) (m : ℕ) (before : any t (take m l) ≡ false) where
    parted : any t l ≡ any t (drop m l)
    parted = ap (any t) (sym (take-append-drop m l)) ∙ any_append t (take m l) (drop m l) ∙ rw before

    -- none before m passes, and one of the others does
    pub first_met : {k : ℕ} → m ≤ length l → Some k ≡ first t (drop m l) → Some (m + k) ≡ first t l
    first_met {k} h e =
        let there = any_some (drop m l) e in
        let met : any t l ≡ true = parted ∙ there.0 in
        let at : ahead t l ≡ m + k =
        ap (ahead t) (sym (take-append-drop m l)) ∙ ahead_append t (take m l) (drop m l) before
        ∙ omega (arith, length-take-le m l h, there.1) in
        rw (met, at)

    -- none of the next n does
    pub none_met : (n : ℕ) → None ≡ first t (take n (drop m l)) → any t (take (m + n) l) ≡ false
    none_met n e =
        ap (any t) (take-add m n l) ∙ any_append t (take m l) (take n (drop m l)) ∙ rw (before, any_none (take n (drop m l)) e)

    -- none of the others does
    pub none_at_all : None ≡ first t (drop m l) → None ≡ first t l
    none_at_all e = sym (rw (parted, any_none (drop m l) e))

-- ---- the rounds of a list, of n sets each, and the rest of it

chunk_at : (n k i : ℕ) (l d : List ℕ) → i < k → get_or (first_chunks n k l) i d ≡ take n (drop (n * i) l)
chunk_at n zero i l d h = absurd (omega arith)
chunk_at n (suc k) zero l d h = let none : n * 0 ≡ 0 = omega arith in rw none
chunk_at n (suc k) (suc i) l d h =
    let one : n + n * i ≡ n * suc i = omega arith in
    chunk_at n k i (drop n l) d (omega arith) ∙ rw (drop-drop, one)

module _ (n : ℕ) (l : List ℕ) where
  pub round_at : {rounds : List (List ℕ)} (i : ℕ) → rounds ≡ first_chunks n (length l / n) l → i < length l / n → get_or rounds i [] ≡ take n (drop (n * i) l)
  round_at i e h = rw e (chunk_at n (length l / n) i l [] h)

  pub rest_behind : {rest : List ℕ} (k : ℕ) → k ≡ length l / n → rest ≡ drop (length l / n * n) l → rest ≡ drop (n * k) l
  rest_behind k h e = e ∙ ap (λ (j : ℕ). drop j l) (mul_comm (length l / n) n ∙ ap (λ (j : ℕ). n * j) (sym h))
