-- What the writing functions require of the codes, and where their parts end.
-- Assumes nothing.
use Rattle.std.specs.Prelude.{ℕ, zero, suc, ◌+◌, ◌≤◌, ◌<◌, ◌≡◌, refl, Bool, true, false, ◌||◌, List, [], ◌∷◌, length, get_or, take, drop}
use Rattle.std.proofs.Common.{arith, sym, ap, ◌∙◌, ⊎_elim, take-take, get_or-take, get_or-drop, drop-drop, length-take}
use Rattle.std.proofs.Math.Dec.{ltb}
use Rattle.std.proofs.Math.ListN.{get_or-eq_default}
use Rattle.std.proofs.lemmas.Bool.{ltb-true, ltb-false}
use Rattle.std.proofs.Math.Seq.{slice, length-slice, take-nil}
use Rattle.base.specs.paper.Bools.{choose}
use Rattle.base.specs.Bools.{clash, decide}
use Rattle.base.specs.paper.Lists.{any}
use Rattle.base.specs.Lists.{ahead}
use Rattle.spelling.specs.Codes.{first_name}
use Rattle.writer.specs.Fields.{Part, part, longer, is_end, parts_of}

-- every name has a number
abbrev pub Known : List ℕ → List ℕ → Type 0
Known codes numbers = (i : ℕ) → get_or codes i 0 < first_name + length numbers

-- and so has every name of a part
pub known_part : (codes numbers : List ℕ) (from to : ℕ) → Known codes numbers → Known (slice from to codes) numbers
known_part codes numbers from to known i =
    ⊎_elim
    (λ (q : ltb (from + i) to ≡ true).
    omega (arith, get_or-drop from (take to codes) i 0, get_or-take to codes (from + i) 0 (ltb-true (from + i) to q), known (from + i)))
    (λ (q : ltb (from + i) to ≡ false).
    let long = ltb-false (from + i) to q in
    omega (arith, get_or-drop from (take to codes) i 0, get_or-eq_default (take to codes) 0 (let l : length (take to codes) ≤ from + i = omega (arith, length-take to codes) in l)))
    (decide (ltb (from + i) to))

-- a goal line at this place, before it statements whose parts all end, and the numbers of the names
pub record Statements (codes : List ℕ) (goal : ℕ) (numbers : List ℕ) : Type 0 where
  pub within : goal < length codes
  pub closed : (i : ℕ) → i < goal → any is_end (slice i goal codes) ≡ true
  pub known : Known codes numbers

-- where the part from i on ends, and the parts from there on
abbrev pub stop_of : List ℕ → ℕ → ℕ → ℕ
stop_of codes i goal = i + ahead is_end (slice i goal codes)

abbrev pub parts_from : List ℕ → ℕ → ℕ → List Part
parts_from codes i goal = parts_of (slice i goal codes)

parts_first : (l : List ℕ) → any is_end l ≡ true
    → (ahead is_end l < length l) × (parts_of l ≡ part (take (ahead is_end l) l) (get_or l (ahead is_end l) 0) ∷ parts_of (drop (suc (ahead is_end l)) l))
unfolding parts_of
parts_first [] e = clash e refl
parts_first (k ∷ l) e = go (is_end k) e (parts_first l)
  where
    go : (t : Bool) → (t || any is_end l) ≡ true
        → (any is_end l ≡ true → (ahead is_end l < length l) × (parts_of l ≡ part (take (ahead is_end l) l) (get_or l (ahead is_end l) 0) ∷ parts_of (drop (suc (ahead is_end l)) l)))
        → (choose t 0 (suc (ahead is_end l)) < suc (length l))
        × (choose t (part [] k ∷ parts_of l) (longer k (parts_of l))
        ≡ part (take (choose t 0 (suc (ahead is_end l))) (k ∷ l)) (get_or (k ∷ l) (choose t 0 (suc (ahead is_end l))) 0) ∷ parts_of (drop (suc (choose t 0 (suc (ahead is_end l)))) (k ∷ l)))
    go true q ih = (omega arith, refl)
    go false q ih = (omega (arith, (ih q).0), ap (longer k) (ih q).1)

drop_take : (i n : ℕ) (l : List ℕ) → drop i (take (i + n) l) ≡ take n (drop i l)
drop_take zero n l = let e : zero + n ≡ n = omega arith in ap (λ (m : ℕ). take m l) e
drop_take (suc i) n [] = ap (drop (suc i)) (take-nil (suc i + n)) ∙ sym (take-nil n)
drop_take (suc i) n (k ∷ l) =
    let e : suc i + n ≡ suc (i + n) = omega arith in
    ap (λ (m : ℕ). drop (suc i) (take m (k ∷ l))) e ∙ drop_take i n l

-- the part from i on, and the others
pub record Next (codes : List ℕ) (i goal stop : ℕ) : Type 0 where
  pub low : i ≤ stop
  pub high : stop < goal
  pub parts : parts_from codes i goal ≡ part (slice i stop codes) (get_or codes stop 0) ∷ parts_from codes (stop + 1) goal

pub next_part : (codes : List ℕ) (goal : ℕ) (numbers : List ℕ) → Statements codes goal numbers → (i : ℕ) → i < goal → Next codes i goal (stop_of codes i goal)
next_part codes goal numbers s i h =
    let l : List ℕ = slice i goal codes in
    let n : ℕ = ahead is_end l in
    let f = parts_first l (s.closed i h) in
    let high : i + n < goal = omega (arith, f.0, length-slice i goal codes (omega (arith, s.within)), s.within) in
    let e₁ : take n l ≡ slice i (i + n) codes =
    sym (drop_take i n (take goal codes)) ∙ ap (drop i) (take-take (i + n) goal codes (omega arith)) in
    let e₂ : get_or l n 0 ≡ get_or codes (i + n) 0 = get_or-drop i (take goal codes) n 0 ∙ get_or-take goal codes (i + n) 0 high in
    let past : i + suc n ≡ i + n + 1 = omega arith in
    let e₃ : drop (suc n) l ≡ slice (i + n + 1) goal codes = drop-drop (suc n) i (take goal codes) ∙ ap (λ (m : ℕ). slice m goal codes) past in
    record {
      low = omega arith;
      high = high;
      parts =
          f.1
          ∙ ap (λ (m : List ℕ). part m (get_or l n 0) ∷ parts_of (drop (suc n) l)) e₁
          ∙ ap (λ (k : ℕ). part (slice i (i + n) codes) k ∷ parts_of (drop (suc n) l)) e₂
          ∙ ap (λ (m : List ℕ). part (slice i (i + n) codes) (get_or codes (i + n) 0) ∷ parts_of m) e₃;
    }
