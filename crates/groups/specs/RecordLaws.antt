-- A well-formed group record: how long it is, and the atoms that were observed, one by one.
-- Assumes nothing.
use Rattle.std.specs.Prelude.{ℕ, zero, suc, ◌+◌, ◌-◌, ◌*◌, ◌%◌, ◌≤◌, ◌<◌, ◌≡◌, refl, Bool, true, false, ◌&&◌, List, [], ◌∷◌, leb, eqb, length, get_or}
use Rattle.std.proofs.Common.{ap, ◌∙◌, arith, leb-true, eqb-true}
use Rattle.base.specs.Bools.{both_left, both_right}
use Rattle.base.specs.paper.Lists.{all}
use Rattle.image.specs.paper.Walk.{field_at}
use Rattle.groups.specs.paper.Group.{group_version, size_at, number_at, observed_at, most_observed, most_size, well_formed, fields_at, observed_count, observed}

length_fields : (s : List ℕ) (at n : ℕ) → length (fields_at s at n) ≡ n
unfolding fields_at
length_fields s at zero = refl
length_fields s at (suc n) = ap suc (length_fields s (at + 2) n)

length_observed : (s : List ℕ) → length (observed s) ≡ observed_count s
unfolding observed
length_observed s = length_fields s observed_at (observed_count s)

-- what a well-formed record's length field is
pub record Formed (s : List ℕ) : Type 0 where
  pub size : field_at s size_at ≡ 2 + 2 * length (observed s)
  pub long : length s ≡ observed_at + 2 * length (observed s)
  pub few : length (observed s) ≤ most_observed

pub formed : (s : List ℕ) → well_formed s ≡ true → Formed s
unfolding well_formed
formed s e =
    let most : Bool = leb (field_at s size_at) most_size in
    let some : Bool = leb 2 (field_at s size_at) in
    let even : Bool = eqb (field_at s size_at % 2) 0 in
    let size : Bool = eqb (field_at s size_at) (length s - number_at) in
    let version : Bool = eqb (get_or s 0 0) group_version in
    let long : Bool = leb number_at (length s) in
    let e₁ = both_right long (version && (size && (even && (some && most)))) e in
    let e₂ = both_right version (size && (even && (some && most))) e₁ in
    let e₃ = both_right size (even && (some && most)) e₂ in
    let e₄ = both_right even (some && most) e₃ in
    let isLong = leb-true number_at (length s) (both_left long (version && (size && (even && (some && most)))) e) in
    let isSize = eqb-true (field_at s size_at) (length s - number_at) (both_left size (even && (some && most)) e₂) in
    let isEven = eqb-true (field_at s size_at % 2) 0 (both_left even (some && most) e₃) in
    let option_is_some = leb-true 2 (field_at s size_at) (both_left some most e₄) in
    let isMost = leb-true (field_at s size_at) most_size (both_right some most e₄) in
    record {
      size = omega (arith, isEven, option_is_some, length_observed s);
      long = omega (arith, isLong, isSize, isEven, option_is_some, length_observed s);
      few = omega (arith, isMost, length_observed s);
    }

-- ---- the i-th atom

fields_index : (s : List ℕ) (at n i : ℕ) → i < n → get_or (fields_at s at n) i 0 ≡ field_at s (at + 2 * i)
unfolding fields_at
fields_index s at zero i h = absurd (omega arith)
fields_index s at (suc n) zero h = ap (field_at s) (omega arith)
fields_index s at (suc n) (suc i) h = fields_index s (at + 2) n i (omega arith) ∙ ap (field_at s) (omega arith)

pub observed_index : (s : List ℕ) (i : ℕ) → i < length (observed s) → get_or (observed s) i 0 ≡ field_at s (observed_at + 2 * i)
unfolding observed
observed_index s i h = fields_index s observed_at (observed_count s) i (omega (arith, length_observed s))

-- ---- the atoms from the i-th on

unfoldable pub observed_from : List ℕ → ℕ → List ℕ
observed_from s i = fields_at s (observed_at + 2 * i) (length (observed s) - i)

pub observed_all : (s : List ℕ) → observed_from s 0 ≡ observed s
unfolding observed_from observed
observed_all s = ap (fields_at s observed_at) (omega (arith, length_observed s))

pub observed_next : (s : List ℕ) (i : ℕ) → i < length (observed s) → observed_from s i ≡ field_at s (observed_at + 2 * i) ∷ observed_from s (i + 1)
unfolding observed_from fields_at
observed_next s i h =
    let left : length (observed s) - i ≡ suc (length (observed s) - (i + 1)) = omega arith in
    let on : observed_at + 2 * i + 2 ≡ observed_at + 2 * (i + 1) = omega arith in
    ap (fields_at s (observed_at + 2 * i)) left
    ∙ ap (λ (at : ℕ). field_at s (observed_at + 2 * i) ∷ fields_at s at (length (observed s) - (i + 1))) on

pub observed_none : (s : List ℕ) (i : ℕ) → length (observed s) ≤ i → observed_from s i ≡ []
unfolding observed_from fields_at
observed_none s i h = let none : length (observed s) - i ≡ 0 = omega arith in ap (fields_at s (observed_at + 2 * i)) none

-- the field of the i-th
pub observed_within : (s : List ℕ) (i : ℕ) → Formed s → i < length (observed s) → observed_at + 2 * i + 2 ≤ length s
observed_within s i f h = omega (arith, f.long)

-- a test of each
module _ (t : ℕ → Bool) (s : List ℕ) (i : ℕ) where
  -- nothing is left
  pub all_none : length (observed s) ≤ i → all t (observed_from s i) ≡ true
  all_none h = ap (all t) (observed_none s i h)

  -- the next atom passes
  pub all_met : i < length (observed s) → t (field_at s (observed_at + 2 * i)) ≡ true → all t (observed_from s i) ≡ all t (observed_from s (i + 1))
  all_met h e = ap (all t) (observed_next s i h) ∙ rw e

  -- the next atom fails
  pub all_unmet : i < length (observed s) → t (field_at s (observed_at + 2 * i)) ≡ false → all t (observed_from s i) ≡ false
  all_unmet h e = ap (all t) (observed_next s i h) ∙ rw e
