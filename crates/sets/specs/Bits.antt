-- The bits of a set: the empty set, the set of one member, what two sets have together and what both have, member by member; the set of a
-- member as the code computes it; and the test that a set has a member from a number on.
-- Assumes nothing.
use Rattle.std.specs.Prelude.{ℕ, zero, suc, ◌*◌, ◌/◌, ◌%◌, ◌^◌, max, min, ◌≤◌, ◌<◌, ◌≡◌, refl, true, false, ◌&&◌, ◌||◌, ◌⊎◌, leb, ltb, eqb}
use Rattle.std.proofs.Common.{sym, ap, subst, ◌∙◌, inl, inr, arith, pow-suc, mod-lt, zero-lt-suc, le-div_iff_mul-le, one-mul, lt_of_lt_of_le, eqb-true, eq-eqb, leb-true, le-leb, ltb-true, lt-ltb, shl_exact, pow_pos, pow_mono}
use Rattle.std.proofs.Math.Nat.{zero-div}
use Rattle.std.proofs.lemmas.Bool.{eqb-false, lt-leb}
use Rattle.std.specs.Int.Bits.{bit_and, bit_or, and_step, or_step}
use Rattle.std.proofs.lemmas.Nat.{and_shr, or_shr}
use Rattle.std.proofs.Math.Dec.{eqb-zero-suc, eqb-suc-zero, eqb-suc-suc}
use Rattle.base.specs.Bools.{decide, both, both_left, both_right, either, either_left, either_right, same_test}
use Rattle.base.specs.paper.Members.{has}
use Rattle.sets.specs.SetLaws.{set_bits, has_zero, has_suc}

-- nothing is in the empty set
pub has_none : (j : ℕ) → has 0 j ≡ false
has_none j = ap (λ (n : ℕ). eqb (n % 2) 1) (zero-div (2 ^ j))

-- the set of one member
pub has_one : (j i : ℕ) → has (2 ^ j) i ≡ eqb j i
has_one zero zero = refl
has_one zero (suc i) = has_suc 1 i ∙ has_none i ∙ sym (eqb-zero-suc i)
has_one (suc j) zero =
    let even : 2 ^ suc j % 2 ≡ 0 = omega (arith, pow-suc 2 j) in
    has_zero (2 ^ suc j) ∙ ap (λ (n : ℕ). eqb n 1) even ∙ sym (eqb-suc-zero j)
has_one (suc j) (suc i) =
    let half : 2 ^ suc j / 2 ≡ 2 ^ j = omega (arith, pow-suc 2 j) in
    has_suc (2 ^ suc j) i ∙ ap (λ (n : ℕ). has n i) half ∙ has_one j i ∙ sym (eqb-suc-suc j i)

-- the greater of two digits is 1 where one of them is
one_of : (x y : ℕ) → x < 2 → y < 2 → eqb (max x y) 1 ≡ (eqb x 1 || eqb y 1)
one_of x y h k = same_test (λ t. there t (decide (eqb x 1))) (λ t. eq-eqb (max x y) 1 (back (either (eqb x 1) (eqb y 1) t)))
  where
    there : eqb (max x y) 1 ≡ true → (eqb x 1 ≡ true) ⊎ (eqb x 1 ≡ false) → (eqb x 1 || eqb y 1) ≡ true
    there t (inl e) = either_left (eqb x 1) (eqb y 1) e
    there t (inr e) = either_right (eqb x 1) (eqb y 1) (eq-eqb y 1 (omega (arith, eqb-true (max x y) 1 t, eqb-false x 1 e)))

    back : (eqb x 1 ≡ true) ⊎ (eqb y 1 ≡ true) → max x y ≡ 1
    back (inl e) = omega (arith, eqb-true x 1 e)
    back (inr e) = omega (arith, eqb-true y 1 e)

pub has_or : (a b i : ℕ) → has (bit_or a b) i ≡ (has a i || has b i)
has_or a b i =
    let x : ℕ = a / 2 ^ i in
    let y : ℕ = b / 2 ^ i in
    let low : bit_or x y % 2 ≡ max (x % 2) (y % 2) = omega (arith, or_step x y, mod-lt x (zero-lt-suc 1), mod-lt y (zero-lt-suc 1)) in
    ap (λ (n : ℕ). eqb (n % 2) 1) (or_shr a b i) ∙ ap (λ (n : ℕ). eqb n 1) low ∙ one_of (x % 2) (y % 2) (mod-lt x (zero-lt-suc 1)) (mod-lt y (zero-lt-suc 1))

-- the lesser of two digits is 1 where both of them are
both_of : (x y : ℕ) → x < 2 → y < 2 → eqb (min x y) 1 ≡ (eqb x 1 && eqb y 1)
both_of x y h k =
    same_test
    (λ t. both (eqb x 1) (eqb y 1) (eq-eqb x 1 (omega (arith, eqb-true (min x y) 1 t))) (eq-eqb y 1 (omega (arith, eqb-true (min x y) 1 t))))
    (λ t. eq-eqb (min x y) 1 (omega (arith, eqb-true x 1 (both_left (eqb x 1) (eqb y 1) t), eqb-true y 1 (both_right (eqb x 1) (eqb y 1) t))))

pub has_and : (a b i : ℕ) → has (bit_and a b) i ≡ (has a i && has b i)
has_and a b i =
    let x : ℕ = a / 2 ^ i in
    let y : ℕ = b / 2 ^ i in
    let low : bit_and x y % 2 ≡ min (x % 2) (y % 2) = omega (arith, and_step x y, mod-lt x (zero-lt-suc 1), mod-lt y (zero-lt-suc 1)) in
    ap (λ (n : ℕ). eqb (n % 2) 1) (and_shr a b i) ∙ ap (λ (n : ℕ). eqb n 1) low ∙ both_of (x % 2) (y % 2) (mod-lt x (zero-lt-suc 1)) (mod-lt y (zero-lt-suc 1))

-- a member's set, as the code computes it
pub bit_power : (j : ℕ) → j < set_bits → 1 * 2 ^ j % 2 ^ set_bits ≡ 2 ^ j
bit_power j h = let e : 1 * 2 ^ j ≡ 2 ^ j = omega arith in shl_exact {a = 1} 1 j set_bits (omega arith) (omega arith) ∙ e

-- ---- members from a number on

pub above : (d k : ℕ) → ltb 0 (d / 2 ^ k) ≡ leb (2 ^ k) d
above d k = same_test to back
  where
    to : ltb 0 (d / 2 ^ k) ≡ true → leb (2 ^ k) d ≡ true
    to e = le-leb (2 ^ k) d (subst (λ (n : ℕ). n ≤ d) (one-mul (2 ^ k)) ((le-div_iff_mul-le (pow_pos k)).0 (ltb-true 0 (d / 2 ^ k) e)))

    back : leb (2 ^ k) d ≡ true → ltb 0 (d / 2 ^ k) ≡ true
    back e = lt-ltb 0 (d / 2 ^ k) ((le-div_iff_mul-le (pow_pos k)).1 (subst (λ (n : ℕ). n ≤ d) (sym (one-mul (2 ^ k))) (leb-true (2 ^ k) d e)))

pub none_above : (d k : ℕ) → d < 2 ^ set_bits → set_bits ≤ k → false ≡ leb (2 ^ k) d
none_above d k h l = sym (lt-leb (2 ^ k) d (lt_of_lt_of_le h (pow_mono l)))
