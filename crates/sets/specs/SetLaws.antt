-- The laws of sets as numbers: membership and `inside` agree, the ones of a set are its members, and the order is one.
-- Assumes nothing.
use Rattle.std.specs.Prelude.{◌≡◌, refl, Bool, true, false, ◌&&◌, ◌↔◌, ◌⊎◌, List, ◌∷◌, map, [], ℕ, zero, suc, ◌+◌, ◌-◌, ◌*◌, ◌/◌, ◌%◌, ◌^◌, min, ◌≤◌, ◌<◌, ltb, eqb, length}
use Rattle.std.proofs.Common.{sym, ap, ◌∙◌, inl, inr, ⊎_elim, div-one, le_of_suc-le-suc, not-suc-le-zero, zero-lt-suc, pow-suc, div-mul-le_self, le_trans, lt_of_lt_of_le, mul-le-mul_right, le_of_eq, one-mul, mod-lt, lt_of_not-le, not-le_of_lt, arith, ltb-true, ltb-false, eqb-true, lt-ltb, eq-eqb, shr-shr, pow_pos, pow_mono}
use Rattle.std.proofs.Math.Path.{fun_ext}
use mathlib.Core.List.Memᴰ
use Rattle.std.proofs.lemmas.Bool.{eqb-false}
use Rattle.std.proofs.Math.Arith.{bin_ind}
use Rattle.std.specs.Int.Bits.{bit_and, and_self, and_step}
use Rattle.std.proofs.lemmas.Nat.{and_comm, and_shr}
use Rattle.std.specs.Int.Count.{ones, ones_in}
use Rattle.std.proofs.Math.Pow.{split}
use Rattle.base.specs.Bools.{clash, decide, both, both_left, both_right, either, either_left, either_right, same_test}
use Rattle.base.specs.paper.Lists.{◌∈◌, filter, put, Pairwise}
use Rattle.base.specs.Lists.{here, there}
use Rattle.base.specs.Parts.{filter_has, filter_from, pairwise_filter}
use Rattle.base.specs.paper.Members.{has}
use Rattle.sets.specs.paper.Sets.{inside, sooner}

-- the code's sets have so many bits
abbrev pub set_bits : ℕ
set_bits = 64

-- ---- membership, digit by digit

-- the lowest digit
pub has_zero : (d : ℕ) → has d 0 ≡ eqb (d % 2) 1
has_zero d = ap (λ (n : ℕ). eqb (n % 2) 1) (div-one d)

-- and the others, which the half has
pub has_suc : (d j : ℕ) → has d (suc j) ≡ has (d / 2) j
has_suc d j = ap (λ (n : ℕ). eqb (n % 2) 1) (sym (shr-shr d 1 j ∙ ap (λ (k : ℕ). d / 2 ^ k) (omega arith)))

-- a set built from the top down: b is its member 0, and the members of d follow
pub has_built_zero : (d b : ℕ) → b < 2 → has (2 * d + b) 0 ≡ eqb b 1
has_built_zero d b h = let low : (2 * d + b) % 2 ≡ b = omega arith in has_zero (2 * d + b) ∙ ap (λ (n : ℕ). eqb n 1) low

pub has_built_suc : (d b j : ℕ) → b < 2 → has (2 * d + b) (suc j) ≡ has d j
has_built_suc d b j h = let high : (2 * d + b) / 2 ≡ d = omega arith in has_suc (2 * d + b) j ∙ ap (λ (n : ℕ). has n j) high

has_power : (d j : ℕ) → has d j ≡ true → 2 ^ j ≤ d
has_power d j h =
    let one : d / 2 ^ j % 2 ≡ 1 = eqb-true (d / 2 ^ j % 2) 1 h in
    le_trans (le_of_eq (sym (one-mul (2 ^ j)))) (le_trans (mul-le-mul_right (2 ^ j) (omega arith)) (div-mul-le_self d (2 ^ j)))

power_above : (k : ℕ) → k < 2 ^ k
power_above zero = zero-lt-suc 0
power_above (suc k) = omega (arith, power_above k, pow-suc 2 k)

-- a set has no member at its own number or above
pub has_below : (d j : ℕ) → has d j ≡ true → j < d
has_below d j h = lt_of_lt_of_le (power_above j) (has_power d j h)

-- ---- inside

pub inside_has : (a b : ℕ) → inside a b ≡ true → (j : ℕ) → has a j ≡ true → has b j ≡ true
inside_has a b i j h =
    let x = a / 2 ^ j in
    let y = b / 2 ^ j in
    let one : x % 2 ≡ 1 = eqb-true (x % 2) 1 h in
    let e : bit_and x y ≡ x = sym (and_shr a b j) ∙ ap (λ (n : ℕ). n / 2 ^ j) (eqb-true (bit_and a b) a i) in
    eq-eqb (y % 2) 1 (omega (arith, and_step x y, mod-lt y (zero-lt-suc 1)))

pub has_inside : (a b : ℕ) → ((j : ℕ) → has a j ≡ true → has b j ≡ true) → inside a b ≡ true
has_inside a b h = eq-eqb (bit_and a b) a (go a b h)
  where
    low : (n c : ℕ) → (has n 0 ≡ true → has c 0 ≡ true) → n % 2 ≤ c % 2
    low n c f =
        ⊎_elim
        (λ (t : has n 0 ≡ true). omega (arith, eqb-true (c % 2) 1 (sym (has_zero c) ∙ f t)))
        (λ (t : has n 0 ≡ false). omega (arith, eqb-false (n % 2) 1 (sym (has_zero n) ∙ t)))
        (decide (has n 0))

    go : (n c : ℕ) → ((j : ℕ) → has n j ≡ true → has c j ≡ true) → bit_and n c ≡ n
    go =
        bin_ind (λ (n : ℕ). (c : ℕ) → ((j : ℕ) → has n j ≡ true → has c j ≡ true) → bit_and n c ≡ n) (λ c f. refl)
        (λ n rest c f.
        let r : bit_and (n / 2) (c / 2) ≡ n / 2 = rest (c / 2) (λ j p. sym (has_suc c j) ∙ f (suc j) (has_suc n j ∙ p)) in
        omega (arith, and_step n c, low n c (f 0)))

pub inside_reflexive : (a : ℕ) → inside a a ≡ true
inside_reflexive a = eq-eqb (bit_and a a) a (and_self a)

pub inside_transitive : (a b c : ℕ) → inside a b ≡ true → inside b c ≡ true → inside a c ≡ true
inside_transitive a b c p q = has_inside a c (λ j h. inside_has b c q j (inside_has a b p j h))

pub inside_antisymmetric : (a b : ℕ) → inside a b ≡ true → inside b a ≡ true → a ≡ b
inside_antisymmetric a b p q = sym (eqb-true (bit_and a b) a p) ∙ and_comm a b ∙ eqb-true (bit_and b a) b q

-- sets with the same members are the same number
pub same_members : (a b : ℕ) → ((j : ℕ) → has a j ≡ has b j) → a ≡ b
same_members a b e = inside_antisymmetric a b (has_inside a b (λ j h. sym (e j) ∙ h)) (has_inside b a (λ j h. e j ∙ h))

-- a digit stands against a digit or against its opposite
against : (x y z : ℕ) → x < 2 → y < 2 → z ≡ 1 - y → min x y + min x z ≡ x
against x y z p q e = omega arith

-- a's members are those in b and those outside, where both are below 2 ^ k
in_and_outside : (k a b : ℕ) → a < 2 ^ k → b < 2 ^ k → bit_and a b + bit_and a (2 ^ k - 1 - b) ≡ a
in_and_outside zero a b p q = let none : a ≡ 0 = omega arith in ap (λ (n : ℕ). bit_and n b + bit_and n (1 - 1 - b)) none ∙ sym none
in_and_outside (suc k) a b p q = all (pow-suc 2 k) (in_and_outside k (a / 2) (b / 2) (omega (arith, pow-suc 2 k)) (omega (arith, pow-suc 2 k)))
  where
    rest : ℕ
    rest = 2 ^ suc k - 1 - b

    whole : (m n x y u v : ℕ) → m ≡ x * 2 + u → n ≡ y * 2 + v → x + y ≡ a / 2 → u + v ≡ a % 2 → m + n ≡ a
    whole m n x y u v f g h k = omega arith

    all : 2 ^ suc k ≡ 2 ^ k * 2 → bit_and (a / 2) (b / 2) + bit_and (a / 2) (2 ^ k - 1 - b / 2) ≡ a / 2 → bit_and a b + bit_and a rest ≡ a
    all e h =
        let high : rest / 2 ≡ 2 ^ k - 1 - b / 2 = omega (arith, e, q) in
        let low : rest % 2 ≡ 1 - b % 2 = omega (arith, e, q) in
        let halves : bit_and (a / 2) (b / 2) + bit_and (a / 2) (rest / 2) ≡ a / 2 = ap (λ (n : ℕ). bit_and (a / 2) (b / 2) + bit_and (a / 2) n) high ∙ h in
        whole (bit_and a b) (bit_and a rest) (bit_and (a / 2) (b / 2)) (bit_and (a / 2) (rest / 2)) (min (a % 2) (b % 2)) (min (a % 2) (rest % 2))
        (and_step a b) (and_step a rest) halves (against (a % 2) (b % 2) (rest % 2) (mod-lt a (zero-lt-suc 1)) (mod-lt b (zero-lt-suc 1)) low)

-- so a is inside b where it has nothing outside
pub inside_outside : (k a b : ℕ) → a < 2 ^ k → b < 2 ^ k → eqb (bit_and a (2 ^ k - 1 - b)) 0 ≡ inside a b
inside_outside k a b p q =
    same_test
    (λ t. eq-eqb (bit_and a b) a (omega (arith, in_and_outside k a b p q, eqb-true (bit_and a (2 ^ k - 1 - b)) 0 t)))
    (λ t. eq-eqb (bit_and a (2 ^ k - 1 - b)) 0 (omega (arith, in_and_outside k a b p q, eqb-true (bit_and a b) a t)))

-- a number below 2 ^ k is a set of abducibles below k
pub within_has : (d k : ℕ) → d < 2 ^ k → (j : ℕ) → has d j ≡ true → j < k
within_has d k h j p = lt_of_not-le (λ (l : k ≤ j). not-le_of_lt h (le_trans (pow_mono l) (has_power d j p)))

pub has_within : (d k : ℕ) → ((j : ℕ) → has d j ≡ true → j < k) → d < 2 ^ k
has_within d k f =
    let none : d / 2 ^ k ≡ 0 = same_members (d / 2 ^ k) 0 above in
    omega (arith, split d k, mod-lt d (pow_pos k), ap (λ (n : ℕ). n * 2 ^ k) none)
  where
    above : (j : ℕ) → has (d / 2 ^ k) j ≡ has 0 j
    above j =
        let same : has (d / 2 ^ k) j ≡ has d (k + j) = ap (λ (n : ℕ). eqb (n % 2) 1) (shr-shr d k j) in
        same_test (λ t. absurd (beyond (f (k + j) (sym same ∙ t)))) (λ t. absurd (not-suc-le-zero (has_below 0 j t)))
      where
        beyond : k + j < k → ⊥
        beyond l = omega arith

-- ---- the members, listed and counted

-- the numbers below n, ascending
unfoldable pub up_to : ℕ → List ℕ
up_to zero = []
up_to (suc n) = 0 ∷ map suc (up_to n)

-- the members of d, ascending
unfoldable pub members : ℕ → List ℕ
members d = filter (has d) (up_to d)

up_to_has : (n j : ℕ) → j < n → j ∈ up_to n
unfolding up_to
up_to_has zero j h = absurd (not-suc-le-zero h)
up_to_has (suc n) zero h = here
up_to_has (suc n) (suc j) h = there (Memᴰ.map suc (up_to_has n j (le_of_suc-le-suc h)))

up_to_ascends : (n : ℕ) → Pairwise (λ i j. i < j) (up_to n)
unfolding up_to
up_to_ascends zero = tt
up_to_ascends (suc n) = (λ j m. above (Memᴰ.of_map suc (up_to n) m), raised (up_to n) (up_to_ascends n))
  where
    above : {j : ℕ} → (i : ℕ) × (i ∈ up_to n) × (suc i ≡ j) → 0 < j
    above w = omega (arith, w.2)

    over : {i j : ℕ} (l : List ℕ) → ((k : ℕ) → k ∈ l → i < k) → (k : ℕ) × (k ∈ l) × (suc k ≡ j) → suc i < j
    over l f w = omega (arith, f w.0 w.1, w.2)

    raised : (l : List ℕ) → Pairwise (λ i j. i < j) l → Pairwise (λ i j. i < j) (map suc l)
    raised [] p = tt
    raised (i ∷ l) p = (λ j m. over l p.0 (Memᴰ.of_map suc l m), raised l p.1)

-- the list of members has exactly the members, ascending, so once each
pub members_has : (d j : ℕ) → j ∈ members d ↔ has d j ≡ true
unfolding members
members_has d j = (λ m. (filter_from (has d) (up_to d) m).1, λ h. filter_has (has d) (up_to d) (up_to_has d j (has_below d j h)) h)

pub members_ascend : (d : ℕ) → Pairwise (λ i j. i < j) (members d)
unfolding members
members_ascend d = pairwise_filter (λ i j. i < j) (has d) (up_to d) (up_to_ascends d)

raised_count : (t : ℕ → Bool) (l : List ℕ) → length (filter t (map suc l)) ≡ length (filter (λ j. t (suc j)) l)
raised_count t [] = refl
raised_count t (j ∷ l) = go (t (suc j)) (raised_count t l)
  where
    go : (b : Bool) → length (filter t (map suc l)) ≡ length (filter (λ j. t (suc j)) l)
        → length (put b (suc j) (filter t (map suc l))) ≡ length (put b j (filter (λ j. t (suc j)) l))
    go true e = ap suc e
    go false e = e

counted : (k d : ℕ) → ones_in k d ≡ length (filter (has d) (up_to k))
unfolding ones_in up_to
counted zero d = refl
counted (suc k) d =
    go (has d 0) refl
    (counted k (d / 2) ∙ ap (λ (t : ℕ → Bool). length (filter t (up_to k))) (sym (fun_ext (has_suc d))) ∙ sym (raised_count (has d) (up_to k)))
  where
    go : (b : Bool) → has d 0 ≡ b → ones_in k (d / 2) ≡ length (filter (has d) (map suc (up_to k)))
        → d % 2 + ones_in k (d / 2) ≡ length (put b 0 (filter (has d) (map suc (up_to k))))
    go true h e = omega (arith, eqb-true (d % 2) 1 (sym (has_zero d) ∙ h))
    go false h e = omega (arith, eqb-false (d % 2) 1 (sym (has_zero d) ∙ h), mod-lt d (zero-lt-suc 1))

-- a set's count of ones is the number of its members
pub ones_members : (d : ℕ) → ones d ≡ length (members d)
unfolding ones members
ones_members d = counted d d

-- ---- the order

pub sooner_means : (a b : ℕ) → sooner a b ≡ true → (ones a < ones b) ⊎ ((ones a ≡ ones b) × (a < b))
sooner_means a b h =
    ⊎_elim
    (λ (l : ltb (ones a) (ones b) ≡ true). inl (ltb-true (ones a) (ones b) l))
    (λ (r : (eqb (ones a) (ones b) && ltb a b) ≡ true).
    inr (eqb-true (ones a) (ones b) (both_left (eqb (ones a) (ones b)) (ltb a b) r), ltb-true a b (both_right (eqb (ones a) (ones b)) (ltb a b) r)))
    (either (ltb (ones a) (ones b)) (eqb (ones a) (ones b) && ltb a b) h)

pub means_sooner : (a b : ℕ) → (ones a < ones b) ⊎ ((ones a ≡ ones b) × (a < b)) → sooner a b ≡ true
means_sooner a b (inl l) = either_left (ltb (ones a) (ones b)) (eqb (ones a) (ones b) && ltb a b) (lt-ltb (ones a) (ones b) l)
means_sooner a b (inr r) =
    either_right (ltb (ones a) (ones b)) (eqb (ones a) (ones b) && ltb a b)
    (both (eqb (ones a) (ones b)) (ltb a b) (eq-eqb (ones a) (ones b) r.0) (lt-ltb a b r.1))

pub sooner_irreflexive : (a : ℕ) → sooner a a ≡ false
sooner_irreflexive a = ⊎_elim (λ (t : sooner a a ≡ true). absurd (never (sooner_means a a t))) (λ f. f) (decide (sooner a a))
  where
    never : (ones a < ones a) ⊎ ((ones a ≡ ones a) × (a < a)) → ⊥
    never (inl l) = omega arith
    never (inr r) = omega arith

pub sooner_transitive : (a b c : ℕ) → sooner a b ≡ true → sooner b c ≡ true → sooner a c ≡ true
sooner_transitive a b c p q = means_sooner a c (go (sooner_means a b p) (sooner_means b c q))
  where
    go : (ones a < ones b) ⊎ ((ones a ≡ ones b) × (a < b)) → (ones b < ones c) ⊎ ((ones b ≡ ones c) × (b < c))
        → (ones a < ones c) ⊎ ((ones a ≡ ones c) × (a < c))
    go (inl l) (inl m) = inl (omega arith)
    go (inl l) (inr m) = inl (omega arith)
    go (inr l) (inl m) = inl (omega arith)
    go (inr l) (inr m) = inr (omega arith)

pub sooner_total : (a b : ℕ) → sooner a b ≡ false → sooner b a ≡ false → a ≡ b
sooner_total a b p q = go (decide (ltb (ones a) (ones b))) (decide (ltb (ones b) (ones a))) (decide (ltb a b)) (decide (ltb b a))
  where
    -- neither way round
    no : {x y : ℕ} → sooner x y ≡ false → (ones x < ones y) ⊎ ((ones x ≡ ones y) × (x < y)) → a ≡ b
    no {x} {y} f w = clash (means_sooner x y w) f

    go : (ltb (ones a) (ones b) ≡ true) ⊎ (ltb (ones a) (ones b) ≡ false) → (ltb (ones b) (ones a) ≡ true) ⊎ (ltb (ones b) (ones a) ≡ false)
        → (ltb a b ≡ true) ⊎ (ltb a b ≡ false) → (ltb b a ≡ true) ⊎ (ltb b a ≡ false) → a ≡ b
    go (inl l) m s t = no p (inl (ltb-true (ones a) (ones b) l))
    go (inr l) (inl m) s t = no q (inl (ltb-true (ones b) (ones a) m))
    go (inr l) (inr m) (inl s) t = no p (inr (omega (arith, ltb-false, ltb-true)))
    go (inr l) (inr m) (inr s) (inl t) = no q (inr (omega (arith, ltb-false, ltb-true)))
    go (inr l) (inr m) (inr s) (inr t) = omega (arith, ltb-false)

-- the example of paper 01, 5.6: {2} before {0,1}
two_before_zero_one : sooner (2 ^ 2) (2 ^ 0 + 2 ^ 1) ≡ true
unfolding ones
two_before_zero_one = refl
