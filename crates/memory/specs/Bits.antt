-- No set of a book's abducibles passes 64 bits.
-- Assumes nothing.
use Rattle.std.specs.Prelude.{ℕ, zero, suc, ◌+◌, ◌*◌, ◌^◌, ◌≤◌, ◌<◌, Bool, true, false, List}
use Rattle.std.proofs.Common.{arith, pow-suc, pow_mono}
use Rattle.base.specs.paper.Bools.{choose}
use Rattle.image.specs.paper.Book.{Lit, Book}
use Rattle.image.specs.paper.Faults.{limits}
use Rattle.searching.specs.paper.Rules.{gather, assumed, on}
use Rattle.memory.specs.Places.{bits64}

gather_below : (n : ℕ) (t : ℕ → Bool) → gather n t < 2 ^ n
unfolding gather
gather_below zero t = omega arith
gather_below (suc n) t = go (t 0) (gather_below n (λ j. t (suc j)))
  where
    go : (g : Bool) → gather n (λ j. t (suc j)) < 2 ^ n → 2 * gather n (λ j. t (suc j)) + choose g 1 0 < 2 ^ suc n
    go true h = omega (arith, pow-suc 2 n)
    go false h = omega (arith, pow-suc 2 n)

-- a set of a book's abducibles fits 64 bits
pub assumed_fits : (b : Book) (s : List Lit) → b.abducibles ≤ limits.abducibles → assumed b s < bits64
assumed_fits b s h =
    let m : 2 ^ b.abducibles ≤ 2 ^ 64 = pow_mono {i = b.abducibles} {j = 64} h in
    omega (arith, m, gather_below b.abducibles (λ j. on s (record { atom = j; sign = true })))
