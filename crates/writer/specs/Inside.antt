-- The inside of a record, by its kind: what each call needs, and what they leave.
-- Assumes nothing.
use Rattle.std.specs.Prelude.{ℕ, ◌+◌, ◌-◌, ◌*◌, ◌≤◌, ◌≡◌, List, ◌++◌, length}
use Rattle.std.proofs.Common.{arith, sym, ap, length-append, eq-eqb, ne_eqb}
use Rattle.std.proofs.Math.Seq.{slice}
use Rattle.base.specs.Bools.{choose_true, choose_false}
use Rattle.spelling.specs.Codes.{dot_code}
use Rattle.writer.specs.Fields.{Part, number_in, rule_of, lits_of, counted, ways_of, inside_of}
use Rattle.writer.specs.Wrote.{Wrote, wrote_length, wrote_same, wrote_more}
use Rattle.writer.specs.Due.{parts_from}

module _ (codes : List ℕ) (goal : ℕ) (numbers : List ℕ) (kind from to : ℕ) where
  abbrev ks : List ℕ
  ks = slice from to codes

  abbrev ps : List Part
  ps = parts_from codes (to + 1) goal

  abbrev all : List ℕ
  all = inside_of (number_in numbers) kind ks ps

  abbrev conditions : List ℕ
  conditions = counted (lits_of (number_in numbers) ks)

  abbrev ways : List ℕ
  ways = ways_of (number_in numbers) ps

  module _ (e : kind ≡ dot_code) where
    clause : all ≡ rule_of (number_in numbers) ks
    unfolding inside_of
    clause = choose_true _ _ (eq-eqb _ _ e)

    pub clause_room : (at n : ℕ) → at + 2 * length all ≤ n → 2 * length (rule_of (number_in numbers) ks) ≤ n - at
    clause_room at n h = omega (arith, ap length clause)

    pub clause_wrote : {l m : List ℕ} {at r : ℕ} → Wrote (rule_of (number_in numbers) ks) l at m r → Wrote all l at m r
    clause_wrote w = wrote_same (sym clause) w

  module _ (e : kind ≡ dot_code → ⊥) where
    constraint : all ≡ conditions ++ ways
    unfolding inside_of
    constraint = choose_false _ _ (ne_eqb _ _ e)

    pub conditions_room : (at n : ℕ) → at + 2 * length all ≤ n → at + 2 * length conditions ≤ n
    conditions_room at n h = omega (arith, ap length constraint, length-append conditions ways)

    module _ {l m : List ℕ} {at r : ℕ} (w : Wrote conditions l at m r) where
      pub ways_room : at + 2 * length all ≤ length l → r + 2 * length ways ≤ length m
      ways_room h = omega (arith, ap length constraint, length-append conditions ways, w.end, wrote_length w)

      pub constraint_wrote : {n : List ℕ} {s : ℕ} → Wrote ways m r n s → Wrote all l at n s
      constraint_wrote v = wrote_same (sym constraint) (wrote_more w v)
