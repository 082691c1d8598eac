-- `text::numbers::give_numbers` meets its contract. Assumes nothing.
use Rattle.std.specs.Prelude.{ℕ, List, ◌+◌, ◌<◌, length}
use Rattle.std.proofs.Common.{arith, sym}
use Rattle.std.proofs.Math.Path.{subst₂}
use Rattle.text.specs.Given.{Giving, giving_marked, giving_other}
use Rattle.text.proofs.numbers.give_numbers.Goals.{then-entries-i-eq1, else-entries-i-eq1}
use Rattle.text.proofs.numbers.give_numbers.Goals as goal

pub loop-i-preserved : goal.loop-i-preserved
loop-i-preserved c =
    let a = c.args in
    let l = c.loop-i in
    let inside : l.i < length a.entries.now = omega (arith, c.requires.2) in
    let room : l.i < length l.numbers = omega (arith, l.invariant.size) in
    elim c.if-entries-i-eq1.branch [
      | then-entries-i-eq1 w ↦
          subst₂ (λ (v : List ℕ) (b : ℕ). Giving a.entries.now a.marked v b (l.i + 1)) (sym w.numbers-is) (sym w.before-is)
          (giving_marked l.invariant inside room w.if-entries-i-eq1.true)
      | else-entries-i-eq1 w ↦
          subst₂ (λ (v : List ℕ) (b : ℕ). Giving a.entries.now a.marked v b (l.i + 1)) (sym w.numbers-is) (sym w.before-is)
          (giving_other l.invariant inside room w.if-entries-i-eq1.false)
    ]
