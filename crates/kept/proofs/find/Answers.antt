-- `kept::find` meets its contract: none of the sets before passes, and one of a round or of the rest does.
-- Assumes nothing.
use Rattle.std.proofs.Common.{◌≡◌, ℕ, ◌+◌, ◌*◌, length, take, drop, sym, ap, subst, ◌∙◌, arith, length-take, false}
use Rattle.base.specs.paper.Lists.{any}
use Rattle.kept.specs.Agreed.{first}
use Rattle.kept.proofs.Finding.{first_early, first_met, none_met, none_at_all, round_at, rest_behind}
use Rattle.kept.proofs.find.Goals as goal
use Rattle.kept.proofs.find.Goals.{then-loop-i-test+in-Some, else-loop-i-test+in_ok-k}

pub overflow_add-result : goal.overflow_add-result
overflow_add-result g c =
    let sets = c.args.sets.now in
    let round = round_at 8 sets c.loop-i.i c.as_chunks.ensures.front (omega (arith, c.as_chunks.ensures.front_len)) in
    omega (arith, c.in-Some.ensures.within, ap length round, length-take 8 (drop (8 * c.loop-i.i) sets))

pub overflow_add-result-2 : goal.overflow_add-result-2
overflow_add-result-2 g c = omega (arith, c.in_ok-k.ensures.within, c.as_chunks.ensures.back_len)

pub loop-i-preserved : goal.loop-i-preserved
loop-i-preserved g c test d =
    let sets = c.args.sets.now in
    let i = c.loop-i.i in
    let round = round_at 8 sets i c.as_chunks.ensures.front (omega (arith, c.as_chunks.ensures.front_len)) in
    let next : 8 * i + 8 ≡ 8 * (i + 1) = omega arith in
    ap (λ (j : ℕ). any test (take j sets)) (sym next)
    ∙ none_met test sets (8 * i) (c.loop-i.invariant test d) 8 (c.in_default.ensures.first test d ∙ ap (first test) round)

pub returns-in_err-k : goal.returns-in_err-k
returns-in_err-k g c test d =
    let sets = c.args.sets.now in
    let at : c.loop-i.i ≡ length c.as_chunks.result.0.now = omega arith in
    let before = subst (λ (i : ℕ). any test (take (8 * i) sets) ≡ false) at (c.loop-i.invariant test d) in
    let rest = rest_behind 8 sets _ c.as_chunks.ensures.front_len c.as_chunks.ensures.back in
    c.from_residual.ensures ∙ none_at_all test sets (8 * length c.as_chunks.result.0.now) before (c.in_err-k.ensures.first test d ∙ ap (first test) rest)

-- a set of a round passes, or one of the rest
pub returns : goal.returns
returns g c test d =
    let sets = c.args.sets.now in
    let i = c.loop-i.i in
    elim c.loop-i-test.branch [
      | then-loop-i-test+in-Some w ↦
          let round = round_at 8 sets i c.as_chunks.ensures.front (omega (arith, c.as_chunks.ensures.front_len, w.loop-i-test.true)) in
          w.result-is
          ∙ first_met test sets (8 * i) (c.loop-i.invariant test d) (omega (arith, c.as_chunks.ensures.front_len, w.loop-i-test.true))
          (first_early test 8 (drop (8 * i) sets) (w.in-Some.ensures.first test d ∙ ap (first test) round))
      | else-loop-i-test+in_ok-k w ↦
          let at : i ≡ length c.as_chunks.result.0.now = omega (arith, w.loop-i-test.false) in
          let before = subst (λ (n : ℕ). any test (take (8 * n) sets) ≡ false) at (c.loop-i.invariant test d) in
          let rest = rest_behind 8 sets _ c.as_chunks.ensures.front_len c.as_chunks.ensures.back in
          w.result-is
          ∙ first_met test sets (8 * length c.as_chunks.result.0.now) before (omega (arith, c.as_chunks.ensures.front_len))
          (w.in_ok-k.ensures.first test d ∙ ap (first test) rest)
    ]
