-- `walk::records::Records::take_literals` meets its contract. Assumes nothing.
use Rattle.std.proofs.Common.{◌≡◌, ℕ, ◌+◌, sym, ap, ◌∙◌, arith}
use Rattle.image.specs.paper.Walk.{found}
use Rattle.faults.specs.Taking.{seen}
use Rattle.walk.specs.Each.{each_done, each_more, each_poured}
use Rattle.walk.specs.Passing.{taken_err}
use Rattle.walk.specs.Seen.{literal_seen}
use Rattle.walk.proofs.records.Records.take_literals.Goals as goal

pub returns-in_err-next : goal.returns-in_err-next
returns-in_err-next c =
    taken_err _ _ c.from_residual.ensures.1
    (sym (each_poured _ _ _ _ _)
    ∙ c.loop.invariant
    ∙ each_more _ _ _ _ _ c.loop-test.true
    (ap (seen (λ _. c.loop.counter + 1)) c.in_err-next.ensures ∙ sym (literal_seen _ _ _ _)))

pub loop-preserved : goal.loop-preserved
loop-preserved c =
    c.loop.invariant
    ∙ each_more _ _ _ _ _ c.loop-test.true
    (ap (seen (λ _. c.loop.counter + 1)) c.in_ok-next.ensures ∙ sym (literal_seen _ _ _ _))

pub returns : goal.returns
returns c =
    let all : c.args.count ≡ c.loop.counter = omega arith in
    ap (λ (n : ℕ). found n c.loop.at) all
    ∙ sym (sym (each_poured _ _ _ _ _) ∙ c.loop.invariant ∙ each_done _ _ _ _ _ c.loop-test.false)
