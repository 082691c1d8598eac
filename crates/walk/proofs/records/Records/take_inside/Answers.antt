-- `walk::records::Records::take_inside` meets its contract. Assumes nothing.
use Rattle.std.proofs.Common.{◌+◌, sym, ap, ◌∙◌, arith}
use Rattle.image.specs.paper.Book.{literal_count}
use Rattle.image.specs.WalkLaws.{field_found}
use Rattle.image.specs.FaultLaws.{conditions_fine}
use Rattle.faults.specs.Taking.{seen}
use Rattle.walk.specs.Passing.{taken_err}
use Rattle.walk.specs.Seen.{lits_ahead, inside_no_count, inside_no_lits, inside_seen}
use Rattle.walk.proofs.records.Records.take_inside.Goals as goal

pub with-requires : goal.with-requires
with-requires c = (omega arith, (conditions_fine _ _ _ _ (field_found _ _ _ _ _ (sym c.in_ok-count.ensures)).is_fine).1)

pub returns-in_err-count : goal.returns-in_err-count
returns-in_err-count c =
    λ n h.
    taken_err _ _ c.from_residual.ensures.1
    (ap (seen (λ k. c.args.sum + literal_count k)) (inside_no_count _ _ _ _ n _ _ (sym c.in_err-count.ensures)))

pub returns-in_err-ways : goal.returns-in_err-ways
returns-in_err-ways c =
    λ n h.
    taken_err _ _ c.from_residual-in_err-ways.ensures.1
    (ap (seen (λ k. c.args.sum + literal_count k))
    (inside_no_lits _ _ _ _ n _ _ (sym c.in_ok-count.ensures) (sym c.in_err-ways.ensures)))

pub returns : goal.returns
returns c =
    λ n h.
    let lits = sym c.in_ok-ways.ensures in
    let on = (field_found _ _ _ _ _ (sym c.in_ok-count.ensures)).behind in
    let ahead = lits_ahead _ _ _ _ _ _ lits in
    rw (← c.with.ensures) (c.take_ways.ensures n (omega arith)) ∙ sym (inside_seen _ _ _ _ n _ _ (sym c.in_ok-count.ensures) lits)
