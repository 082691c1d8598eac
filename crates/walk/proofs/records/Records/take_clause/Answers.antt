-- `walk::records::Records::take_clause` meets its contract. Assumes nothing.
use Rattle.std.proofs.Common.{ℕ, ◌+◌, sym, ap, ◌∙◌, arith}
use Rattle.image.specs.paper.Book.{body_count}
use Rattle.image.specs.paper.Faults.{limits}
use Rattle.image.specs.paper.Walk.{found}
use Rattle.image.specs.WalkLaws.{field_found}
use Rattle.image.specs.FaultLaws.{clause_fine}
use Rattle.faults.specs.Taking.{seen}
use Rattle.walk.specs.Passing.{taken_err}
use Rattle.walk.specs.Seeing.{seen_found, seen_fault}
use Rattle.walk.specs.Seen.{clause_no_size, clause_no_head, clause_seen, clause_total}
use Rattle.walk.proofs.records.Records.take_clause.Goals as goal

pub overflow_sub-size : goal.overflow_sub-size
overflow_sub-size c =
    let found = field_found _ _ _ _ _ (sym c.in_ok-size.ensures) in
    let sized = (clause_fine _ _ _ _ found.is_fine).sized.some in
    omega arith

pub with-requires : goal.with-requires
with-requires c =
    let fits =
    clause_total _ limits _ _ _ _ _ _
    (clause_seen _ _ _ _ _ _ (sym c.in_ok-size.ensures) (sym c.in_ok-body.ensures) ∙ sym c.in_ok-count.ensures)
    in
    (omega arith, omega arith)

pub returns-in_err-size : goal.returns-in_err-size
returns-in_err-size c =
    taken_err _ _ c.from_residual.ensures.1
    (ap (seen (λ k. c.args.sum + body_count k)) (clause_no_size _ _ _ _ _ _ (sym c.in_err-size.ensures)))

pub returns-in_err-body : goal.returns-in_err-body
returns-in_err-body c =
    taken_err _ _ c.from_residual-in_err-body.ensures.1
    (ap (seen (λ k. c.args.sum + body_count k))
    (clause_no_head _ _ _ _ _ _ (sym c.in_ok-size.ensures) (sym c.in_err-body.ensures)))

pub returns-in_err-count : goal.returns-in_err-count
returns-in_err-count c =
    taken_err _ _ c.from_residual-in_err-count.ensures.1
    (ap (seen (λ k. c.args.sum + body_count k))
    (seen_fault body_count _ _ _
    (clause_seen _ _ _ _ _ _ (sym c.in_ok-size.ensures) (sym c.in_ok-body.ensures) ∙ sym c.in_err-count.ensures)))

pub returns : goal.returns
returns c =
    let f =
    seen_found body_count _ _ _
    (clause_seen _ _ _ _ _ _ (sym c.in_ok-size.ensures) (sym c.in_ok-body.ensures) ∙ sym c.in_ok-count.ensures)
    in
    rw c.with.ensures
    (sym (ap (seen (λ k. c.args.sum + body_count k)) f.1 ∙ ap (λ (n : ℕ). found (c.args.sum + n) c.in_ok-count.next) f.2))
