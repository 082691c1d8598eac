-- `grammar::goal_end` meets its contract. Assumes nothing.
use Rattle.std.specs.Prelude.{◌+◌, ◌≡◌, length}
use Rattle.std.proofs.Common.{arith, ap, ◌∙◌}
use Rattle.spelling.specs.Codes.{dot_code}
use Rattle.grammar.specs.Places.{side_end}
use Rattle.grammar.proofs.PlaceLaws.{no_query, no_dot, stands_not, goal_found}
use Rattle.grammar.proofs.goal_end.Goals as goal

pub returns-in_err-query : goal.returns-in_err-query
returns-in_err-query c = rw c.from_residual.ensures (no_query c.args.codes.now c.args.at c.in_err-query.ensures)

pub returns-in_err-side : goal.returns-in_err-side
returns-in_err-side c =
    let codes = c.args.codes.now in
    let at = c.args.at in
    let q = c.in_ok-query.ensures in
    let s : length codes ≡ side_end codes (at + 1) = c.in_err-side.ensures ∙ ap (side_end codes) q.1 in
    rw c.from_residual-in_err-side.ensures (no_dot codes at (length codes) q.0 s (stands_not codes dot_code (length codes) (omega arith) (omega arith)))

pub returns : goal.returns
returns c =
    let codes = c.args.codes.now in
    let q = c.in_ok-query.ensures in
    goal_found codes c.args.at c.in_ok-side.side q.0 (c.in_ok-side.ensures ∙ ap (side_end codes) q.1) c.word_end-2.result c.word_end-2.ensures
