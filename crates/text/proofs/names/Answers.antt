-- `text::names` keeps its promise. Assumes nothing.
use Rattle.std.specs.Prelude.{◌≤◌, ◌++◌, length, take}
use Rattle.std.proofs.Common.{arith, sym, ◌∙◌}
use Rattle.std.proofs.lemmas.List.{length-take-le}
use Rattle.std.proofs.lemmas.Result.{err_from_is_err_and}
use Rattle.spelling.specs.paper.Answer.{name_lines}
use Rattle.text.specs.Made.{writes_refusal, writes_delivered}
use Rattle.text.specs.Lines.{lines_by, lined_size, lined_taken, length_take_most}
use Rattle.text.specs.Named.{found_lines, found_short}
use Rattle.text.proofs.names.Goals as goal
use Rattle.text.proofs.names.Goals.{In_ok-make}

pub returns-in_err-make : goal.returns-in_err-make
returns-in_err-make c =
    let p = err_from_is_err_and c.from_residual.result c.from_residual.ensures.1 in
    rw (p.1, p.2) (writes_refusal name_lines _ _ _ (c.in_err-make.ensures.answer name_lines _))

-- the table has the names, and there is room for their lines
few : (c : In_ok-make) → c.make.new.table.names ≤ length c.make.new.table.entries
few c = omega (arith, c.in_ok-make.ensures.lent.1, c.in_ok-make.ensures.answer.few)

short : (c : In_ok-make) → let listed = take c.make.new.table.names c.make.new.table.entries in
    length (lines_by c.args.text.now 1 listed ++ lines_by c.args.text.now 0 listed) ≤ length c.make.new.image
short c = omega (arith, found_short c.in_ok-make.ensures.answer (few c), c.in_ok-make.ensures.lent.0)

pub write_lines-n-requires : goal.write_lines-n-requires
write_lines-n-requires c = short (goal.at.write_lines-n-requires c).In_ok-make

pub slice_bounds-made-end : goal.slice_bounds-made-end
slice_bounds-made-end c =
    let w = c.write_lines-n.ensures in
    omega (arith, w.end, lined_size w, short (goal.at.slice_bounds-made-end c).In_ok-make)

pub slice_bounds-deliver-end : goal.slice_bounds-deliver-end
slice_bounds-deliver-end c =
    let w = c.write_lines-n.ensures in
    sym (length-take-le _ _ (omega (arith, w.end, lined_size w, short (goal.at.slice_bounds-deliver-end c).In_ok-make)))

pub deliver-requires : goal.deliver-requires
deliver-requires c =
    let w = c.write_lines-n.ensures in
    let d = (goal.at.deliver-requires c).In_ok-make in
    omega (
      arith,
      w.end,
      found_short d.in_ok-make.ensures.answer (few d),
      length_take_most c.write_lines-n.result c.write_lines-n.new.room,
    )

pub returns : goal.returns
returns c =
    let d = (goal.at.returns c).In_ok-make in
    let f = c.in_ok-make.ensures.answer in
    let w = c.write_lines-n.ensures in
    writes_delivered name_lines _ _ f.d f.clear f.good _ (lined_taken w (omega (arith, short d)) ∙ found_lines f (few d)) _ _
    c.deliver.ensures.answer c.deliver.ensures.left
