-- `text::lines::write_name` meets its contract. Assumes nothing.
use Rattle.std.specs.Prelude.{◌∷◌, ◌+◌, ◌≡◌, length, get_or}
use Rattle.std.proofs.Common.{arith, sym, ap, ◌∙◌}
use Rattle.spelling.specs.Table.{name_at}
use Rattle.text.specs.Lines.{owing_byte, owing_size, owing_lined, name_goes, name_ends, text_ends}
use Rattle.text.proofs.lines.write_name.Goals as goal
use Rattle.text.proofs.lines.write_name.Goals.{Else-not-in_name}

-- the byte that is written next
goes : (c : Else-not-in_name) → let text = c.args.text.now in let i = c.loop-i.i in name_at text i ≡ get_or text i 0 ∷ name_at text (i + 1)
goes c = name_goes _ _ c.loop-i-test.true (sym c.in_name.ensures ∙ c.if-not-in_name.false)

pub bounds-room-end : goal.bounds-room-end
bounds-room-end c =
    let o = c.loop-i.invariant in
    omega (arith, o.place, ap length (goes (goal.at.bounds-room-end c).Else-not-in_name), owing_size o, c.requires)

pub loop-i-preserved : goal.loop-i-preserved
loop-i-preserved c = owing_byte c.loop-i.invariant (goes (goal.at.loop-i-preserved c).Else-not-in_name)

pub returns-then-not-in_name : goal.returns-then-not-in_name
returns-then-not-in_name c =
    owing_lined c.loop-i.invariant (name_ends _ _ c.loop-i-test.true (sym c.in_name.ensures ∙ c.if-not-in_name.true))

pub returns : goal.returns
returns c = owing_lined c.loop-i.invariant (text_ends _ _ c.loop-i-test.false)
