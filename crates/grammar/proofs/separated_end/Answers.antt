-- `grammar::separated_end` meets its contract. Assumes nothing.
use Rattle.std.proofs.Common.{arith, sym, ap, ◌∙◌, subst, Some, None}
use Rattle.grammar.specs.Places.{end_or}
use Rattle.grammar.proofs.PlaceLaws.{Onward, onward_start, onward_less, onward_more, onward_done, onward_none}
use Rattle.grammar.proofs.separated_end.Goals as goal

pub returns-in_err-at : goal.returns-in_err-at
returns-in_err-at g c =
    let a = c.args in
    let q = c.requires in
    let on = onward_start a.codes.now a.separator (g.thing.end c.args.codes.now) q.1.1.0 (g.thing.forward c.args.codes.now) a.start in
    ap (end_or a.codes.now) c.from_residual.ensures
    ∙ sym (onward_none a.codes.now a.separator (g.thing.end c.args.codes.now) q.1.1.0 (g.thing.forward c.args.codes.now) a.start _ on (q.1.1.1 a.start None c.in_err-at.ensures))

pub loop-next-init : goal.loop-next-init
loop-next-init g c =
    let a = c.args in
    let q = c.requires in
    subst (Onward a.codes.now a.separator (g.thing.end c.args.codes.now) a.start) (sym (q.1.1.1 a.start (Some c.in_ok-at.at) c.in_ok-at.ensures))
    (onward_start a.codes.now a.separator (g.thing.end c.args.codes.now) q.1.1.0 (g.thing.forward c.args.codes.now) a.start)

pub returns-in_err-at-2 : goal.returns-in_err-at-2
returns-in_err-at-2 g c =
    let a = c.args in
    let q = c.requires in
    let l = c.loop-next in
    let on = onward_more a.codes.now a.separator (g.thing.end c.args.codes.now) q.1.1.0 (g.thing.forward c.args.codes.now) a.start l.at l.invariant c.in-Some.ensures.0 in
    ap (end_or a.codes.now) c.from_residual-in_err-at-2.ensures
    ∙ sym
    (onward_none a.codes.now a.separator (g.thing.end c.args.codes.now) q.1.1.0 (g.thing.forward c.args.codes.now) a.start _ on (q.1.1.1 c.in-Some.next None c.in_err-at-2.ensures ∙ ap (g.thing.end c.args.codes.now) c.in-Some.ensures.1))

pub loop-next-smaller : goal.loop-next-smaller
loop-next-smaller g c =
    let q = c.requires in
    let less = onward_less c.args.codes.now c.args.separator (g.thing.end c.args.codes.now) q.1.1.0 (g.thing.forward c.args.codes.now) c.loop-next.at c.in-Some.ensures.0 in
    omega (arith, q.1.1.1 c.in-Some.next (Some c.in_ok-at-2.at) c.in_ok-at-2.ensures, ap (g.thing.end c.args.codes.now) c.in-Some.ensures.1, less)

pub loop-next-preserved : goal.loop-next-preserved
loop-next-preserved g c =
    let a = c.args in
    let q = c.requires in
    let l = c.loop-next in
    subst (Onward a.codes.now a.separator (g.thing.end c.args.codes.now) a.start) (sym (q.1.1.1 c.in-Some.next (Some c.in_ok-at-2.at) c.in_ok-at-2.ensures ∙ ap (g.thing.end c.args.codes.now) c.in-Some.ensures.1))
    (onward_more a.codes.now a.separator (g.thing.end c.args.codes.now) q.1.1.0 (g.thing.forward c.args.codes.now) a.start l.at l.invariant c.in-Some.ensures.0)

pub returns : goal.returns
returns g c =
    let a = c.args in
    let q = c.requires in
    let l = c.loop-next in
    sym (onward_done a.codes.now a.separator (g.thing.end c.args.codes.now) q.1.1.0 (g.thing.forward c.args.codes.now) a.start l.at l.invariant c.in_default.ensures)
