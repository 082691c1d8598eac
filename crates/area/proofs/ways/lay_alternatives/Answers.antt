-- `area::ways::lay_alternatives` meets its contract. Assumes nothing.
use Prim.Native.Nat.{ℕ, ◌+◌, ◌*◌}
use mathlib.Core.Path.{sym, ap, subst, ◌∙◌}
use native.Mathlib.Omega.{arith}
use lib.ListN.{set}
use Rattle.image.specs.Shown.{lits_at}
use Rattle.area.specs.Ground.{Listed}
use Rattle.area.specs.Lay.{Literals, link_to, AlternativesLaying, AlternativeDue, alternative_due, alternatives_step, alternatives_end}
use Rattle.area.proofs.ways.lay_alternatives.Lts as lts
use Rattle.area.proofs.ways.lay_alternatives.Tie as tie
use Rattle.area.proofs.ways.lay_alternatives.Reads as reads
use Rattle.area.proofs.ways.lay_alternatives.Goals as goal

abbrev In-loop : Type 0
In-loop = lts.In-loop tie.the-claims reads.Pre reads.Post goal.the-invariant-loop-from goal.the-decreases-loop-from

-- an alternative stands there
due : (m : In-loop) → let a = m.args in
    AlternativeDue a.image.now a.work.now a.start a.first a.end m.loop-from.way m.loop-from.from
due m = alternative_due _ _ _ _ _ _ _ _ m.requires m.loop-from.invariant m.loop-from-test.true

pub list_of-requires : goal.list_of-requires
list_of-requires c = subst (Literals _ _) (sym c.field_at-size.ensures.0) (due c.before.before).literals

pub overflow_add-from-in-loop-from-2 : goal.overflow_add-from-in-loop-from-2
overflow_add-from-in-loop-from-2 c = let n = due c.before.before.before in omega (arith, n.literals.there, n.literals.short, c.field_at-size.ensures.0)

pub loop-from-preserved : goal.loop-from-preserved
loop-from-preserved c =
    let m = c in
    let e = c.field_at-size.ensures.0 in
    let a = m.args in
    let l = m.loop-from in
    subst (λ (k : ℕ). AlternativesLaying a.image.now a.work.now a.start a.first a.end (set (set l.work l.way c.list_of.result) (l.way + 1) c.link_to.result) (l.way + 2) (l.from + 2 + 2 * k)) (sym e)
    (alternatives_step _ _ _ _ _ _ _ _ _ _ m.requires l.invariant m.loop-from-test.true
    (subst (λ (k : ℕ). Listed a.image.now (λ j. 0) c.list_of.result (lits_at a.image.now (l.from + 2) k)) e c.list_of.ensures)
    (c.link_to.ensures ∙ ap (λ (k : ℕ). link_to (l.way + 2) (l.from + 2 + 2 * k) a.end) e))

pub returns : goal.returns
returns c = alternatives_end _ _ _ _ _ _ _ _ c.loop-from.invariant (omega arith)
