-- `loops::settles` meets its contract. Assumes nothing.
use Prim.Native.Nat.{ℕ}
use mathlib.Core.Path.{◌≡◌, sym, ap, ◌∙◌, subst, fun_ext}
use mathlib.Core.Bool.{Bool}
use mathlib.Core.Logic.{⊎_elim}
use native.Mathlib.Omega.{arith}
use Rattle.base.specs.Bools.{decide, clash}
use Rattle.marks.specs.declared.Marks.{Marks}
use Rattle.marks.specs.Marked.{marked}
use Rattle.marks.specs.MarkLaws.{marks_same}
use Rattle.loops.specs.Left.{clauses_of, known_of}
use Rattle.loops.specs.Naming.{unmarked}
use Rattle.loops.specs.Order.{Late, late_late}
use Rattle.loops.specs.Rounds.{Holding, holding_start, holding_next, answer_descends, answer_none, answer_same, answer_over}
use Rattle.loops.proofs.settles.Goals as goal

pub returns-then-descends : goal.returns-then-descends
returns-then-descends c = answer_descends _ _ (known_of c.args.clauses) (sym c.descends.ensures ∙ c.if-descends.true)

pub loop-init : goal.loop-init
loop-init c =
    holding_start (subst (λ (w : ℕ → Bool). Late w (clauses_of c.args.clauses)) (sym (fun_ext c.late-held.ensures)) (late_late (clauses_of c.args.clauses) unmarked unmarked))

pub returns-then-is_none : goal.returns-then-is_none
returns-then-is_none c = answer_none _ _ (known_of c.args.clauses) c.loop.invariant (c.is_none.ensures.0 c.if-is_none.true)

pub returns-then-eq : goal.returns-then-eq
returns-then-eq c =
    let all : c.round-left.result ≡ c.loop.held = (marks_same _ _ _ c.eq.ensures).0 c.if-eq.true in
    answer_same _ _ (known_of c.args.clauses) c.args.clauses.known.0 (marked c.loop.held) (marked c.round-left.result) c.round-left.ensures
    (λ q. ap (λ (r : Marks). marked r q) all)
    (λ none. clash (c.is_none.ensures.1 none) c.if-is_none.false)

pub loop-preserved : goal.loop-preserved
loop-preserved c = holding_next c.loop.invariant (marked c.round-left.result) c.round-left.ensures

pub returns : goal.returns
returns c = let x = c.loop-test.false in
    let over : c.loop.counter ≡ c.args.clauses.atoms = omega arith in
    ⊎_elim (λ t. t ∙ answer_none _ _ (known_of c.args.clauses) c.loop.invariant (c.is_none-2.ensures.0 t))
    (λ t.
    t
    ∙ answer_over _ _ (known_of c.args.clauses) c.args.clauses.known.0
    (subst (Holding (clauses_of c.args.clauses) (marked c.late-held.result) (marked c.loop.held)) over c.loop.invariant)
    (λ none. clash (c.is_none-2.ensures.1 none) t))
    (decide c.is_none-2.result)
