-- `loops::round` meets its contract. Assumes nothing.
use Prim.Native.Nat.{ℕ}
use mathlib.Core.Path.{sym, ap, ◌∙◌, fun_ext}
use mathlib.Core.Bool.{Bool, ◌||◌}
use mathlib.Core.List.{List}
use lib.Dec.{eqb}
use Rattle.image.specs.paper.Book.{Clause}
use Rattle.marks.specs.Marked.{marked}
use Rattle.loops.specs.declared.clauses.Clauses.{Clauses}
use Rattle.loops.specs.Left.{clauses_of}
use Rattle.loops.specs.Naming.{unmarked}
use Rattle.loops.specs.Rounds.{round}
use Rattle.loops.specs.Passing.{round_over, round_pass, round_held, round_other}
use Rattle.loops.proofs.round.Goals as goal

pub loop-clause-init : goal.loop-clause-init
loop-clause-init c =
    let held : ℕ → Bool = marked c.args.held in (
      _,
      _,
      ap (λ (f : ℕ → Bool). round (clauses_of c.into_iter-clause-iterator.result) held held f) (fun_ext c.none-left.ensures)
          ∙ ap (λ (cs : Clauses). round (clauses_of cs) held held unmarked) c.into_iter-clause-iterator.ensures.into_iter_gives,
    )

pub loop-clause-preserved-then-has : goal.loop-clause-preserved-then-has
loop-clause-preserved-then-has c =
    let held : ℕ → Bool = marked c.args.held in
    let all : ℕ → Bool = marked c.loop-clause.all in
    let left : ℕ → Bool = marked c.loop-clause.left in (
      _,
      _,
      sym (round_held _ _ held all left (sym c.names_marked.ensures ∙ c.if-names_marked.true)
          (ap held (sym c.head-head.ensures.0) ∙ sym c.has.ensures ∙ c.if-has.true) _
          (λ q. c.mark.ensures q ∙ ap (λ (h : ℕ). eqb h q || left q) c.head-head.ensures.0))
          ∙ ap (λ (cs : List Clause). round cs held all left) (sym c.in-Some.ensures.steps)
          ∙ c.loop-clause.invariant.2,
    )

pub loop-clause-preserved-else-has : goal.loop-clause-preserved-else-has
loop-clause-preserved-else-has c =
    let held : ℕ → Bool = marked c.args.held in
    let all : ℕ → Bool = marked c.loop-clause.all in
    let left : ℕ → Bool = marked c.loop-clause.left in (
      _,
      _,
      sym (round_other _ _ held all left (sym c.names_marked.ensures ∙ c.if-names_marked.true)
          (ap held (sym c.head-head.ensures.0) ∙ sym c.has.ensures ∙ c.if-has.false) _
          (λ q. c.mark-else-has.ensures q ∙ ap (λ (h : ℕ). eqb h q || all q) c.head-head.ensures.0))
          ∙ ap (λ (cs : List Clause). round cs held all left) (sym c.in-Some.ensures.steps)
          ∙ c.loop-clause.invariant.2,
    )

pub loop-clause-preserved : goal.loop-clause-preserved
loop-clause-preserved c =
    let held : ℕ → Bool = marked c.args.held in
    let all : ℕ → Bool = marked c.loop-clause.all in
    let left : ℕ → Bool = marked c.loop-clause.left in (
      _,
      _,
      sym (round_pass _ _ held all left (sym c.names_marked.ensures ∙ c.if-names_marked.false))
          ∙ ap (λ (cs : List Clause). round cs held all left) (sym c.in-Some.ensures.steps)
          ∙ c.loop-clause.invariant.2,
    )

pub returns : goal.returns
returns c =
    λ q.
    ap (λ (f : ℕ → Bool). f q)
    (round_over _ c.in-None.ensures.steps.0 (marked c.args.held) (marked c.loop-clause.all) (marked c.loop-clause.left) ∙ c.loop-clause.invariant.2)
