-- `loops::late` meets its contract. Assumes nothing.
use Prim.Native.Nat.{ℕ}
use mathlib.Core.Path.{refl, sym, ap, ap₂, ◌∙◌, fun_ext}
use mathlib.Core.Bool.{Bool, ◌||◌}
use mathlib.Core.List.{List}
use lib.Dec.{eqb}
use Rattle.image.specs.paper.Book.{Clause}
use Rattle.marks.specs.Marked.{marked}
use Rattle.loops.specs.declared.clauses.Clauses.{Clauses}
use Rattle.loops.specs.Left.{clauses_of}
use Rattle.loops.specs.Naming.{unmarked}
use Rattle.loops.specs.Order.{late}
use Rattle.loops.specs.Passing.{late_over, late_fact, late_head, late_other}
use Rattle.loops.proofs.late.Goals as goal

pub loop-clause-init : goal.loop-clause-init
loop-clause-init c = (
  _,
  _,
  ap₂ (λ (f g : ℕ → Bool). late (clauses_of c.into_iter-clause-iterator.result) f g) (fun_ext c.none-named.ensures) (fun_ext c.none-found.ensures)
      ∙ ap (λ (cs : Clauses). late (clauses_of cs) unmarked unmarked) c.into_iter-clause-iterator.ensures.into_iter_gives,
)

pub loop-clause-preserved-then-has : goal.loop-clause-preserved-then-has
loop-clause-preserved-then-has c =
    let named : ℕ → Bool = marked c.loop-clause.named in
    let found : ℕ → Bool = marked c.loop-clause.found in (
      _,
      _,
      sym (late_head _ _ (sym c.has_body.ensures ∙ c.if-has_body.true) named _ found _ c.mark_body.ensures
          (ap (marked c.mark_body.new.all) (sym c.head-head.ensures.0) ∙ sym c.has.ensures ∙ c.if-has.true)
          (λ q. c.mark.ensures q ∙ ap (λ (h : ℕ). eqb h q || found q) c.head-head.ensures.0))
          ∙ ap (λ (cs : List Clause). late cs named found) (sym c.in-Some.ensures.steps)
          ∙ c.loop-clause.invariant.2,
    )

pub loop-clause-preserved-else-has : goal.loop-clause-preserved-else-has
loop-clause-preserved-else-has c =
    let named : ℕ → Bool = marked c.loop-clause.named in
    let found : ℕ → Bool = marked c.loop-clause.found in (
      _,
      _,
      sym (late_other _ _ (sym c.has_body.ensures ∙ c.if-has_body.true) named _ found found c.mark_body.ensures
          (ap (marked c.mark_body.new.all) (sym c.head-head.ensures.0) ∙ sym c.has.ensures ∙ c.if-has.false) (λ q. refl))
          ∙ ap (λ (cs : List Clause). late cs named found) (sym c.in-Some.ensures.steps)
          ∙ c.loop-clause.invariant.2,
    )

pub loop-clause-preserved : goal.loop-clause-preserved
loop-clause-preserved c =
    let named : ℕ → Bool = marked c.loop-clause.named in
    let found : ℕ → Bool = marked c.loop-clause.found in (
      _,
      _,
      sym (late_fact _ _ (sym c.has_body.ensures ∙ c.if-has_body.false) named found)
          ∙ ap (λ (cs : List Clause). late cs named found) (sym c.in-Some.ensures.steps)
          ∙ c.loop-clause.invariant.2,
    )

pub returns : goal.returns
returns c =
    λ q.
    ap (λ (f : ℕ → Bool). f q)
    (late_over _ c.in-None.ensures.steps.0 (marked c.loop-clause.named) (marked c.loop-clause.found) ∙ c.loop-clause.invariant.2)
