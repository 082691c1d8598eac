-- `loops::descends` meets its contract. Assumes nothing.
use Prim.Native.Nat.{ℕ}
use mathlib.Core.Path.{sym, ap, ◌∙◌}
use mathlib.Core.Bool.{Bool, ◌||◌}
use mathlib.Core.List.{List}
use lib.Dec.{eqb}
use Rattle.image.specs.paper.Book.{Clause}
use Rattle.marks.specs.Marked.{marked}
use Rattle.loops.specs.Order.{descends}
use Rattle.loops.specs.Passing.{descends_over, descends_fact, descends_next, descends_stop}
use Rattle.loops.proofs.descends.Goals as goal

pub returns-then-names_marked : goal.returns-then-names_marked
returns-then-names_marked c =
    let f : ℕ → Bool = marked c.loop-clause.heads in
    sym (descends_stop _ _ (sym c.has_body.ensures ∙ c.if-has_body.true) f _
    (λ q. c.mark.ensures q ∙ ap (λ (h : ℕ). eqb h q || f q) c.head.ensures.0) (sym c.names_marked.ensures ∙ c.if-names_marked.true))
    ∙ ap (λ (cs : List Clause). descends cs f) (sym c.in-Some.ensures.steps)
    ∙ c.loop-clause.invariant.2

pub loop-clause-preserved-else-names_marked : goal.loop-clause-preserved-else-names_marked
loop-clause-preserved-else-names_marked c =
    let f : ℕ → Bool = marked c.loop-clause.heads in (
      _,
      _,
      sym (descends_next _ _ (sym c.has_body.ensures ∙ c.if-has_body.true) f _
          (λ q. c.mark.ensures q ∙ ap (λ (h : ℕ). eqb h q || f q) c.head.ensures.0) (sym c.names_marked.ensures ∙ c.if-names_marked.false))
          ∙ ap (λ (cs : List Clause). descends cs f) (sym c.in-Some.ensures.steps)
          ∙ c.loop-clause.invariant.2,
    )

pub loop-clause-preserved : goal.loop-clause-preserved
loop-clause-preserved c =
    let f : ℕ → Bool = marked c.loop-clause.heads in (
      _,
      _,
      sym (descends_fact _ _ (sym c.has_body.ensures ∙ c.if-has_body.false) f)
          ∙ ap (λ (cs : List Clause). descends cs f) (sym c.in-Some.ensures.steps)
          ∙ c.loop-clause.invariant.2,
    )

pub returns : goal.returns
returns c = descends_over _ c.in-None.ensures.steps.0 (marked c.loop-clause.heads) ∙ c.loop-clause.invariant.2
