-- `marks::Marks::is_none` meets its contract. Assumes nothing.
use mathlib.Core.Path.{ap, ◌∙◌}
use native.Mathlib.Omega.{arith}
use borrow.Author.Rules.{rules}
use Rattle.marks.specs.declared.Marks.{Marks}
use Rattle.marks.specs.Marked.{marked}
use Rattle.marks.specs.MarkLaws.{none_same, marks_same}
use Rattle.marks.proofs.Marks.is_none.Goals as goal

pub returns : goal.returns
unfolding marked
returns c =
    let d = marks_same c.args.self c.none.result _ c.eq.ensures in (
      λ t p. ap (λ (m : Marks). marked m p) (d.0 t) ∙ c.none.ensures p,
      λ none. d.1 (λ i. record { words = none_same _ _ (omega arith) (λ k. search rules) (λ k. search rules) none c.none.ensures i }),
    )
