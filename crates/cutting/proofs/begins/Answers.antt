-- `cutting::begins` meets its contract. Assumes nothing.
use Rattle.std.specs.Prelude.{ℕ, List, ◌-◌, ◌≤◌, nat_eq, length, drop}
use Rattle.std.specs.List.{starts_with}
use Rattle.std.proofs.Common.{arith, sym, ap, ◌∙◌, length-drop}
use Rattle.std.proofs.lemmas.List.{take_all}
use Rattle.cutting.specs.Begins.{begins_pointwise}
use Rattle.cutting.proofs.begins.Goals as goal

pub returns : goal.returns
returns c =
    let a = c.args in
    let rest : List ℕ = drop a.at a.text.now in
    let whole : length rest ≤ length a.text.now - a.at = omega (arith, length-drop a.at a.text.now) in
    c.starts_with.ensures.value ∙ ap (λ (t : List ℕ). starts_with nat_eq t a.word.now) (take_all _ rest whole) ∙ sym (begins_pointwise a.word.now rest)
