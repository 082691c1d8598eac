-- `engine::deciding::in_some` meets its contract. Assumes nothing.
use Rattle.std.proofs.Common.{◌≡◌, ℕ, Bool, List, [], ◌∷◌, ◌||◌, refl, ap, ◌∙◌, rules, tests}
use Rattle.std.specs.List.{list_any}
use Rattle.std.proofs.lemmas.Iterator.{YieldsList-from_slice}
use Rattle.std.proofs.lemmas.Iterator.Search.{any_from_yields_List}
use Rattle.base.specs.paper.Lists.{any}
use Rattle.base.specs.paper.Members.{has}
use Rattle.engine.proofs.deciding.in_some.Goals as goal

any_is : (t : ℕ → Bool) (l : List ℕ) → list_any t l ≡ any t l
any_is t [] = refl
any_is t (x ∷ l) = ap (λ (r : Bool). t x || r) (any_is t l)

pub returns : goal.returns
returns c =
    let test : ℕ → Bool = λ s. has s c.args.hypothesis in
    any_from_yields_List test _ _ _ c.any.ensures.ran (YieldsList-from_slice c.args.sets.now cc) (λ x b q k. search (rules, tests)) ∙ any_is test c.args.sets.now
