-- `engine::deciding::in_every` meets its contract. Assumes nothing.
use Rattle.std.proofs.Common.{◌≡◌, ℕ, Bool, List, [], ◌∷◌, ◌&&◌, refl, ap, ◌∙◌, rules, tests}
use Rattle.std.specs.List.{list_all}
use Rattle.std.proofs.lemmas.Iterator.{YieldsList-from_slice}
use Rattle.std.proofs.lemmas.Iterator.Search.{all_from_yields_List}
use Rattle.base.specs.paper.Lists.{all}
use Rattle.base.specs.paper.Members.{has}
use Rattle.engine.proofs.deciding.in_every.Goals as goal

all_is : (t : ℕ → Bool) (l : List ℕ) → list_all t l ≡ all t l
all_is t [] = refl
all_is t (x ∷ l) = ap (λ (r : Bool). t x && r) (all_is t l)

pub returns : goal.returns
returns c =
    let test : ℕ → Bool = λ s. has s c.args.hypothesis in
    all_from_yields_List test _ _ _ c.all.ensures.ran (YieldsList-from_slice c.args.sets.now cc) (λ x b q k. search (rules, tests)) ∙ all_is test c.args.sets.now
