-- The smallest of a family, kept one after the other, over any order `inside`.
-- Assumes nothing.
use Rattle.std.specs.Prelude.{Bool, not}
use mathlib.Core.List.{List, [], ◌∷◌, ◌++◌, foldl}
use Rattle.base.specs.paper.Bools.{choose}
use Rattle.base.specs.paper.Lists.{any, filter}

module _ {ℓ} {A : Type ℓ} (inside : A → A → Bool) where
  -- Where some kept one lies inside s, all stays as it is. Else each kept one that s lies inside goes, and s is kept.
  unfoldable pub insert : List A → A → List A
  insert kept s = choose (any (λ k. inside k s) kept) kept (filter (λ k. not (inside s k)) kept ++ s ∷ [])

  -- the members of a list inserted one after the other
  unfoldable pub smallest : List A → List A
  smallest l = foldl insert [] l
