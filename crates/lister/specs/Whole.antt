-- The three ends of a search, as the code puts the whole listing together.
-- Assumes nothing.
use Rattle.std.specs.Prelude.{ℕ, zero, suc, ◌+◌, ◌-◌, ◌≤◌, ◌≡◌, Bool, true, false, List, [], ◌∷◌, ◌++◌, length, take, drop, ltb}
use Rattle.std.proofs.Common.{arith, ap, ap₂, subst, ◌∙◌, length-append, length-drop, take_at, length-take-le}
use Rattle.std.proofs.Math.Nat.{sub-zero}
use Rattle.base.specs.paper.Bools.{choose}
use Rattle.image.specs.paper.Book.{Book}
use Rattle.image.specs.Accepted.{IsBook, book_in}
use Rattle.sets.specs.paper.Kept.{zeros, sort}
use Rattle.sets.specs.KeptLaws.{sort_length}
use Rattle.searching.specs.paper.Rules.{Node, root, children, noting, Outcome, finished, used_up, no_room, run, run_from}
use Rattle.area.specs.Area as layout
use Rattle.machine.specs.declared.Ended.{Ended}
use Rattle.machine.specs.declared.Ended.TheVariants.{Finished, UsedUp, NoRoom}
use Rattle.machine.specs.Agreed.{outcome_in, kept_in, Told}
use Rattle.lister.specs.paper.Promise.{Listed, Refused}
use Rattle.lister.specs.PromiseLaws.{Searched, searched_all, searched_short, searched_full}

-- no search visits more nodes than its budget
abbrev pub nodes_of : Outcome → ℕ
nodes_of (finished kept n) = n
nodes_of (used_up n) = n
nodes_of (no_room n) = n

run_nodes : (b : Book) (room k : ℕ) (xs : List Node) (kept : List ℕ) (n : ℕ) → nodes_of (run b room k xs kept n) ≤ n + k
unfolding run
run_nodes b room zero [] kept n = omega arith
run_nodes b room zero (x ∷ xs) kept n = omega arith
run_nodes b room (suc k) [] kept n = omega arith
run_nodes b room (suc k) (x ∷ xs) kept n =
    let now = noting b x.agenda x.sheet kept in
    go (ltb room (length now)) (run b room k (children b x ++ xs) now (suc n)) (run_nodes b room k (children b x ++ xs) now (suc n))
  where
    go : (t : Bool) (later : Outcome) → nodes_of later ≤ suc n + k → nodes_of (choose t (no_room (suc n)) later) ≤ n + suc k
    go true later h = omega arith
    go false later h = omega arith

-- so an answer of the machine tells no more
pub few_nodes : (b : Book) (budget : ℕ) (start : Node) (sets : List ℕ) (answer : Ended) → Told (run_from b (length sets) budget start) sets answer
    → (e : Ended) → answer ≡ e → nodes_of (outcome_in sets e) ≤ budget
few_nodes b budget start sets answer told e i =
    let most = run_nodes b (length sets) budget (start ∷ []) [] 0 in
    subst (λ (o : Outcome). nodes_of o ≤ budget) (told.is ∙ ap (outcome_in sets) i) (omega (arith, most))

module _ (image : List ℕ) (budget : ℕ) (old work kept : List ℕ) (book : IsBook image) (answer : Ended)
    (told : Told (run_from (book_in image) (length kept) budget (root (book_in image))) kept answer) (same : length kept ≡ length old) where
  -- what the rules' search gives from the root
  gives : (e : Ended) → answer ≡ e → run_from (book_in image) (length kept) budget (root (book_in image)) ≡ outcome_in kept e
  gives e i = told.is ∙ ap (outcome_in kept) i

  pub count_fits : (count nodes : ℕ) → answer ≡ Finished count nodes → count ≤ length kept
  count_fits count nodes i = subst (λ (e : Ended). kept_in e ≤ length kept) i told.few

  pub ends_listed : (count nodes : ℕ) (sets₁ sets₂ work₂ : List ℕ) → answer ≡ Finished count nodes → sets₁ ≡ sort (take count kept) ++ drop count kept
      → sets₂ ≡ take count sets₁ ++ zeros (length sets₁ - count) → work₂ ≡ zeros layout.end ++ drop layout.end work
      → Searched image budget old work (Listed count nodes) sets₂ work₂
  ends_listed count nodes sets₁ sets₂ work₂ i p q u =
      let few = count_fits count nodes i in
      let many : length (sort (take count kept)) ≡ count = sort_length (take count kept) ∙ length-take-le count kept few in
      let size : length sets₁ ≡ length kept = ap length p ∙ length-append (sort (take count kept)) (drop count kept) ∙ omega (arith, many, length-drop count kept, few) in
      let front : take count sets₁ ≡ sort (take count kept) = ap (take count) p ∙ take_at (sort (take count kept)) (drop count kept) count many in
      searched_all image budget old work kept (book_in image) book same count nodes sets₂ work₂ few (gives (Finished count nodes) i)
      (q ∙ ap₂ (λ (l : List ℕ) (n : ℕ). l ++ zeros (n - count)) front size) u

  zeroed : (sets₂ : List ℕ) → sets₂ ≡ take 0 kept ++ zeros (length kept - 0) → sets₂ ≡ zeros (length kept)
  zeroed sets₂ p = p ∙ ap zeros (sub-zero (length kept))

  pub ends_short : (nodes : ℕ) (sets₂ work₂ : List ℕ) → answer ≡ UsedUp nodes → sets₂ ≡ take 0 kept ++ zeros (length kept - 0) → work₂ ≡ zeros layout.end ++ drop layout.end work
      → Searched image budget old work (Refused 30 nodes) sets₂ work₂
  ends_short nodes sets₂ work₂ i p u =
      searched_short image budget old work kept (book_in image) book same nodes sets₂ work₂ (gives (UsedUp nodes) i) (zeroed sets₂ p) u

  pub ends_full : (nodes : ℕ) (sets₂ work₂ : List ℕ) → answer ≡ NoRoom nodes → sets₂ ≡ take 0 kept ++ zeros (length kept - 0) → work₂ ≡ zeros layout.end ++ drop layout.end work
      → Searched image budget old work (Refused 31 nodes) sets₂ work₂
  ends_full nodes sets₂ work₂ i p u =
      searched_full image budget old work kept (book_in image) book same nodes sets₂ work₂ (gives (NoRoom nodes) i) (zeroed sets₂ p) u
