-- The refusals before any verdict, in the parts in which the code finds them: what the record earns, what the call's numbers earn.
-- Assumes nothing.
use Rattle.std.specs.Prelude.{ℕ, ◌+◌, ◌^◌, ◌≤◌, ◌<◌, ◌≡◌, refl, Bool, true, false, List, leb, ltb, length}
use Rattle.std.proofs.Common.{sym, ap, ◌∙◌, leb-true, ltb-true}
use Rattle.base.specs.paper.Lists.{all}
use Rattle.image.specs.paper.Book.{Book}
use Rattle.image.specs.paper.Faults.{limits}
use Rattle.image.specs.paper.Walk.{Finding, fine, wrong, unless, and_then}
use Rattle.image.specs.paper.Decode.{Decoded, accepted, refused, decode}
use Rattle.sets.specs.paper.Kept.{longest}
use Rattle.area.specs.paper.Work.{work_numbers}
use Rattle.lister.specs.paper.Promise.{most_budget}
use Rattle.groups.specs.paper.Group.{well_formed, observed, is_defined}
use Rattle.cleaner.specs.paper.Cleaning.{refusal, turned, ending_by, ending_of}
use Rattle.cleaner.specs.Refusals.{Sound, of_book, of_group, of_numbers, first_of}

-- all of them, in the paper's order
pub of_book_lem : (b : Book) (group : List ℕ) (hypotheses budget room space : ℕ) → of_book b group hypotheses budget room space ≡ refusal b group hypotheses budget room space
unfolding refusal
of_book_lem b group hypotheses budget room space =
    ap (unless (ltb 0 hypotheses) 40)
    (go (well_formed group) (all (is_defined b) (observed group)) (leb (length b.clauses + length (observed group)) limits.clauses)
    (of_numbers b hypotheses budget room space))
  where
    go : (t u v : Bool) (next : Finding) → and_then (unless t 41 (unless u 42 (unless v 5 fine))) next ≡ unless t 41 (unless u 42 (unless v 5 next))
    go true true true next = refl
    go true true false next = refl
    go true false v next = refl
    go false u v next = refl

-- ---- no refusal

-- a test that holds, and nothing behind it
unless_none : (t : Bool) (n : ℕ) (next : Finding) → unless t n next ≡ fine → (t ≡ true) × (next ≡ fine)
unless_none true n next e = (refl, e)
unless_none false n next e = cc

module _ (b : Book) (group : List ℕ) where
  pub group_none : of_group b group ≡ fine → Sound b group
  group_none e =
      let e₁ = unless_none (well_formed group) 41 _ e in
      let e₂ = unless_none (all (is_defined b) (observed group)) 42 _ e₁.1 in
      record { formed = e₁.0; known = e₂.0; few = (unless_none _ 5 _ e₂.1).0 }

  module _ (hypotheses budget room space : ℕ) where
    -- nothing is refused before the verdicts
    pub record Passed : Type 0 where
      pub some : 0 < hypotheses
      pub sound : Sound b group
      pub entries : room ≤ longest
      pub long : work_numbers ≤ space
      pub low : budget ≤ most_budget
      pub named : hypotheses < 2 ^ b.abducibles
      pub is_fine_lem : refusal b group hypotheses budget room space ≡ fine

    book_none : of_book b group hypotheses budget room space ≡ fine → Passed
    book_none e =
        let e₁ = unless_none (ltb 0 hypotheses) 40 _ e in
        let f = both_fine (of_group b group) (of_numbers b hypotheses budget room space) e₁.1 in
        let e₃ = unless_none (leb room longest) 20 _ f.1 in
        let e₄ = unless_none (leb work_numbers space) 21 _ e₃.1 in
        let e₅ = unless_none (leb budget most_budget) 22 _ e₄.1 in
        let e₆ = unless_none (ltb hypotheses (2 ^ b.abducibles)) 23 _ e₅.1 in
        record {
          some = ltb-true 0 hypotheses e₁.0;
          sound = group_none f.0;
          entries = leb-true room longest e₃.0;
          long = leb-true work_numbers space e₄.0;
          low = leb-true budget most_budget e₅.0;
          named = ltb-true hypotheses (2 ^ b.abducibles) e₆.0;
          is_fine_lem = sym (of_book_lem b group hypotheses budget room space) ∙ e;
        }
      where
        both_fine : (f g : Finding) → and_then f g ≡ fine → (f ≡ fine) × (g ≡ fine)
        both_fine fine g e = (refl, e)
        both_fine (wrong n) g e = cc

-- a book is accepted, and nothing is refused
pub passed : (s group : List ℕ) (hypotheses budget room space : ℕ) → first_of (decode s) group hypotheses budget room space ≡ fine
    → (b : Book) × (decode s ≡ accepted b) × Passed b group hypotheses budget room space
passed s group hypotheses budget room space e = go (decode s) refl e
  where
    go : (d : Decoded) → decode s ≡ d → first_of d group hypotheses budget room space ≡ fine
        → (b : Book) × (decode s ≡ accepted b) × Passed b group hypotheses budget room space
    go (accepted b) q e = (b, q, book_none b group hypotheses budget room space e)
    go (refused n at) q e = cc

-- a refusal is how the group ends
pub turned_by : (d : Decoded) (group : List ℕ) (hypotheses budget room space n : ℕ) → first_of d group hypotheses budget room space ≡ wrong n
    → ending_of d group hypotheses budget room space ≡ turned n
turned_by (refused m at) group hypotheses budget room space n e = let same : m ≡ n = cc in ap turned same
turned_by (accepted b) group hypotheses budget room space n e =
    ap (λ (f : Finding). ending_by f b group hypotheses budget room space) (sym (of_book_lem b group hypotheses budget room space) ∙ e)
