-- The refusals before any verdict, in the parts in which the code finds them: what the record earns, what the call's numbers earn.
-- Assumes nothing.
use Rattle.std.specs.Prelude.{ℕ, ◌+◌, ◌^◌, ◌≡◌, true, Result, Ok, Err, List, leb, ltb, length}
use Rattle.base.specs.paper.Lists.{all}
use Rattle.image.specs.declared.refusals.Refusal.{Refusal}
use Rattle.image.specs.paper.Book.{Book}
use Rattle.image.specs.paper.Faults.{limits}
use Rattle.image.specs.paper.Refusals.{number_of}
use Rattle.image.specs.paper.Walk.{Finding, fine, wrong, unless, and_then}
use Rattle.image.specs.paper.Decode.{Decoded, accepted, refused}
use Rattle.sets.specs.paper.Kept.{longest}
use Rattle.area.specs.paper.Work.{work_numbers}
use Rattle.lister.specs.paper.Promise.{most_budget}
use Rattle.groups.specs.paper.Group.{well_formed, observed, is_defined}

-- what a test finds
abbrev pub finding : {A : Type 0} → Result A Refusal → Finding
finding (Ok a) = fine
finding (Err r) = wrong (number_of r)

-- 41, 42 and 5
abbrev pub of_group : Book → List ℕ → Finding
of_group b group =
    unless (well_formed group) 41
    (unless (all (is_defined b) (observed group)) 42
    (unless (leb (length b.clauses + length (observed group)) limits.clauses) 5 fine))

-- 20 to 23
abbrev pub of_numbers : Book → ℕ → ℕ → ℕ → ℕ → Finding
of_numbers b hypotheses budget room space =
    unless (leb room longest) 20
    (unless (leb work_numbers space) 21
    (unless (leb budget most_budget) 22
    (unless (ltb hypotheses (2 ^ b.abducibles)) 23 fine)))

abbrev pub of_book : Book → List ℕ → ℕ → ℕ → ℕ → ℕ → Finding
of_book b group hypotheses budget room space = unless (ltb 0 hypotheses) 40 (and_then (of_group b group) (of_numbers b hypotheses budget room space))

-- the first that applies, that of a refused book among them
abbrev pub first_of : Decoded → List ℕ → ℕ → ℕ → ℕ → ℕ → Finding
first_of (refused n at) group hypotheses budget room space = wrong n
first_of (accepted b) group hypotheses budget room space = of_book b group hypotheses budget room space

-- the record is one, of defined atoms, and not too many
pub record Sound (b : Book) (group : List ℕ) : Type 0 where
  pub formed : well_formed group ≡ true
  pub known : all (is_defined b) (observed group) ≡ true
  pub few : leb (length b.clauses + length (observed group)) limits.clauses ≡ true
