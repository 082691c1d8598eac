-- The record of a constraint, and the cell of the constraints from it on, as the code writes them.
-- Assumes nothing.
use Rattle.std.specs.Prelude.{ℕ, ◌+◌, ◌≤◌, ◌<◌, ◌≡◌, List, length, get_or, set}
use Rattle.std.proofs.Common.{arith, ◌∙◌, length-set}
use Rattle.image.specs.paper.Faults.{limits}
use Rattle.area.specs.Area.{no_link, no_end, record_width, cell_width, constraint_record, cell_from, Long}
use Rattle.area.specs.Ground.{CellLaid}
use Rattle.area.specs.Lay.{of, set_here, set_there, pair_stays, pair_first, pair_second, pair_length}

pub record RecordLaid (work : List ℕ) (k n : ℕ) (after : List ℕ) : Type 0 where
  pub size : length after ≡ length work
  pub number : get_or after (constraint_record k) 0 ≡ n
  pub link : get_or after (constraint_record k + 1) 0 ≡ no_link
  pub cell : CellLaid (of after) k
  pub stays : (j : ℕ) → (constraint_record k ≤ j → j < constraint_record k + record_width → ⊥) → (cell_from k ≤ j → j < cell_from k + cell_width → ⊥) → get_or after j 0 ≡ get_or work j 0

pub record_laid : (work : List ℕ) (k n : ℕ) → k ≤ limits.constraints → Long work
    → RecordLaid work k n (set (set (set (set (set work (cell_from k) (constraint_record k)) (cell_from k + 1) no_end) (cell_from k + 2) (cell_from k + cell_width)) (constraint_record k) n) (constraint_record k + 1) no_link)
record_laid work k n few long =
    let e : ℕ = constraint_record k in
    let c : ℕ = cell_from k in
    let work₂ : List ℕ = set (set work c e) (c + 1) no_end in
    let work₃ : List ℕ = set work₂ (c + 2) (c + cell_width) in
    let size₂ : length work₂ ≡ length work = pair_length work c e no_end in
    let size₃ : length work₃ ≡ length work = length-set work₂ (c + 2) (c + cell_width) ∙ size₂ in
    record {
      size = pair_length work₃ e n no_link ∙ size₃;
      number = pair_first work₃ e n no_link (omega arith);
      link = pair_second work₃ e n no_link (omega arith);
      cell = (
        pair_stays work₃ e n no_link c (λ x y. omega arith) ∙ set_there work₂ (c + 2) (c + cell_width) c (λ x. omega (arith, x)) ∙ pair_first work c e no_end (omega arith),
        pair_stays work₃ e n no_link (c + 1) (λ x y. omega arith) ∙ set_there work₂ (c + 2) (c + cell_width) (c + 1) (λ x. omega (arith, x)) ∙ pair_second work c e no_end (omega arith),
        pair_stays work₃ e n no_link (c + 2) (λ x y. omega arith) ∙ set_here work₂ (c + 2) (c + cell_width) (omega arith) ∙ omega arith,
      );
      stays = λ j p q. pair_stays work₃ e n no_link j p ∙ set_there work₂ (c + 2) (c + cell_width) j (λ x. q (omega (arith, x)) (omega (arith, x))) ∙ pair_stays work c e no_end j (λ x y. q x (omega arith));
    }
