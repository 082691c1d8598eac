-- The lines that are written are those of the document's names.
-- Assumes nothing.
use Rattle.std.specs.Prelude.{ℕ, ◌≤◌, ◌≡◌, refl, Bool, true, false, not, List, ◌++◌, map, length, take, eqb}
use Rattle.std.proofs.Common.{arith, sym, ap, ap₂, ◌∙◌, subst}
use Rattle.std.proofs.Math.Seq.{take-length}
use Rattle.base.specs.paper.Lists.{flat, filter}
use Rattle.base.specs.Flat.{flat_append}
use Rattle.spelling.specs.paper.Words.{Word}
use Rattle.spelling.specs.paper.Document.{Atom}
use Rattle.spelling.specs.paper.Said.{mentions}
use Rattle.spelling.specs.paper.Answer.{name_lines}
use Rattle.spelling.proofs.Lines.{longest_lines, lines_fit}
use Rattle.spelling.specs.Table.{name_of, is_marked, table_of, bit}
use Rattle.spelling.proofs.Ranks.{is_bare, table_numbered}
use Rattle.text.specs.Lines.{line_end, lines_by, lines_table}
use Rattle.text.specs.Made.{Found}

of_marked : (t : Bool) → eqb (bit t) 1 ≡ t
of_marked true = refl
of_marked false = refl

of_bare : (t : Bool) → eqb (bit t) 0 ≡ not t
of_bare true = refl
of_bare false = refl

module _ {text entries image : List ℕ} {size names : ℕ} (f : Found text entries image size names) (l : names ≤ length entries) where
  abbrev table : List Atom
  table = table_of (mentions f.d)

  of_kind : (mark : ℕ) (kind : Atom → Bool) → ((a : Atom) → eqb (bit a.marked) mark ≡ kind a)
      → lines_by text mark (take names entries) ≡ flat (λ (n : Word). n ++ line_end) (map name_of (filter kind table))
  of_kind mark kind h =
      ap (λ (k : ℕ). lines_by text mark (take k entries)) f.many
      ∙ lines_table text entries table f.table (omega (arith, f.many)) mark kind h (length table) (omega arith)
      ∙ ap (λ (t : List Atom). flat (λ (n : Word). n ++ line_end) (map name_of (filter kind t))) (take-length table)

  pub found_lines : lines_by text 1 (take names entries) ++ lines_by text 0 (take names entries) ≡ name_lines f.d
  found_lines =
      ap₂ ◌++◌ (of_kind 1 is_marked (λ a. of_marked a.marked)) (of_kind 0 is_bare (λ a. of_bare a.marked))
      ∙ sym (flat_append (λ (n : Word). n ++ line_end) (map name_of (filter is_marked table)) (map name_of (filter is_bare table)))
      ∙ ap (flat (λ (n : Word). n ++ line_end)) (table_numbered f.d f.clear.clear)

  pub found_short : length (lines_by text 1 (take names entries) ++ lines_by text 0 (take names entries)) ≤ longest_lines
  found_short = subst (λ (s : List ℕ). length s ≤ longest_lines) (sym found_lines) (lines_fit text f.d f.clear f.good)
