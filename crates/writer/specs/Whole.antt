-- The whole image: the fields part by part, and the front.
-- Assumes nothing.
use Rattle.std.specs.Prelude.{ℕ, ◌+◌, ◌-◌, ◌*◌, ◌/◌, ◌%◌, ◌≤◌, ◌≡◌, take}
use Rattle.std.proofs.Common.{arith, sym, subst, ◌∙◌, length-append}
use Rattle.std.proofs.Math.Path.{ap}
use mathlib.Core.List.{List, [], ◌∷◌, ◌++◌}
use Rattle.std.proofs.Math.ListN.{length, drop, set}
use Rattle.base.specs.paper.Lists.{flat}
use Rattle.image.specs.paper.Front.{version, version_at, length_at, atoms_at}
use Rattle.image.specs.paper.Walk.{field_values}
use Rattle.image.specs.paper.Spell.{two}
use Rattle.image.specs.Laid.{laid, length_laid, length_two, laid_whole}
use Rattle.spelling.specs.Codes.{dot_code, arrow_code}
use Rattle.writer.specs.Fields.{number_in, lits_of, counted, parts_of, statements_of, fields_by, framed}
use Rattle.writer.specs.Wrote.{Wrote, wrote_field, wrote_length, wrote_more, wrote_front}

-- ---- the fields

module _ (codes : List ℕ) (goal : ℕ) (numbers : List ℕ) (atoms abducibles : ℕ) where
  abbrev goals : List ℕ
  goals = counted (lits_of (number_in numbers) (drop (goal + 1) codes))

  abbrev clauses : List ℕ
  clauses = statements_of (number_in numbers) dot_code (parts_of (take goal codes))

  abbrev constraints : List ℕ
  constraints = statements_of (number_in numbers) arrow_code (parts_of (take goal codes))

  abbrev all : List ℕ
  all = fields_by (number_in numbers) codes goal atoms abducibles

  lengths : length all ≡ 2 + length goals + length clauses + length constraints
  lengths = omega (arith, length-append goals (clauses ++ constraints), length-append clauses constraints)

  module _ (l : List ℕ) (h : atoms_at + 2 * length all ≤ length l) {l₁ l₂ : List ℕ} (e₁ : l₁ ≡ laid l atoms_at (atoms ∷ [])) (e₂ : l₂ ≡ laid l₁ (atoms_at + 2) (abducibles ∷ [])) where
    same : length l₂ ≡ length l
    same = ap length e₂ ∙ length_laid l₁ (atoms_at + 2) (abducibles ∷ []) ∙ ap length e₁ ∙ length_laid l atoms_at (atoms ∷ [])

    pub goals_room : atoms_at + 4 + 2 * length goals ≤ length l₂
    goals_room = omega (arith, lengths, same)

    module _ {l₃ : List ℕ} {r₃ : ℕ} (w₃ : Wrote goals l₂ (atoms_at + 4) l₃ r₃) where
      pub clauses_room : r₃ + 2 * length clauses ≤ length l₃
      clauses_room = omega (arith, lengths, same, w₃.end, wrote_length w₃)

      module _ {l₄ : List ℕ} {r₄ : ℕ} (w₄ : Wrote clauses l₃ r₃ l₄ r₄) where
        pub constraints_room : r₄ + 2 * length constraints ≤ length l₄
        constraints_room = omega (arith, lengths, same, w₃.end, wrote_length w₃, w₄.end, wrote_length w₄)

        pub fields_wrote : {l₅ : List ℕ} {r₅ : ℕ} → Wrote constraints l₄ r₄ l₅ r₅ → Wrote all l atoms_at l₅ r₅
        fields_wrote w₅ =
            wrote_more (subst (λ (m : List ℕ). Wrote (atoms ∷ []) l atoms_at m (atoms_at + 2)) (sym e₁) (wrote_field l atoms_at atoms))
            (wrote_more (subst (λ (m : List ℕ). Wrote (abducibles ∷ []) l₁ (atoms_at + 2) m (atoms_at + 4)) (sym e₂) (wrote_field l₁ (atoms_at + 2) abducibles))
            (wrote_more w₃ (wrote_more w₄ w₅)))

-- ---- the front

module _ (fs : List ℕ) where
  abbrev high : ℕ
  high = 2 * length fs / field_values

  abbrev low : ℕ
  low = 2 * length fs % field_values

  pub framed_length : length (framed fs) ≡ atoms_at + 2 * length fs
  unfolding framed
  framed_length = omega (arith, length_two fs)

  framed_laid : (l : List ℕ) → atoms_at + 2 * length fs ≤ length l → set (laid l length_at (high ∷ low ∷ fs)) version_at version ≡ framed fs ++ drop (length (framed fs)) l
  unfolding framed
  framed_laid [] h = absurd (omega arith)
  framed_laid (b ∷ l) h =
      let n : length_at + 2 * length (high ∷ low ∷ fs) ≡ length (framed fs) = omega (arith, framed_length) in
      ap (λ (m : List ℕ). set m version_at version) (laid_whole (b ∷ l) length_at (high ∷ low ∷ fs) (omega arith))
      ∙ ap (λ (k : ℕ). version ∷ (flat two (high ∷ low ∷ fs) ++ drop k (b ∷ l))) n

  -- the length's fields and the version, written last
  pub framed_wrote : {l m n o : List ℕ} {r : ℕ} → atoms_at + 2 * length fs ≤ length l → Wrote fs l atoms_at m r
      → n ≡ laid m (length_at + 2) ((r - atoms_at) % field_values ∷ []) → o ≡ laid n length_at ((r - atoms_at) / field_values ∷ [])
      → (r ≡ length (framed fs)) × (set o version_at version ≡ framed fs ++ drop (length (framed fs)) l)
  framed_wrote {l} {m} {n} {o} {r} h w e₁ e₂ =
      let size : r - atoms_at ≡ 2 * length fs = omega (arith, w.end) in
      let v = wrote_front low w (e₁ ∙ ap (λ (x : ℕ). laid m (length_at + 2) (x % field_values ∷ [])) size) in
      let u = wrote_front high v (e₂ ∙ ap (λ (x : ℕ). laid n length_at (x / field_values ∷ [])) size) in
      (omega (arith, w.end, framed_length), ap (λ (k : List ℕ). set k version_at version) u.image ∙ framed_laid l h)
