-- The loop over the statements' parts, for the records of one kind: what is owed before each, and how it goes on behind it.
-- Assumes nothing.
use Rattle.std.specs.Prelude.{ℕ, ◌+◌, ◌*◌, ◌≤◌, ◌<◌, ◌≡◌, Bool, true, false, length, get_or}
use Rattle.std.proofs.Common.{arith, sym, ◌∙◌, length-append}
use Rattle.std.proofs.Math.Path.{ap, subst}
use mathlib.Core.List.{List, [], ◌∷◌, ◌++◌}
use Rattle.std.proofs.Math.Seq.{slice}
use Rattle.base.specs.paper.Bools.{choose}
use Rattle.image.specs.paper.Spell.{of_record}
use Rattle.image.specs.Laid.{laid}
use Rattle.spelling.specs.Codes.{dot_code}
use Rattle.spelling.specs.Table.{bit}
use Rattle.writer.specs.Fields.{number_in, inside_of, starts, records_of, count_of, statements_of}
use Rattle.writer.specs.Wrote.{Wrote, wrote_front, Owed, owed_start, owed_length, owed_step, owed_none}
use Rattle.writer.specs.Due.{Statements, stop_of, parts_from, Next, next_part}
use Rattle.writer.specs.Ways.{no_parts}

module _ (codes : List ℕ) (goal : ℕ) (numbers : List ℕ) (kind : ℕ) (image₀ : List ℕ) (at : ℕ) where
  abbrev rest : ℕ → ℕ → List ℕ
  rest last i = records_of (number_in numbers) kind last (parts_from codes i goal)

  abbrev left : ℕ → ℕ → ℕ
  left last i = count_of kind last (parts_from codes i goal)

  abbrev all : List ℕ
  all = rest dot_code 0

  pub record Recording (image : List ℕ) (i last count end : ℕ) : Type 0 where
    pub low : i ≤ goal
    pub few : count ≤ i
    pub counting : count + count_of kind last (parts_from codes i goal) ≡ count_of kind dot_code (parts_from codes 0 goal)
    pub owed : Owed image₀ (at + 2) (records_of (number_in numbers) kind dot_code (parts_from codes 0 goal)) image end (records_of (number_in numbers) kind last (parts_from codes i goal))

  pub recording_start : Recording image₀ 0 dot_code 0 (at + 2)
  recording_start = record { low = omega arith; few = omega arith; counting = omega arith; owed = owed_start image₀ (at + 2) all }

  module _ {image : List ℕ} {i last count end : ℕ} (w : Recording image i last count end) where
    pub recording_length : length image ≡ length image₀
    recording_length = owed_length image₀ (at + 2) all image end (rest last i) w.owed

    pub recording_end : goal ≤ i → {after : List ℕ} → after ≡ laid image at (count ∷ [])
        → Wrote (statements_of (number_in numbers) kind (parts_from codes 0 goal)) image₀ at after end
    unfolding records_of count_of
    recording_end h e =
        let none : parts_from codes i goal ≡ [] = no_parts codes i goal w.low h in
        let c : count ≡ left dot_code 0 = omega (arith, w.counting, ap (count_of kind last) none) in
        wrote_front (left dot_code 0)
        (owed_none image₀ (at + 2) all (subst (Owed image₀ (at + 2) all image end) (ap (records_of (number_in numbers) kind last) none) w.owed))
        (e ∙ ap (λ (n : ℕ). laid image at (n ∷ [])) c)

    module _ (s : Statements codes goal numbers) (h : i < goal) (stop : ℕ) (e : stop ≡ stop_of codes i goal) where
      next : Next codes i goal stop
      next = subst (Next codes i goal) (sym e) (next_part codes goal numbers s i h)

      pub recording_place : (i ≤ stop) × (stop < goal)
      recording_place = (next.low, next.high)

      abbrev code : ℕ
      code = get_or codes stop 0

      abbrev this : List ℕ
      this = of_record (inside_of (number_in numbers) kind (slice i stop codes) (parts_from codes (stop + 1) goal))

      due : (t : Bool) → starts kind last code ≡ t → Owed image₀ (at + 2) all image end (choose t this [] ++ rest code (stop + 1))
      unfolding records_of
      due t q =
          subst (Owed image₀ (at + 2) all image end)
          (ap (records_of (number_in numbers) kind last) next.parts ∙ ap (λ (b : Bool). choose b this [] ++ rest code (stop + 1)) q) w.owed

      counted : (t : Bool) → starts kind last code ≡ t → left last i ≡ bit t + left code (stop + 1)
      unfolding count_of
      counted t q = ap (count_of kind last) next.parts ∙ ap (λ (b : Bool). bit b + left code (stop + 1)) q

      pub recording_pass : starts kind last code ≡ false → Recording image (stop + 1) code count end
      recording_pass q =
          record {
            low = omega (arith, next.high);
            few = omega (arith, w.few, next.low);
            counting = omega (arith, w.counting, counted false q);
            owed = due false q;
          }

      module _ (q : starts kind last code ≡ true) where
        pub recording_room : at + 2 * length (statements_of (number_in numbers) kind (parts_from codes 0 goal)) ≤ length image₀ → end + 2 * length this ≤ length image
        recording_room r = omega (arith, (due true q).place, recording_length, length-append this (rest code (stop + 1)))

        pub recording_again : {after : List ℕ} {r : ℕ} → Wrote this image end after r → Recording after (stop + 1) code (count + 1) r
        recording_again v =
            record {
              low = omega (arith, next.high);
              few = omega (arith, w.few, next.low);
              counting = omega (arith, w.counting, counted true q);
              owed = owed_step image₀ (at + 2) all this (rest code (stop + 1)) (due true q) v;
            }
