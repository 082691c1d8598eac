-- The loop over a constraint's alternatives: what is owed before each, and how it goes on behind it.
-- Assumes nothing.
use Rattle.std.specs.Prelude.{ℕ, ◌+◌, ◌*◌, ◌≤◌, ◌<◌, ◌≡◌, Bool, List, [], ◌++◌, length, get_or, eqb}
use Rattle.std.proofs.Common.{arith, sym, ap, ◌∙◌, append-nil, length-append, eq-eqb, ne_eqb}
use Rattle.std.proofs.Math.Path.{subst}
use Rattle.std.proofs.Math.Seq.{slice, slice_empty}
use Rattle.base.specs.paper.Bools.{choose}
use Rattle.spelling.specs.Codes.{dot_code}
use Rattle.writer.specs.Fields.{number_in, lits_of, parts_of, way_of, ways_of}
use Rattle.writer.specs.Wrote.{Wrote, Owed, owed_start, owed_length, owed_step, owed_last, owed_none}
use Rattle.writer.specs.Due.{Statements, stop_of, parts_from, Next, next_part}

pub no_parts : (codes : List ℕ) (i goal : ℕ) → i ≤ goal → goal ≤ i → parts_from codes i goal ≡ []
unfolding parts_of
no_parts codes i goal a b = let e : i ≡ goal = omega arith in ap (λ (j : ℕ). parts_from codes j goal) e ∙ ap parts_of (slice_empty goal codes)

module _ (codes : List ℕ) (from goal : ℕ) (numbers image₀ : List ℕ) (at : ℕ) where
  abbrev rest : ℕ → List ℕ
  rest i = ways_of (number_in numbers) (parts_from codes i goal)

  pub record Waying (image : List ℕ) (i end : ℕ) : Type 0 where
    pub low : i ≤ goal
    pub owed : Owed image₀ at (ways_of (number_in numbers) (parts_from codes from goal)) image end (ways_of (number_in numbers) (parts_from codes i goal))

  pub waying_start : from ≤ goal → Waying image₀ from at
  waying_start h = record { low = h; owed = owed_start image₀ at (rest from) }

  module _ {image : List ℕ} {i end : ℕ} (w : Waying image i end) where
    pub waying_length : length image ≡ length image₀
    waying_length = owed_length image₀ at (rest from) image end (rest i) w.owed

    pub waying_end : goal ≤ i → Wrote (rest from) image₀ at image end
    unfolding ways_of
    waying_end h = owed_none image₀ at (rest from) (subst (Owed image₀ at (rest from) image end) (ap (ways_of (number_in numbers)) (no_parts codes i goal w.low h)) w.owed)

    module _ (s : Statements codes goal numbers) (h : i < goal) (stop : ℕ) (e : stop ≡ stop_of codes i goal) where
      next : Next codes i goal stop
      next = subst (Next codes i goal) (sym e) (next_part codes goal numbers s i h)

      pub waying_place : (i ≤ stop) × (stop < goal)
      waying_place = (next.low, next.high)

      abbrev way : List ℕ
      way = way_of (lits_of (number_in numbers) (slice i stop codes))

      due : Owed image₀ at (rest from) image end (way ++ choose (eqb (get_or codes stop 0) dot_code) [] (rest (stop + 1)))
      unfolding ways_of
      due = subst (Owed image₀ at (rest from) image end) (ap (ways_of (number_in numbers)) next.parts) w.owed

      pub waying_room : at + 2 * length (rest from) ≤ length image₀ → end + 2 * length way ≤ length image
      waying_room r =
          omega (arith, due.place, waying_length, length-append way (choose (eqb (get_or codes stop 0) dot_code) [] (rest (stop + 1))))

      module _ {after : List ℕ} {r : ℕ} (v : Wrote way image end after r) where
        pub waying_last : get_or codes stop 0 ≡ dot_code → Wrote (rest from) image₀ at after r
        waying_last d =
            owed_last image₀ at (rest from) way
            (subst (Owed image₀ at (rest from) image end)
            (ap (λ (t : Bool). way ++ choose t [] (rest (stop + 1))) (eq-eqb _ _ d) ∙ append-nil way) due) v

        pub waying_again : (get_or codes stop 0 ≡ dot_code → ⊥) → Waying after (stop + 1) r
        waying_again d =
            record {
              low = omega (arith, next.high);
              owed =
                  owed_step image₀ at (rest from) way (rest (stop + 1))
                  (subst (Owed image₀ at (rest from) image end) (ap (λ (t : Bool). way ++ choose t [] (rest (stop + 1))) (ne_eqb _ _ d)) due) v;
            }
