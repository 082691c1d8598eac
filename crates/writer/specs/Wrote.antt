-- What a function leaves that writes fields into an image: the place behind them, and the image. And what a loop of such calls owes.
-- Assumes nothing.
use Rattle.std.specs.Prelude.{ℕ, ◌+◌, ◌-◌, ◌*◌, ◌/◌, ◌≤◌, ◌≡◌, refl, List, [], ◌∷◌, ◌++◌, length}
use Rattle.std.proofs.Common.{arith, sym, ap, ap₂, subst, ◌∙◌, length-append}
use Rattle.image.specs.paper.Spell.{of_record}
use Rattle.image.specs.Laid.{laid, length_laid, laid_none, laid_more, laid_front}
use Rattle.writer.specs.Fields.{counted, way_of}

-- the fields stand in the image from `at` on, and end at r; all else is as before
pub record Wrote (fs before : List ℕ) (at : ℕ) (after : List ℕ) (r : ℕ) : Type 0 where
  pub end : r ≡ at + 2 * length fs
  pub image : after ≡ laid before at fs

module _ (l : List ℕ) (at : ℕ) where
  pub wrote_none : Wrote [] l at l at
  wrote_none = record { end = omega arith; image = sym (laid_none l at) }

  pub wrote_field : (x : ℕ) → Wrote (x ∷ []) l at (laid l at (x ∷ [])) (at + 2)
  wrote_field x = record { end = omega arith; image = refl }

module _ {l : List ℕ} {at : ℕ} {m : List ℕ} {r : ℕ} where
  pub wrote_length : {fs : List ℕ} → Wrote fs l at m r → length m ≡ length l
  wrote_length {fs} w = ap length w.image ∙ length_laid l at fs

  pub wrote_same : {fs gs : List ℕ} → fs ≡ gs → Wrote fs l at m r → Wrote gs l at m r
  wrote_same e w = subst (λ fs. Wrote fs l at m r) e w

  -- more fields behind
  pub wrote_more : {fs gs n : List ℕ} {s : ℕ} → Wrote fs l at m r → Wrote gs m r n s → Wrote (fs ++ gs) l at n s
  wrote_more {fs} {gs} w v =
      record {
        end = omega (arith, w.end, v.end, length-append fs gs);
        image = v.image ∙ ap₂ (λ (k : List ℕ) (p : ℕ). laid k p gs) w.image w.end ∙ laid_more l at fs gs;
      }

-- a field in front, put there last
pub wrote_front : {fs l m n : List ℕ} {at r : ℕ} (x : ℕ) → Wrote fs l (at + 2) m r → n ≡ laid m at (x ∷ []) → Wrote (x ∷ fs) l at n r
wrote_front {fs} {l} {at = at} x w e =
    record {
      end = omega (arith, w.end);
      image = e ∙ ap (λ (k : List ℕ). laid k at (x ∷ [])) w.image ∙ laid_front l at x fs;
    }

-- the count of fields, and their length in bytes
module _ {l m n : List ℕ} {at r : ℕ} where
  pub wrote_counted : (fs : List ℕ) → Wrote fs l (at + 2) m r → n ≡ laid m at ((r - (at + 2)) / 2 ∷ []) → Wrote (counted fs) l at n r
  wrote_counted fs w e =
      let count : (r - (at + 2)) / 2 ≡ length fs = omega (arith, w.end) in
      wrote_front (length fs) w (e ∙ ap (λ (x : ℕ). laid m at (x ∷ [])) count)

  pub wrote_record : (fs : List ℕ) → Wrote fs l (at + 2) m r → n ≡ laid m at ((r - (at + 2)) ∷ []) → Wrote (of_record fs) l at n r
  wrote_record fs w e =
      let size : r - (at + 2) ≡ 2 * length fs = omega (arith, w.end) in
      wrote_front (2 * length fs) w (e ∙ ap (λ (x : ℕ). laid m at (x ∷ [])) size)

  -- an alternative, with and without literals
  pub wrote_way : (fs : List ℕ) → Wrote fs l (at + 2) m r → (r ≡ at + 2 → ⊥) → n ≡ laid m at ((r - (at + 2)) / 2 ∷ []) → Wrote (way_of fs) l at n r
  wrote_way [] w h e = absurd (h (omega (arith, w.end)))
  wrote_way (x ∷ fs) w h e = wrote_counted (x ∷ fs) w e

pub wrote_no_way : {l m : List ℕ} {at r : ℕ} (fs : List ℕ) → Wrote fs l (at + 2) m r → r ≡ at + 2 → Wrote (way_of fs) l at m at
wrote_no_way {l} {at = at} [] w e = record { end = omega arith; image = w.image ∙ laid_none l (at + 2) ∙ sym (laid_none l at) }
wrote_no_way (x ∷ fs) w e = absurd (omega (arith, w.end))

pub way_room : (fs : List ℕ) (at k : ℕ) → at + 2 * length (way_of fs) ≤ k → 2 * length fs ≤ k - (at + 2)
way_room [] at k h = omega arith
way_room (x ∷ fs) at k h = omega arith

pub way_count_lem : (fs : List ℕ) (at k : ℕ) → at + 2 * length (way_of fs) ≤ k → (length fs ≡ 0 → ⊥) → at + 2 ≤ k
way_count_lem [] at k h n = absurd (n refl)
way_count_lem (x ∷ fs) at k h n = omega arith

-- ---- loops

-- once these fields are written from `at` on, the image is `whole`, and the place behind them `end`
pub record Left (whole : List ℕ) (end : ℕ) (now : List ℕ) (at : ℕ) (fs : List ℕ) : Type 0 where
  pub place : at + 2 * length fs ≡ end
  pub image : laid now at fs ≡ whole

module _ (l : List ℕ) (at : ℕ) (all : List ℕ) where
  abbrev pub Owed : List ℕ → ℕ → List ℕ → Type 0
  Owed m r fs = Left (laid l at all) (at + 2 * length all) m r fs

  pub owed_start : Owed l at all
  owed_start = record { place = refl; image = refl }

  pub owed_length : (m : List ℕ) (r : ℕ) (fs : List ℕ) → Owed m r fs → length m ≡ length l
  owed_length m r fs o = sym (length_laid m r fs) ∙ ap length o.image ∙ length_laid l at all

  pub owed_step : {m n : List ℕ} {r s : ℕ} (fs gs : List ℕ) → Owed m r (fs ++ gs) → Wrote fs m r n s → Owed n s gs
  owed_step {m} {n} {r} {s} fs gs o w =
      record {
        place = omega (arith, o.place, w.end, length-append fs gs);
        image = ap₂ (λ (k : List ℕ) (p : ℕ). laid k p gs) w.image w.end ∙ laid_more m r fs gs ∙ o.image;
      }

  -- the last call writes all that is left
  pub owed_last : {m n : List ℕ} {r s : ℕ} (fs : List ℕ) → Owed m r fs → Wrote fs m r n s → Wrote all l at n s
  owed_last fs o w = record { end = w.end ∙ o.place; image = w.image ∙ o.image }

  pub owed_none : {m : List ℕ} {r : ℕ} → Owed m r [] → Wrote all l at m r
  owed_none {m} {r} o = owed_last [] o (wrote_none m r)
