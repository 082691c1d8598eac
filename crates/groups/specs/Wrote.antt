-- Bytes written into a room from a place on: what a function leaves that writes them, and what a loop of such steps owes.
-- Assumes nothing.
use Rattle.std.specs.Prelude.{ℕ, ◌+◌, ◌≤◌, ◌≡◌, refl, List, [], ◌∷◌, ◌++◌, length, drop, set}
use Rattle.std.proofs.Common.{sym, ap, ap₂, ◌∙◌, arith, length-append}
use Rattle.std.proofs.lemmas.List.Edits.{sets, sets-eq}
use Rattle.std.proofs.Math.Seq.{length-sets}
use Rattle.base.specs.Stores.{sets_more}
use Rattle.image.specs.paper.Spell.{two}
use Rattle.image.specs.Laid.{laid}

-- the bytes stand in the room from `at` on, and end at r; all else is as before
pub record WroteBytes (bytes before : List ℕ) (at : ℕ) (after : List ℕ) (r : ℕ) : Type 0 where
  pub end : r ≡ at + length bytes
  pub room : after ≡ sets before at bytes

pub wrote_byte : (l : List ℕ) (at x : ℕ) → WroteBytes (x ∷ []) l at (set l at x) (at + 1)
wrote_byte l at x = record { end = refl; room = refl }

-- a field is two bytes
pub wrote_field : {l m : List ℕ} {at : ℕ} (x : ℕ) → m ≡ laid l at (x ∷ []) → WroteBytes (two x) l at m (at + 2)
unfolding laid
wrote_field x e = record { end = refl; room = e }

module _ {bytes l : List ℕ} {at : ℕ} {m : List ℕ} {r : ℕ} where
  pub wrote_length : WroteBytes bytes l at m r → length m ≡ length l
  wrote_length w = ap length w.room ∙ length-sets l at bytes

  -- more bytes behind
  pub wrote_more : {more n : List ℕ} {s : ℕ} → WroteBytes bytes l at m r → WroteBytes more m r n s → WroteBytes (bytes ++ more) l at n s
  wrote_more {more} w v =
      record {
        end = omega (arith, w.end, v.end, length-append bytes more);
        room = v.room ∙ ap₂ (λ (k : List ℕ) (p : ℕ). sets k p more) w.room w.end ∙ sets_more l at bytes more;
      }

-- a place up to which all is written, of a room that keeps its length
pub record Reached (l m : List ℕ) (r place : ℕ) : Type 0 where
  pub kept : length m ≡ length l
  pub here : r ≡ place

pub reached_on : {l m n bytes : List ℕ} {r s place next : ℕ} → Reached l m r place → WroteBytes bytes m r n s → place + length bytes ≡ next → Reached l n s next
reached_on h w e = record { kept = wrote_length w ∙ h.kept; here = omega (arith, h.here, w.end) }

-- from the front on
pub wrote_front : {bytes l m : List ℕ} {r : ℕ} → length bytes ≤ length l → WroteBytes bytes l 0 m r → m ≡ bytes ++ drop r l
wrote_front {bytes} {l} h w =
    w.room
    ∙ sets-eq bytes l 0 (omega arith)
    ∙ ap (λ (n : ℕ). bytes ++ drop n l) (sym w.end)

-- ---- loops

-- once these bytes are written from r on, all are written from `at` on
pub record Owed (all l : List ℕ) (at : ℕ) (m : List ℕ) (r : ℕ) (bytes : List ℕ) : Type 0 where
  pub place : r + length bytes ≡ at + length all
  pub room : sets m r bytes ≡ sets l at all

module _ {all l : List ℕ} {at : ℕ} where
  pub owed_start : {bytes : List ℕ} → bytes ≡ all → Owed all l at l at bytes
  owed_start e = record { place = ap (λ (b : List ℕ). at + length b) e; room = ap (sets l at) e }

  module _ {m : List ℕ} {r : ℕ} {left : List ℕ} where
    pub owed_length : Owed all l at m r left → length m ≡ length l
    owed_length o = sym (length-sets m r left) ∙ ap length o.room ∙ length-sets l at all

    pub owed_step : {bytes more n : List ℕ} {s : ℕ} → left ≡ bytes ++ more → Owed all l at m r left → WroteBytes bytes m r n s → Owed all l at n s more
    owed_step {bytes} {more} e o w =
        record {
          place = omega (arith, o.place, w.end, ap length e, length-append bytes more);
          room =
              ap₂ (λ (k : List ℕ) (p : ℕ). sets k p more) w.room w.end
              ∙ sets_more m r bytes more
              ∙ ap (sets m r) (sym e)
              ∙ o.room;
        }

    pub owed_none : left ≡ [] → Owed all l at m r left → WroteBytes all l at m r
    owed_none e o = record { end = omega (arith, o.place, ap length e); room = ap (sets m r) (sym e) ∙ o.room }
