-- A span over a text, a byte at a time: what a loop over blanks and one over a run go by.
-- Assumes nothing.
use Rattle.std.specs.Prelude.{ℕ, ◌+◌, ◌%◌, ◌<◌, ◌≤◌, ◌≡◌, refl, Bool, true, false, drop}
use Rattle.std.proofs.Common.{arith, ◌∙◌, subst}
use Rattle.std.proofs.Math.Path.{sym, ap}
use mathlib.Core.List.{List, [], ◌∷◌}
use Rattle.std.proofs.Math.ListN.{length, get_or, drop_of_length-le}
use Rattle.base.specs.Bools.{choose_true, choose_false}
use Rattle.base.specs.Stores.{next_all}
use Rattle.spelling.specs.paper.Words.{Word, blank, in_name}
use Rattle.spelling.specs.Cut.{Cut, cutting, behind, span}
use Rattle.spelling.specs.Codes.{buckets, hash_values, hash_from, hash_of}
use Rattle.spelling.specs.Table.{name_at}
use Rattle.cutting.specs.CutOff.{BlanksEnd, RunAt}

abbrev pub front : Cut → Word
front c = c.front

abbrev pub rest : Cut → List ℕ
rest c = c.rest

module _ (p : ℕ → Bool) (text : List ℕ) (i : ℕ) where
  -- one byte more
  span_met : i < length text → p (get_or text i 0) ≡ true → span p (drop i text) ≡ behind (get_or text i 0) (span p (drop (i + 1) text))
  unfolding span
  span_met h e = ap (span p) (next_all text i h) ∙ choose_true _ _ e

  -- a byte that ends it
  span_unmet : i < length text → p (get_or text i 0) ≡ false → span p (drop i text) ≡ cutting [] (drop i text)
  unfolding span
  span_unmet h e = ap (span p) (next_all text i h) ∙ choose_false _ _ e ∙ ap (cutting []) (sym (next_all text i h))

  -- the end of the text
  span_over : length text ≤ i → span p (drop i text) ≡ cutting [] (drop i text)
  unfolding span
  span_over h = let none = drop_of_length-le text h in ap (span p) none ∙ ap (cutting []) (sym none)

-- ---- blanks, up to i

pub record Passing (text : List ℕ) (at i : ℕ) : Type 0 where
  pub ahead : at ≤ i
  pub within : i ≤ length text
  pub rest : (span blank (drop at text)).rest ≡ (span blank (drop i text)).rest

module _ (text : List ℕ) (at : ℕ) where
  pub passing_first : at ≤ length text → Passing text at at
  passing_first h = record { ahead = omega arith; within = h; rest = refl }

  module _ (i : ℕ) (so : Passing text at i) where
    pub passing_more : i < length text → blank (get_or text i 0) ≡ true → Passing text at (i + 1)
    passing_more h e = record { ahead = omega arith; within = omega arith; rest = so.rest ∙ ap rest (span_met blank text i h e) }

    blanks_stop : span blank (drop i text) ≡ cutting [] (drop i text) → BlanksEnd text at i
    blanks_stop e = record { ahead = so.ahead; within = so.within; rest = so.rest ∙ ap rest e }

    pub blanks_met : i < length text → blank (get_or text i 0) ≡ false → BlanksEnd text at i
    blanks_met h e = blanks_stop (span_unmet blank text i h e)

    pub blanks_over : length text ≤ i → BlanksEnd text at (length text)
    blanks_over h =
        let within = so.within in
        let end : i ≡ length text = omega arith in
        subst (BlanksEnd text at) end (blanks_stop (span_over blank text i h))

-- ---- a run and its hash, up to i

pub record Running (text : List ℕ) (at i hash : ℕ) : Type 0 where
  pub long : at + length (name_at text at) ≡ i + length (name_at text i)
  pub within : i ≤ length text
  pub rest : (span in_name (drop at text)).rest ≡ (span in_name (drop i text)).rest
  pub hashed : hash_from 0 (name_at text at) ≡ hash_from hash (name_at text i)
  pub bounded : hash < hash_values

module _ (text : List ℕ) (at : ℕ) where
  pub running_first : at ≤ length text → Running text at at 0
  running_first h = record { long = refl; within = h; rest = refl; hashed = refl; bounded = omega arith }

  module _ (i hash : ℕ) (so : Running text at i hash) where
    pub running_more : (next : ℕ) → i < length text → in_name (get_or text i 0) ≡ true → next ≡ hash_from hash (get_or text i 0 ∷ []) → next < hash_values
        → Running text at (i + 1) next
    unfolding hash_from
    running_more next h e n b =
        let more : name_at text i ≡ get_or text i 0 ∷ name_at text (i + 1) = ap front (span_met in_name text i h e) in
        let one = ap length more in
        record {
          long = so.long ∙ omega arith;
          within = omega arith;
          rest = so.rest ∙ ap rest (span_met in_name text i h e);
          hashed = so.hashed ∙ ap (hash_from hash) more ∙ ap (λ (g : ℕ). hash_from g (name_at text (i + 1))) (sym n);
          bounded = b;
        }

    run_stop : span in_name (drop i text) ≡ cutting [] (drop i text) → RunAt text at i (hash % buckets)
    unfolding hash_from hash_of
    run_stop e =
        let none : name_at text i ≡ [] = ap front e in
        let zero = ap length none in
        record {
          long = sym (so.long ∙ omega arith);
          within = so.within;
          rest = so.rest ∙ ap rest e;
          hashed = ap (λ (h : ℕ). h % buckets) (sym (so.hashed ∙ ap (hash_from hash) none));
          bucket = omega arith;
        }

    pub run_met : i < length text → in_name (get_or text i 0) ≡ false → RunAt text at i (hash % buckets)
    run_met h e = run_stop (span_unmet in_name text i h e)

    pub run_over : length text ≤ i → RunAt text at (length text) (hash % buckets)
    run_over h =
        let within = so.within in
        let end : i ≡ length text = omega arith in
        subst (λ (e : ℕ). RunAt text at e (hash % buckets)) end (run_stop (span_over in_name text i h))
