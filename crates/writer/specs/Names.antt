-- The loop over a part's codes: what is owed before each, and how it goes on behind it.
-- Assumes nothing.
use Rattle.std.specs.Prelude.{ℕ, ◌+◌, ◌-◌, ◌*◌, ◌≤◌, ◌<◌, ◌≡◌, Bool, true, false, List, [], ◌∷◌, length, get_or, drop, eqb}
use Rattle.std.proofs.Common.{arith, sym, subst, ◌∙◌, le-leb, drop_of_length-le}
use Rattle.std.proofs.Math.Path.{ap}
use Rattle.std.proofs.lemmas.Bool.{lt-leb}
use Rattle.base.specs.paper.Bools.{choose}
use Rattle.base.specs.Bools.{choose_true, choose_false}
use Rattle.base.specs.Stores.{next_all}
use Rattle.image.specs.Laid.{laid}
use Rattle.spelling.specs.Codes.{naf_code, first_name}
use Rattle.writer.specs.Fields.{Numbers, number_in, literal_factor, negated, sign_after, names_from}
use Rattle.writer.specs.Wrote.{Wrote, wrote_field, Owed, owed_start, owed_length, owed_step, owed_none}
use Rattle.writer.specs.Due.{Known}

pub names_other : (number : Numbers) (factor sign k : ℕ) (ks : List ℕ) → k < first_name
    → names_from number factor sign (k ∷ ks) ≡ names_from number factor (sign_after sign k) ks
unfolding names_from
names_other number factor sign k ks h = choose_false _ _ (lt-leb first_name k h)

pub names_name : (number : Numbers) (factor sign k : ℕ) (ks : List ℕ) → first_name ≤ k
    → names_from number factor sign (k ∷ ks) ≡ (factor * number (k - first_name) + sign) ∷ names_from number literal_factor 0 ks
unfolding names_from
names_name number factor sign k ks h = choose_true _ _ (le-leb first_name k h)

sign_small : (sign k : ℕ) → sign ≤ negated → sign_after sign k ≤ negated
unfolding sign_after
sign_small sign k h = go (eqb k naf_code)
  where
    go : (t : Bool) → choose t negated sign ≤ negated
    go true = omega arith
    go false = h

module _ (codes numbers : List ℕ) (factor : ℕ) (image₀ : List ℕ) (at : ℕ) where
  abbrev all : List ℕ
  all = names_from (number_in numbers) factor 0 codes

  abbrev rest : ℕ → ℕ → ℕ → List ℕ
  rest i times sign = names_from (number_in numbers) times sign (drop i codes)

  pub record Naming (image : List ℕ) (i end times sign : ℕ) : Type 0 where
    pub low : i ≤ length codes
    pub behind : at ≤ end
    pub factor_small : times ≤ literal_factor
    pub sign_small : sign ≤ negated
    pub owed : Owed image₀ at (names_from (number_in numbers) factor 0 codes) image end (names_from (number_in numbers) times sign (drop i codes))

  module _ (known : Known codes numbers) where
    pub naming_start : factor ≤ literal_factor → Naming image₀ 0 at factor 0
    naming_start f = record { low = omega arith; behind = omega arith; factor_small = f; sign_small = omega arith; owed = owed_start image₀ at all }

    module _ {image : List ℕ} {i end times sign : ℕ} (n : Naming image i end times sign) where
      pub naming_length : length image ≡ length image₀
      naming_length = owed_length image₀ at all image end (rest i times sign) n.owed

      pub naming_end : length codes ≤ i → Wrote all image₀ at image end
      unfolding names_from
      naming_end h =
          owed_none image₀ at all
          (subst (Owed image₀ at all image end) (ap (names_from (number_in numbers) times sign) (drop_of_length-le codes h)) n.owed)

      module _ (h : i < length codes) (code : ℕ) (c : code ≡ get_or codes i 0) where
        here : rest i times sign ≡ names_from (number_in numbers) times sign (code ∷ drop (i + 1) codes)
        here = ap (names_from (number_in numbers) times sign) (next_all codes i h ∙ ap (λ (k : ℕ). k ∷ drop (i + 1) codes) (sym c))

        pub naming_other : code < first_name → Naming image (i + 1) end times (sign_after sign code)
        naming_other k =
            record {
              low = omega arith;
              behind = n.behind;
              factor_small = n.factor_small;
              sign_small = sign_small sign code n.sign_small;
              owed = subst (Owed image₀ at all image end) (here ∙ names_other (number_in numbers) times sign code (drop (i + 1) codes) k) n.owed;
            }

        module _ (k : first_name ≤ code) where
          abbrev field : ℕ
          field = times * number_in numbers (code - first_name) + sign

          due : Owed image₀ at all image end (field ∷ rest (i + 1) literal_factor 0)
          due = subst (Owed image₀ at all image end) (here ∙ names_name (number_in numbers) times sign code (drop (i + 1) codes) k) n.owed

          pub naming_room : 2 * length all ≤ length image₀ - at → end + 2 ≤ length image
          naming_room r = omega (arith, due.place, naming_length)

          pub naming_name : {after : List ℕ} → after ≡ laid image end (field ∷ []) → Naming after (i + 1) (end + 2) literal_factor 0
          naming_name e =
              record {
                low = omega arith;
                behind = omega (arith, n.behind);
                factor_small = omega arith;
                sign_small = omega arith;
                owed =
                    owed_step image₀ at all (field ∷ []) (rest (i + 1) literal_factor 0) due
                    (subst (λ (m : List ℕ). Wrote (field ∷ []) image end m (end + 2)) (sym e) (wrote_field image end field));
              }
