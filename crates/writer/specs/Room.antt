-- How long an image can be: but for A, B and three counts, every field costs a byte of the text. A name has a byte, and so has each end of a
-- part, for a record's length or for a count; `--->`, behind which both stand, has four.
-- Assumes nothing.
use Prim.Native.Nat.{ℕ, suc, ◌+◌, ◌-◌, ◌*◌, ◌≤◌}
use native.Mathlib.Omega.{arith}
use Rattle.std.specs.Prelude.{◌≡◌, Bool, ◌&&◌, take, drop, leb}
use Rattle.std.proofs.Math.Path.{refl, ap, subst}
use Rattle.std.proofs.Common.{sym, ◌∙◌, take-append-drop, drop-drop, eqb-true}
use Rattle.std.proofs.Math.Bool.{true, false}
use mathlib.Core.List.{List, [], ◌∷◌, ◌++◌}
use Rattle.std.proofs.Math.ListN.{length, length-append}
use Rattle.std.proofs.Math.Dec.{eqb}
use Rattle.base.specs.paper.Bools.{choose}
use Rattle.base.specs.paper.Lists.{sum}
use Rattle.base.specs.Flat.{sum_append}
use Rattle.image.specs.paper.Spell.{of_record}
use Rattle.spelling.specs.Codes.{dot_code, arrow_code, first_name}
use Rattle.writer.specs.Fields.{Numbers, head_factor, literal_factor, sign_after, names_from, lits_of, Part, part, longer, is_end, parts_of, counted, way_of, ways_of, inside_of, starts, records_of, statements_of, fields_by}

-- how many fields a code can stand for
unfoldable pub weight : ℕ → ℕ
weight k = choose (eqb k arrow_code) 2 1

weight_some : (k : ℕ) → 1 ≤ weight k
unfolding weight
weight_some k = go (eqb k arrow_code)
  where
    go : (t : Bool) → 1 ≤ choose t 2 1
    go true = omega arith
    go false = omega arith

part_weight : Part → ℕ
part_weight p = length p.inside + weight p.end

parts_weight : (l : List ℕ) → sum part_weight (parts_of l) ≤ sum weight l
unfolding parts_of part_weight
parts_weight [] = omega arith
parts_weight (k ∷ l) = go (is_end k) (parts_of l) (parts_weight l)
  where
    go : (t : Bool) (ps : List Part) → sum part_weight ps ≤ sum weight l → sum part_weight (choose t (part [] k ∷ ps) (longer k ps)) ≤ weight k + sum weight l
    go true ps h = omega arith
    go false [] h = omega arith
    go false (p ∷ ps) h = omega (arith, weight_some k)

length_weight : (l : List ℕ) → length l ≤ sum weight l
length_weight [] = omega arith
length_weight (k ∷ l) = omega (arith, weight_some k, length_weight l)

module _ (number : Numbers) where
  names_short : (factor sign : ℕ) (ks : List ℕ) → length (names_from number factor sign ks) ≤ length ks
  unfolding names_from
  names_short factor sign [] = omega arith
  names_short factor sign (k ∷ ks) = go (leb first_name k) (names_short literal_factor 0 ks) (names_short factor (sign_after sign k) ks)
    where
      go : (t : Bool) → length (names_from number literal_factor 0 ks) ≤ length ks → length (names_from number factor (sign_after sign k) ks) ≤ length ks
          → length (choose t ((factor * number (k - first_name) + sign) ∷ names_from number literal_factor 0 ks) (names_from number factor (sign_after sign k) ks)) ≤ suc (length ks)
      go true a b = omega arith
      go false a b = omega arith

  way_short : (fs : List ℕ) → length (way_of fs) ≤ suc (length fs)
  way_short [] = omega arith
  way_short (x ∷ fs) = omega arith

  abbrev both : ℕ → List Part → ℕ
  both last ps = length (records_of number dot_code last ps) + length (records_of number arrow_code last ps)

  -- at a statement's start; and among alternatives
  Fits : List Part → Type 0
  Fits ps = (both dot_code ps ≤ sum part_weight ps) × ((last : ℕ) → eqb last dot_code ≡ false → length (ways_of number ps) + both last ps ≤ sum part_weight ps)

  module _ (p : Part) (ps : List Part) where
    abbrev end : ℕ
    end = p.end

    record_length : (kind last : ℕ) (t : Bool) → starts kind last end ≡ t
        → length (records_of number kind last (p ∷ ps)) ≡ choose t (suc (length (inside_of number kind p.inside ps))) 0 + length (records_of number kind end ps)
    unfolding records_of
    record_length kind last t e = ap (λ (b : Bool). length (choose b (of_record (inside_of number kind p.inside ps)) [] ++ records_of number kind end ps)) e ∙ go t
      where
        go : (b : Bool) → length (choose b (of_record (inside_of number kind p.inside ps)) [] ++ records_of number kind end ps)
            ≡ choose b (suc (length (inside_of number kind p.inside ps))) 0 + length (records_of number kind end ps)
        go true = length-append (of_record (inside_of number kind p.inside ps)) (records_of number kind end ps)
        go false = omega arith

    module _ (fits : Fits ps) where
      behind_dot : eqb end dot_code ≡ true → both end ps ≤ sum part_weight ps
      unfolding Fits
      behind_dot e = subst (λ (k : ℕ). both k ps ≤ sum part_weight ps) (sym (eqb-true end dot_code e)) fits.0

      behind_other : eqb end dot_code ≡ false → length (ways_of number ps) + both end ps ≤ sum part_weight ps
      unfolding Fits
      behind_other e = fits.1 end e

      -- behind a `.`
      first : (t : Bool) → eqb end dot_code ≡ t → (u : Bool) → eqb end arrow_code ≡ u → both dot_code (p ∷ ps) ≤ part_weight p + sum part_weight ps
      unfolding part_weight weight starts inside_of
      first true e u f =
          let g : eqb end arrow_code ≡ false = ap (λ (k : ℕ). eqb k arrow_code) (eqb-true end dot_code e) in
          omega (
            arith,
            record_length dot_code dot_code true e,
            record_length arrow_code dot_code false g,
            names_short head_factor 0 p.inside,
            behind_dot e,
            weight_some end,
          )
      first false e true f =
          let w : weight end ≡ 2 = ap (λ (b : Bool). choose b 2 1) f in
          omega (
            arith,
            record_length dot_code dot_code false e,
            record_length arrow_code dot_code true f,
            length-append (counted (lits_of number p.inside)) (ways_of number ps),
            names_short literal_factor 0 p.inside,
            behind_other e,
            w,
          )
      first false e false f = omega (arith, record_length dot_code dot_code false e, record_length arrow_code dot_code false f, behind_other e)

      -- among alternatives
      other : (last : ℕ) → eqb last dot_code ≡ false → (t : Bool) → eqb end dot_code ≡ t
          → length (way_of (lits_of number p.inside) ++ choose t [] (ways_of number ps)) + both last (p ∷ ps) ≤ part_weight p + sum part_weight ps
      unfolding part_weight starts
      other last q t e =
          let way : List ℕ = way_of (lits_of number p.inside) in
          let none : (kind : ℕ) → starts kind last end ≡ false = λ kind. ap (λ (b : Bool). b && eqb end kind) q in
          omega (
            arith,
            record_length dot_code last false (none dot_code),
            record_length arrow_code last false (none arrow_code),
            length-append way (choose t [] (ways_of number ps)),
            way_short (lits_of number p.inside),
            names_short literal_factor 0 p.inside,
            weight_some end,
            rest t e,
          )
        where
          rest : (t : Bool) → eqb end dot_code ≡ t → length (choose t [] (ways_of number ps)) + both end ps ≤ sum part_weight ps
          rest true e = omega (arith, behind_dot e)
          rest false e = behind_other e

  records_fit : (ps : List Part) → Fits ps
  unfolding Fits records_of ways_of
  records_fit [] = (omega arith, λ last e. omega arith)
  records_fit (p ∷ ps) =
      let fits = records_fit ps in
      (first p ps fits (eqb p.end dot_code) refl (eqb p.end arrow_code) refl, λ last q. other p ps fits last q (eqb p.end dot_code) refl)

-- A, B, and the counts of goal literals, clauses and constraints
abbrev pub own_fields : ℕ
own_fields = 5

pub fields_short : (number : Numbers) (codes : List ℕ) (goal atoms abducibles : ℕ) → length (fields_by number codes goal atoms abducibles) ≤ own_fields + sum weight codes
unfolding Fits
fields_short number codes goal atoms abducibles =
    let ps : List Part = parts_of (take goal codes) in
    let g : List ℕ = lits_of number (drop (goal + 1) codes) in
    let clauses : List ℕ = statements_of number dot_code ps in
    let constraints : List ℕ = statements_of number arrow_code ps in
    let whole : sum weight codes ≡ sum weight (take goal codes) + sum weight (drop goal codes) =
    ap (sum weight) (sym (take-append-drop goal codes)) ∙ sum_append weight (take goal codes) (drop goal codes) in
    let later : sum weight (drop (goal + 1) codes) ≤ sum weight (drop goal codes) =
    subst (λ (l : List ℕ). sum weight l ≤ sum weight (drop goal codes)) (drop-drop 1 goal codes) (less (drop goal codes)) in
    omega (
      arith,
      length-append (counted g) (clauses ++ constraints),
      length-append clauses constraints,
      (records_fit number ps).0,
      parts_weight (take goal codes),
      names_short number literal_factor 0 (drop (goal + 1) codes),
      length_weight (drop (goal + 1) codes),
    )
  where
    less : (l : List ℕ) → sum weight (drop 1 l) ≤ sum weight l
    less [] = omega arith
    less (k ∷ l) = omega arith
