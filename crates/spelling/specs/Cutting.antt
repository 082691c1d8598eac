-- Every text is its words with blanks round them; and words that are apart are cut as they were spaced.
-- Assumes nothing.
use Rattle.std.specs.Prelude.{ℕ, zero, suc, ◌≤◌, ◌≡◌, refl, Bool, true, false, ◌&&◌, ◌||◌, not, List, [], ◌∷◌, ◌++◌, length, eqb}
use Rattle.std.proofs.Common.{arith, sym, ap, ◌∙◌, subst, append_assoc, append-nil, length-append, eqb-true}
use Rattle.base.specs.paper.Bools.{choose}
use Rattle.base.specs.Bools.{clash, both_left, both_right}
use Rattle.base.specs.paper.Lists.{Every, all}
use Rattle.base.specs.Lists.{every_none, every_more, every_first, every_rest}
use Rattle.spelling.specs.paper.Words.{Word, blank, in_name, same, neck, arrow, query, bare_abd, bare_naf}
use Rattle.spelling.specs.Cut.{Cut, cutting, behind, span, begins, beyond, sign, bracket, opened, cut_at, cut, words_by, words_in, words}
use Rattle.spelling.specs.paper.Document.{NonEmpty}
use Rattle.spelling.specs.paper.Spelt.{Spaced}

-- ---- a span

pub span_whole : (p : ℕ → Bool) (t : List ℕ) → (span p t).front ++ (span p t).rest ≡ t
unfolding span
span_whole p [] = refl
span_whole p (b ∷ t) = go (p b) (span_whole p t)
  where
    go : (q : Bool) → (span p t).front ++ (span p t).rest ≡ t
        → (choose q (behind b (span p t)) (cutting [] (b ∷ t))).front ++ (choose q (behind b (span p t)) (cutting [] (b ∷ t))).rest ≡ b ∷ t
    go true e = ap (λ (z : List ℕ). b ∷ z) e
    go false e = refl

pub span_all : (p : ℕ → Bool) (t : List ℕ) → all p (span p t).front ≡ true
unfolding span
span_all p [] = refl
span_all p (b ∷ t) = go (p b) refl (span_all p t)
  where
    go : (q : Bool) → p b ≡ q → all p (span p t).front ≡ true → all p (choose q (behind b (span p t)) (cutting [] (b ∷ t))).front ≡ true
    go true i e = ap (λ (q : Bool). q && all p (span p t).front) i ∙ e
    go false i e = refl

-- the test does not hold of the first byte
abbrev pub stops : (ℕ → Bool) → List ℕ → Type 0
stops p [] = Unit {0}
stops p (b ∷ t) = p b ≡ false

-- a span is as long as it can be
pub span_over : (p : ℕ → Bool) (s t : List ℕ) → all p s ≡ true → stops p t → span p (s ++ t) ≡ cutting s t
unfolding span
span_over p [] [] h e = refl
span_over p [] (b ∷ t) h e = ap (λ (q : Bool). choose q (behind b (span p t)) (cutting [] (b ∷ t))) e
span_over p (b ∷ s) t h e =
    ap (λ (q : Bool). choose q (behind b (span p (s ++ t))) (cutting [] (b ∷ (s ++ t)))) (both_left (p b) (all p s) h)
    ∙ ap (behind b) (span_over p s t (both_right (p b) (all p s) h) e)

-- ---- a cut

pub begins_whole : (w t : List ℕ) → begins w t ≡ true → w ++ beyond w t ≡ t
unfolding begins
begins_whole [] t e = refl
begins_whole (a ∷ w) [] e = clash refl (sym e)
begins_whole (a ∷ w) (b ∷ t) e =
    ap (λ (c : ℕ). c ∷ (w ++ beyond w t)) (eqb-true a b (both_left (eqb a b) (begins w t) e))
    ∙ ap (λ (z : List ℕ). b ∷ z) (begins_whole w t (both_right (eqb a b) (begins w t) e))

-- what a cut takes and leaves is the whole, and it takes something
pub record Whole (c : Cut) (t : List ℕ) : Type 0 where
  pub whole : c.front ++ c.rest ≡ t
  pub some : NonEmpty c.front

sign_whole : (ss : List Word) (b : ℕ) (t : List ℕ) → Every NonEmpty ss → Whole (sign ss (b ∷ t)) (b ∷ t)
unfolding sign
sign_whole [] b t h = record { whole = refl; some = tt }
sign_whole (w ∷ ss) b t h = go (begins w (b ∷ t)) refl (sign_whole ss b t (every_rest h))
  where
    go : (q : Bool) → begins w (b ∷ t) ≡ q → Whole (sign ss (b ∷ t)) (b ∷ t) → Whole (choose q (cutting w (beyond w (b ∷ t))) (sign ss (b ∷ t))) (b ∷ t)
    go true e r = record { whole = begins_whole w (b ∷ t) e; some = every_first h }
    go false e r = r

opened_whole : (b : ℕ) (w t : List ℕ) → Whole (opened (b ∷ w) t) (b ∷ (w ++ t))
unfolding opened
opened_whole b w t = go (begins bracket t && (same (b ∷ w) bare_abd || same (b ∷ w) bare_naf)) refl
  where
    go : (q : Bool) → (begins bracket t && (same (b ∷ w) bare_abd || same (b ∷ w) bare_naf)) ≡ q
        → Whole (choose q (cutting (b ∷ (w ++ bracket)) (beyond bracket t)) (cutting (b ∷ w) t)) (b ∷ (w ++ t))
    go true e = record {
      whole =
          ap (λ (z : List ℕ). b ∷ z)
          (append_assoc w bracket (beyond bracket t)
          ∙ ap (λ (z : List ℕ). w ++ z) (begins_whole bracket t (both_left (begins bracket t) (same (b ∷ w) bare_abd || same (b ∷ w) bare_naf) e)));
      some = tt;
    }
    go false e = record { whole = refl; some = tt }

cut_whole : (b : ℕ) (t : List ℕ) → Whole (cut (b ∷ t)) (b ∷ t)
unfolding cut_at
cut_whole b t = go (span in_name (b ∷ t)).front (span in_name (b ∷ t)).rest (span_whole in_name (b ∷ t))
  where
    three : Every NonEmpty (neck ∷ arrow ∷ query ∷ [])
    three = every_more tt (every_more tt (every_more tt (every_none NonEmpty)))

    go : (w r : List ℕ) → w ++ r ≡ b ∷ t → Whole (cut_at w r) (b ∷ t)
    go [] r e = subst (λ (z : List ℕ). Whole (sign (neck ∷ arrow ∷ query ∷ []) z) (b ∷ t)) (sym e) (sign_whole (neck ∷ arrow ∷ query ∷ []) b t three)
    go (c ∷ w) r e = subst (λ (z : List ℕ). Whole (opened (c ∷ w) r) z) e (opened_whole c w r)

pub some_length : (w : List ℕ) → NonEmpty w → 1 ≤ length w
some_length [] h = absurd h
some_length (b ∷ w) h = omega arith

-- ---- every text is its words with blanks round them

pub words_spaced : (n : ℕ) (t : List ℕ) → length t ≤ n → Spaced t (words_in n t)
unfolding words_in words_by
words_spaced zero [] h = refl
words_spaced zero (b ∷ t) h = absurd (omega arith)
words_spaced (suc n) t h = go (span blank t).rest (span_whole blank t) (words_spaced n)
  where
    gap : List ℕ
    gap = (span blank t).front

    go : (r : List ℕ) → (span blank t).front ++ r ≡ t → ((u : List ℕ) → length u ≤ n → Spaced u (words_in n u)) → Spaced t (words_by (words_in n) r)
    go [] e ih = ap (all blank) (sym e ∙ append-nil (span blank t).front) ∙ span_all blank t
    go (b ∷ r) e ih =
        let w = cut_whole b r in
        let c : Cut = cut (b ∷ r) in
        let some : 1 ≤ length c.front = some_length c.front w.some in
        let long : length (c.front ++ c.rest) ≡ length (b ∷ r) = ap length w.whole in
        let longer : length ((span blank t).front ++ b ∷ r) ≡ length t = ap length e in (
          (span blank t).front,
          c.rest,
          span_all blank t,
          sym e ∙ ap (λ (z : List ℕ). (span blank t).front ++ z) (sym w.whole),
          ih c.rest (omega (arith, length-append c.front c.rest, length-append (span blank t).front (b ∷ r))),
        )

-- ---- words that are cut as they were spaced

abbrev pub solid : Word → Bool
solid [] = false
solid (b ∷ w) = not (blank b)

-- each word is cut off where it stands before the others
abbrev pub Apart : List Word → Type 0
Apart [] = Unit {0}
Apart (w ∷ ws) = (solid w ≡ true) × ((rest : List ℕ) → Spaced rest ws → cut (w ++ rest) ≡ cutting w rest) × Apart ws

pub words_apart : (n : ℕ) (t : List ℕ) (ws : List Word) → length t ≤ n → Spaced t ws → Apart ws → words_in n t ≡ ws
unfolding words_in words_by span
words_apart zero [] [] h s a = refl
words_apart zero [] ([] ∷ ws) h s a = clash refl (sym a.0)
words_apart zero [] ((b ∷ w) ∷ ws) h s a =
    let e : length (s.0 ++ b ∷ (w ++ s.1)) ≡ 0 = ap length (sym s.3) in
    absurd (omega (arith, length-append s.0 (b ∷ (w ++ s.1))))
words_apart zero (b ∷ t) ws h s a = absurd (omega arith)
words_apart (suc n) t [] h s a =
    ap (λ (z : List ℕ). words_by (words_in n) (span blank z).rest) (sym (append-nil t))
    ∙ ap (λ (c : Cut). words_by (words_in n) c.rest) (span_over blank t [] s tt)
words_apart (suc n) t ([] ∷ ws) h s a = clash refl (sym a.0)
words_apart (suc n) t ((b ∷ w) ∷ ws) h s a =
    let gap : List ℕ = s.0 in
    let rest : List ℕ = s.1 in
    let long : length t ≡ length (gap ++ b ∷ (w ++ rest)) = ap length s.3 in
    ap (λ (z : List ℕ). words_by (words_in n) (span blank z).rest) s.3
    ∙ ap (λ (c : Cut). words_by (words_in n) c.rest) (span_over blank gap (b ∷ (w ++ rest)) s.2 (first (blank b) a.0))
    ∙ ap (λ (c : Cut). c.front ∷ words_in n c.rest) (a.1 rest s.4)
    ∙ ap (λ (us : List Word). (b ∷ w) ∷ us)
    (words_apart n rest ws (omega (arith, length-append gap (b ∷ (w ++ rest)), length-append w rest)) s.4 a.2)
  where
    first : (t : Bool) → not t ≡ true → t ≡ false
    first true e = sym e
    first false e = refl

-- ---- the words, with no fuel: what the code follows

words_same : (n m : ℕ) (t : List ℕ) → length t ≤ n → length t ≤ m → words_in n t ≡ words_in m t
unfolding words_in words_by span
words_same zero zero t h k = refl
words_same zero (suc m) [] h k = refl
words_same zero (suc m) (b ∷ t) h k = absurd (omega arith)
words_same (suc n) zero [] h k = refl
words_same (suc n) zero (b ∷ t) h k = absurd (omega arith)
words_same (suc n) (suc m) t h k = go (span blank t).rest (span_whole blank t) (words_same n m)
  where
    go : (r : List ℕ) → (span blank t).front ++ r ≡ t → ((u : List ℕ) → length u ≤ n → length u ≤ m → words_in n u ≡ words_in m u)
        → words_by (words_in n) r ≡ words_by (words_in m) r
    go [] e ih = refl
    go (b ∷ r) e ih =
        let w = cut_whole b r in
        let c : Cut = cut (b ∷ r) in
        let some : 1 ≤ length c.front = some_length c.front w.some in
        let long : length (c.front ++ c.rest) ≡ length (b ∷ r) = ap length w.whole in
        let longer : length ((span blank t).front ++ b ∷ r) ≡ length t = ap length e in
        ap (λ (us : List Word). c.front ∷ us)
        (ih c.rest (omega (arith, length-append c.front c.rest, length-append (span blank t).front (b ∷ r)))
        (omega (arith, length-append c.front c.rest, length-append (span blank t).front (b ∷ r))))

pub words_on : (t : List ℕ) → words t ≡ words_by words (span blank t).rest
unfolding words_in words_by
words_on t = words_same (length t) (suc (length t)) t (omega arith) (omega arith) ∙ go (span blank t).rest (span_whole blank t)
  where
    go : (r : List ℕ) → (span blank t).front ++ r ≡ t → words_by (words_in (length t)) r ≡ words_by words r
    go [] e = refl
    go (b ∷ r) e =
        let w = cut_whole b r in
        let c : Cut = cut (b ∷ r) in
        let some : 1 ≤ length c.front = some_length c.front w.some in
        let long : length (c.front ++ c.rest) ≡ length (b ∷ r) = ap length w.whole in
        let longer : length ((span blank t).front ++ b ∷ r) ≡ length t = ap length e in
        ap (λ (us : List Word). c.front ∷ us)
        (words_same (length t) (length c.rest) c.rest
        (omega (arith, length-append c.front c.rest, length-append (span blank t).front (b ∷ r))) (omega arith))
