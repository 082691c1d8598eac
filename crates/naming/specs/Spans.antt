-- A name in a text is as long as its letters, digits and underscores go. Two places have the same name if as many bytes are the same
-- there and the second name ends with them.
-- Assumes nothing.
use Rattle.std.specs.Prelude.{ℕ, ◌+◌, ◌≤◌, ◌<◌, ◌≡◌, refl, Bool, true, false, not, List, [], ◌∷◌, ◌++◌, length, get_or, take, drop, eqb}
use Rattle.std.proofs.Common.{arith, sym, ap, ◌∙◌, subst, take-append-drop, length-append, length-drop, get_or-drop, eqb-true}
use Rattle.std.proofs.Math.ListN.{get_or-append}
use Rattle.std.proofs.Math.Seq.{take-append_seam, get_or-append_seam}
use Rattle.std.proofs.lemmas.Bool.{eqb-false}
use Rattle.base.specs.paper.Bools.{choose}
use Rattle.base.specs.Bools.{clash}
use Rattle.base.specs.Stores.{next_all, front as one_more}
use Rattle.spelling.specs.paper.Words.{Word, in_name, same}
use Rattle.spelling.specs.WordLaws.{same_true, same_refl}
use Rattle.spelling.specs.Cut.{Cut, cutting, behind, span}
use Rattle.spelling.specs.Cutting.{span_whole, span_all, stops, span_over}
use Rattle.spelling.specs.Table.{name_at}

-- a name of n bytes stands at a place
pub record Name (text : List ℕ) (at n : ℕ) : Type 0 where
  pub within : at + n ≤ length text
  pub long : n ≡ length (name_at text at)

-- ---- a span

span_stops : (p : ℕ → Bool) (t : List ℕ) → stops p (span p t).rest
unfolding span
span_stops p [] = tt
span_stops p (b ∷ t) = go (p b) refl (span_stops p t)
  where
    go : (q : Bool) → p b ≡ q → stops p (span p t).rest → stops p (choose q (behind b (span p t)) (cutting [] (b ∷ t))).rest
    go true e s = s
    go false e s = e

-- the bytes of the text that a span takes
span_byte : (p : ℕ → Bool) (t : List ℕ) (i : ℕ) → i < length (span p t).front → get_or (span p t).front i 0 ≡ get_or t i 0
span_byte p t i l =
    sym (get_or-append (span p t).front (span p t).rest 0 i l) ∙ ap (λ (z : List ℕ). get_or z i 0) (span_whole p t)

-- the byte behind a span
span_end : (p : ℕ → Bool) (t : List ℕ) → length (span p t).front < length t → p (get_or t (length (span p t).front) 0) ≡ false
span_end p t l = go (span p t).rest (span_whole p t) (span_stops p t)
  where
    w : List ℕ
    w = (span p t).front

    go : (r : List ℕ) → w ++ r ≡ t → stops p r → p (get_or t (length w) 0) ≡ false
    go [] e s = absurd (omega (arith, ap length e, length-append {A = ℕ} w []))
    go (b ∷ r) e s = ap p (ap (λ (z : List ℕ). get_or z (length w) 0) (sym e) ∙ get_or-append_seam w b r 0) ∙ s

-- ---- two names

module _ {text : List ℕ} {at n : ℕ} (name : Name text at n) (there : ℕ) (before : there < at) where
  front_of : (i : ℕ) → n ≡ length (name_at text i) → take n (drop i text) ≡ name_at text i
  front_of i long =
      ap (λ (k : ℕ). take k (drop i text)) long
      ∙ ap (take (length (name_at text i))) (sym (span_whole in_name (drop i text)))
      ∙ take-append_seam (name_at text i) (span in_name (drop i text)).rest

  front : take n (drop at text) ≡ name_at text at
  front = front_of at name.long

  -- as many bytes there are others
  pub other_bytes : (take n (drop at text) ≡ take n (drop there text) → ⊥) → same (name_at text at) (name_at text there) ≡ false
  other_bytes h = go (same (name_at text at) (name_at text there)) refl
    where
      go : (t : Bool) → same (name_at text at) (name_at text there) ≡ t → t ≡ false
      go false e = refl
      go true e =
          let eq : name_at text at ≡ name_at text there = same_true _ _ e in
          absurd (h (front ∙ eq ∙ sym (front_of there (name.long ∙ ap length eq))))

  byte : (i : ℕ) → i < n → get_or (name_at text at) i 0 ≡ get_or text (at + i) 0
  byte i l = span_byte in_name (drop at text) i (let e : n ≡ length (name_at text at) = name.long in omega arith) ∙ get_or-drop at text i 0

  -- a byte that is another
  pub other_byte : (i : ℕ) → i < n → (get_or text (at + i) 0 ≡ get_or text (there + i) 0 → ⊥) → same (name_at text at) (name_at text there) ≡ false
  other_byte i l h = go (same (name_at text at) (name_at text there)) refl
    where
      go : (t : Bool) → same (name_at text at) (name_at text there) ≡ t → t ≡ false
      go false e = refl
      go true e =
          let eq : name_at text at ≡ name_at text there = same_true _ _ e in
          let long : n ≡ length (name_at text there) = name.long ∙ ap length eq in
          absurd (h (sym (byte i l) ∙ ap (λ (z : List ℕ). get_or z i 0) eq ∙ span_byte in_name (drop there text) i (omega arith) ∙ get_or-drop there text i 0))

  -- the name there goes on
  goes_on : in_name (get_or text (there + n) 0) ≡ true → same (name_at text at) (name_at text there) ≡ false
  goes_on h = go (same (name_at text at) (name_at text there)) refl
    where
      go : (t : Bool) → same (name_at text at) (name_at text there) ≡ t → t ≡ false
      go false e = refl
      go true e =
          let eq : name_at text at ≡ name_at text there = same_true _ _ e in
          let long : length (name_at text there) ≡ n = sym (name.long ∙ ap length eq) in
          let fits : at + n ≤ length text = name.within in
          let ends : in_name (get_or (drop there text) (length (name_at text there)) 0) ≡ false =
          span_end in_name (drop there text) (omega (arith, length-drop there text)) in
          clash h (ap in_name (sym (ap (λ (k : ℕ). get_or (drop there text) k 0) long ∙ get_or-drop there text n 0)) ∙ ends)

  -- as many bytes are the same and the name there ends with them
  same_bytes : take n (drop at text) ≡ take n (drop there text) → in_name (get_or text (there + n) 0) ≡ false → same (name_at text at) (name_at text there) ≡ true
  same_bytes e h = subst (λ (w : Word). same (name_at text at) w ≡ true) (sym is) (same_refl (name_at text at))
    where
      w : List ℕ
      w = name_at text at

      rest : List ℕ
      rest = drop n (drop there text)

      fits : at + n ≤ length text
      fits = name.within

      first : rest ≡ get_or text (there + n) 0 ∷ drop (n + 1) (drop there text)
      first =
          next_all (drop there text) n (omega (arith, length-drop there text))
          ∙ ap (λ (b : ℕ). b ∷ drop (n + 1) (drop there text)) (get_or-drop there text n 0)

      split : drop there text ≡ w ++ rest
      split = sym (take-append-drop n (drop there text)) ∙ ap (λ (z : List ℕ). z ++ rest) (sym e ∙ front)

      is : name_at text there ≡ w
      is = ap (λ (z : List ℕ). (span in_name z).front) split ∙ ap (λ (c : Cut). c.front) (span_over in_name w rest (span_all in_name (drop at text)) (subst (stops in_name) (sym first) h))

  -- once as many bytes are the same, the byte behind them tells
  pub told : take n (drop at text) ≡ take n (drop there text) → not (in_name (get_or text (there + n) 0)) ≡ same (name_at text at) (name_at text there)
  told e = go (in_name (get_or text (there + n) 0)) refl
    where
      go : (t : Bool) → in_name (get_or text (there + n) 0) ≡ t → not t ≡ same (name_at text at) (name_at text there)
      go true h = sym (goes_on h)
      go false h = sym (same_bytes e h)

-- one byte more
pub same_more : (text : List ℕ) (at there i : ℕ) → at + i < length text → there + i < length text → take i (drop at text) ≡ take i (drop there text)
    → get_or text (at + i) 0 ≡ get_or text (there + i) 0 → take (i + 1) (drop at text) ≡ take (i + 1) (drop there text)
same_more text at there i l m e f =
    one_more (drop at text) i (omega (arith, length-drop at text))
    ∙ ap (λ (z : List ℕ). z ++ get_or (drop at text) i 0 ∷ []) e
    ∙ ap (λ (c : ℕ). take i (drop there text) ++ c ∷ []) (get_or-drop at text i 0 ∙ f ∙ sym (get_or-drop there text i 0))
    ∙ sym (one_more (drop there text) i (omega (arith, length-drop there text)))

-- the first i bytes are the same
abbrev pub SameSoFar : List ℕ → ℕ → ℕ → ℕ → ℕ → Type 0
SameSoFar text at there n i = (i ≤ n) × (take i (drop at text) ≡ take i (drop there text))

-- ---- four bytes in a turn

pub data FourSame (text : List ℕ) (a b : ℕ) : Bool → Type 0 where
  all_same : get_or text a 0 ≡ get_or text b 0 → get_or text (a + 1) 0 ≡ get_or text (b + 1) 0 → get_or text (a + 2) 0 ≡ get_or text (b + 2) 0
      → get_or text (a + 3) 0 ≡ get_or text (b + 3) 0 → FourSame text a b true
  one_other : (k : ℕ) → k < 4 → (get_or text (a + k) 0 ≡ get_or text (b + k) 0 → ⊥) → FourSame text a b false

pub first_other : (text : List ℕ) (a b : ℕ) → (get_or text a 0 ≡ get_or text b 0 → ⊥) → FourSame text a b false
first_other text a b h =
    let x : a + 0 ≡ a = omega arith in
    let y : b + 0 ≡ b = omega arith in
    one_other 0 (omega arith) (λ e. h (ap (λ (j : ℕ). get_or text j 0) (sym x) ∙ e ∙ ap (λ (j : ℕ). get_or text j 0) y))

pub last_same : (text : List ℕ) (a b : ℕ) → get_or text a 0 ≡ get_or text b 0 → get_or text (a + 1) 0 ≡ get_or text (b + 1) 0 → get_or text (a + 2) 0 ≡ get_or text (b + 2) 0
    → FourSame text a b (eqb (get_or text (a + 3) 0) (get_or text (b + 3) 0))
last_same text a b e f g = go (eqb (get_or text (a + 3) 0) (get_or text (b + 3) 0)) refl
  where
    go : (t : Bool) → eqb (get_or text (a + 3) 0) (get_or text (b + 3) 0) ≡ t → FourSame text a b t
    go true h = all_same e f g (eqb-true (get_or text (a + 3) 0) (get_or text (b + 3) 0) h)
    go false h = one_other 3 (omega arith) (eqb-false (get_or text (a + 3) 0) (get_or text (b + 3) 0) h)

module _ {text : List ℕ} {at n : ℕ} (name : Name text at n) (there : ℕ) (before : there < at) (i : ℕ) (room : i + 4 ≤ n) where
  pub four_other : FourSame text (at + i) (there + i) false → same (name_at text at) (name_at text there) ≡ false
  four_other (one_other k h d) =
      let x : at + (i + k) ≡ at + i + k = omega arith in
      let y : there + (i + k) ≡ there + i + k = omega arith in
      other_byte name there before (i + k) (omega arith) (λ e. d (ap (λ (j : ℕ). get_or text j 0) (sym x) ∙ e ∙ ap (λ (j : ℕ). get_or text j 0) y))

  pub four_more : FourSame text (at + i) (there + i) true → SameSoFar text at there n i → SameSoFar text at there n (i + 4)
  four_more (all_same e f g h) (l, s) =
      let fits : at + n ≤ length text = name.within in
      let one : (k : ℕ) → k < 4 → get_or text (at + i + k) 0 ≡ get_or text (there + i + k) 0 → take (i + k) (drop at text) ≡ take (i + k) (drop there text)
      → take (i + (k + 1)) (drop at text) ≡ take (i + (k + 1)) (drop there text) =
      λ k q d t.
      let x : at + (i + k) ≡ at + i + k = omega arith in
      let y : there + (i + k) ≡ there + i + k = omega arith in
      let z : i + k + 1 ≡ i + (k + 1) = omega arith in
      subst (λ (j : ℕ). take j (drop at text) ≡ take j (drop there text)) z
      (same_more text at there (i + k) (omega arith) (omega arith) t (ap (λ (j : ℕ). get_or text j 0) x ∙ d ∙ ap (λ (j : ℕ). get_or text j 0) (sym y))) in
      let p : at + i + 0 ≡ at + i = omega arith in
      let q : there + i + 0 ≡ there + i = omega arith in
      let none : i + 0 ≡ i = omega arith in (
        omega arith,
        one 3 (omega arith) h (one 2 (omega arith) g (one 1 (omega arith) f (one 0 (omega arith) (ap (λ (j : ℕ). get_or text j 0) p ∙ e ∙ ap (λ (j : ℕ). get_or text j 0) (sym q))
            (subst (λ (j : ℕ). take j (drop at text) ≡ take j (drop there text)) (sym none) s)))),
      )
