-- Words that are cut off: the signs, abd and naf, and the runs.
-- Assumes nothing.
use Prim.Native.Nat.{ℕ, ◌+◌, ◌<◌}
use Rattle.std.proofs.Common.{arith, sym, ◌∙◌, subst, length-append, length-drop, drop-drop, eq-eqb}
use Rattle.std.specs.Prelude.{◌≡◌, Bool, ◌&&◌, ◌||◌, get_or, eqb}
use Rattle.std.proofs.Math.Path.{refl, ap}
use Rattle.std.proofs.Math.Bool.{true, false}
use mathlib.Core.List.{List, [], ◌∷◌, ◌++◌}
use Rattle.std.proofs.Math.ListN.{length, drop}
use Rattle.std.proofs.Math.Seq.{drop-append_seam}
use Rattle.base.specs.paper.Bools.{choose}
use Rattle.base.specs.Bools.{clash, choose_false, both}
use Rattle.base.specs.paper.Lists.{any}
use Rattle.base.specs.Lists.{here, there}
use Rattle.base.specs.Tests.{any_fails}
use Rattle.base.specs.Stores.{next_all}
use Rattle.spelling.specs.paper.Words.{Word, small, in_name, same, is_name, abd, naf, close, comma, semicolon, dot, neck, arrow, query, bare_abd, bare_naf}
use Rattle.spelling.specs.paper.Document.{NonEmpty}
use Rattle.spelling.specs.Cut.{cutting, behind, span, begins, beyond, sign, bracket, opened, cut_at, cut}
use Rattle.spelling.specs.Cutting.{span_whole, begins_whole, some_length}
use Rattle.spelling.specs.Codes.{abd_code, naf_code, close_code, comma_code, neck_code, semicolon_code, dot_code, arrow_code, query_code, other_code, code_of, buckets, hash_of}
use Rattle.spelling.specs.Table.{name_at}
use Rattle.spelling.specs.WordLaws.{same_true}
use Rattle.cutting.specs.CutOff.{word_at, CutOff, RunAt, Fixed}
use Rattle.cutting.specs.Spans.{front, rest}
use Rattle.cutting.specs.Entries.{Entry}
use Rattle.cutting.specs.RunCodes.{bare, byte_code, byte_no_name}

-- the word w at a place
module _ (text : List ℕ) (at : ℕ) (w t : List ℕ) (whole : w ++ t ≡ drop at text) (cuts : cut (drop at text) ≡ cutting w t) (some : NonEmpty w) where
  off : (hash : ℕ) → (is_name w ≡ true → hash ≡ hash_of w) → (is_name w ≡ true → name_at text at ≡ w) → hash < buckets
      → CutOff text at (code_of [] w) (at + length w) hash
  off hash hashed named bucket =
      let taken : word_at text at ≡ w = ap front cuts in
      let more = some_length w some in
      let long = length-append w t in
      let left = length-drop at text in
      let all = ap length whole in
      record {
        code = ap (code_of []) (sym taken);
        ahead = omega arith;
        within = omega arith;
        long = ap (λ (v : Word). at + length v) (sym taken);
        rest = ap rest cuts ∙ sym (drop-append_seam w t) ∙ ap (drop (length w)) whole ∙ drop-drop (length w) at text;
        hashed = subst (λ (v : Word). is_name v ≡ true → hash ≡ hash_of v) (sym taken) hashed;
        bucket = bucket;
        named = subst (λ (v : Word). is_name v ≡ true → name_at text at ≡ v) (sym taken) named;
      }

module _ {text : List ℕ} {at : ℕ} where
  same_off : {k e h k' e' h' : ℕ} → CutOff text at k e h → k' ≡ k → e' ≡ e → h' ≡ h → CutOff text at k' e' h'
  same_off {k} {e} {h} {k'} {e'} o p q r =
      subst (λ (z : ℕ). CutOff text at k' e' z) (sym r) (subst (λ (z : ℕ). CutOff text at k' z h) (sym q) (subst (λ (z : ℕ). CutOff text at z e h) (sym p) o))

-- ---- the fixed words that are no runs

pub record FixedWord (w : Word) (code size : ℕ) : Type 0 where
  pub some : NonEmpty w
  pub cuts : (t : List ℕ) → cut (w ++ t) ≡ cutting w t
  pub its_code : code_of [] w ≡ code
  pub no_name : is_name w ≡ false
  pub long : length w ≡ size

pub abd_fixed : FixedWord abd abd_code 4
unfolding span begins sign opened cut_at in_name small same is_name code_of
abd_fixed = record { some = tt; cuts = λ t. refl; its_code = refl; no_name = refl; long = refl }

pub naf_fixed : FixedWord naf naf_code 4
unfolding span begins sign opened cut_at in_name small same is_name code_of
naf_fixed = record { some = tt; cuts = λ t. refl; its_code = refl; no_name = refl; long = refl }

pub close_fixed : FixedWord close close_code 1
unfolding span begins sign opened cut_at in_name small same is_name code_of
close_fixed = record { some = tt; cuts = λ t. refl; its_code = refl; no_name = refl; long = refl }

pub comma_fixed : FixedWord comma comma_code 1
unfolding span begins sign opened cut_at in_name small same is_name code_of
comma_fixed = record { some = tt; cuts = λ t. refl; its_code = refl; no_name = refl; long = refl }

pub neck_fixed : FixedWord neck neck_code 2
unfolding span begins sign opened cut_at in_name small same is_name code_of
neck_fixed = record { some = tt; cuts = λ t. refl; its_code = refl; no_name = refl; long = refl }

pub semicolon_fixed : FixedWord semicolon semicolon_code 1
unfolding span begins sign opened cut_at in_name small same is_name code_of
semicolon_fixed = record { some = tt; cuts = λ t. refl; its_code = refl; no_name = refl; long = refl }

pub dot_fixed : FixedWord dot dot_code 1
unfolding span begins sign opened cut_at in_name small same is_name code_of
dot_fixed = record { some = tt; cuts = λ t. refl; its_code = refl; no_name = refl; long = refl }

pub arrow_fixed : FixedWord arrow arrow_code 4
unfolding span begins sign opened cut_at in_name small same is_name code_of
arrow_fixed = record { some = tt; cuts = λ t. refl; its_code = refl; no_name = refl; long = refl }

pub query_fixed : FixedWord query query_code 2
unfolding span begins sign opened cut_at in_name small same is_name code_of
query_fixed = record { some = tt; cuts = λ t. refl; its_code = refl; no_name = refl; long = refl }

pub fixed_off : (text : List ℕ) (at : ℕ) {w : Word} {code size found end hash : ℕ} → FixedWord w code size → begins w (drop at text) ≡ true
    → Fixed code at size found end hash → CutOff text at found end hash
fixed_off text at {w} f b x =
    let t : List ℕ = drop at text in
    let whole = begins_whole w t b in
    let o = off text at w (beyond w t) whole (ap cut (sym whole) ∙ f.cuts (beyond w t)) f.some 0 (λ n. clash n f.no_name) (λ n. clash n f.no_name) (omega arith) in
    same_off o (x.its_code ∙ sym f.its_code) (x.its_end ∙ ap (λ (n : ℕ). at + n) (sym f.long)) x.no_hash

-- an entry of such a word
abbrev pub FixedEntry : Entry → Type 0
FixedEntry e = FixedWord e.0.now e.1 (length e.0.now)

-- ---- a byte of no sign

-- the signs of more than one byte, in the order of `cut_at`
abbrev signs : List Word
signs = neck ∷ arrow ∷ query ∷ []

module _ (b : ℕ) (t : List ℕ) where
  out_of_name : (span in_name (b ∷ t)).front ≡ [] → in_name b ≡ false
  unfolding span
  out_of_name e = go (in_name b) e
    where
      go : (q : Bool) → (choose q (behind b (span in_name t)) (cutting [] (b ∷ t))).front ≡ [] → q ≡ false
      go true i = let z = ap length i in absurd (omega arith)
      go false i = refl

  no_sign : begins neck (b ∷ t) ≡ false → begins arrow (b ∷ t) ≡ false → begins query (b ∷ t) ≡ false → sign signs (b ∷ t) ≡ cutting (b ∷ []) t
  unfolding sign
  no_sign n a q = choose_false _ _ n ∙ choose_false _ _ a ∙ choose_false _ _ q

-- the text from a place that has no run
module _ (text : List ℕ) (at : ℕ) (h : at < length text) (none : name_at text at ≡ []) where
  cut_sign : cut (drop at text) ≡ sign signs (drop at text)
  unfolding cut_at
  cut_sign =
      let t : List ℕ = drop at text in
      let all : (span in_name t).rest ≡ t = ap (λ (w : Word). w ++ (span in_name t).rest) (sym none) ∙ span_whole in_name t in
      ap (λ (w : Word). cut_at w (span in_name t).rest) none ∙ ap (sign signs) all

  module _ (a : begins comma (drop at text) ≡ false) (c : begins close (drop at text) ≡ false) (d : begins dot (drop at text) ≡ false)
      (n : begins neck (drop at text) ≡ false) (s : begins semicolon (drop at text) ≡ false) (r : begins arrow (drop at text) ≡ false)
      (q : begins query (drop at text) ≡ false) where
    pub other_off : {found end hash : ℕ} → Fixed other_code at 1 found end hash → CutOff text at found end hash
    other_off x =
        let b : ℕ = get_or text at 0 in
        let t : List ℕ = drop (at + 1) text in
        let e : drop at text ≡ b ∷ t = next_all text at h in
        let out : in_name b ≡ false = out_of_name b t (ap (λ (z : List ℕ). (span in_name z).front) (sym e) ∙ none) in
        let no : (w : Word) → begins w (drop at text) ≡ false → begins w (b ∷ t) ≡ false = λ w i. ap (begins w) (sym e) ∙ i in
        let cuts : cut (drop at text) ≡ cutting (b ∷ []) t =
        cut_sign ∙ ap (sign signs) e ∙ no_sign b t (no neck n) (no arrow r) (no query q) in
        let byte : code_of [] (b ∷ []) ≡ other_code = byte_code b out t (no comma a) (no close c) (no dot d) (no semicolon s) in
        let o = off text at (b ∷ []) t (sym e) cuts tt 0 (λ i. clash i (byte_no_name b out)) (λ i. clash i (byte_no_name b out)) (omega arith) in
        same_off o (x.its_code ∙ sym byte) x.its_end x.no_hash

-- ---- a run

pub no_run : {text : List ℕ} {at end hash : ℕ} → RunAt text at end hash → end ≡ at → name_at text at ≡ []
no_run {text} {at} run e = let long = run.long in empty (name_at text at) (omega arith)
  where
    empty : (w : Word) → length w ≡ 0 → w ≡ []
    empty [] z = refl
    empty (b ∷ w) z = absurd (omega arith)

length_some : (w : Word) → 0 < length w → NonEmpty w
length_some [] h = absurd (omega arith)
length_some (b ∷ w) h = tt

begins_both : (v u t : List ℕ) → begins u t ≡ true → begins (v ++ u) (v ++ t) ≡ true
unfolding begins
begins_both [] u t e = e
begins_both (b ∷ v) u t e = both (eqb b b) (begins (v ++ u) (v ++ t)) (eq-eqb b b refl) (begins_both v u t e)

not_opened : (q a n : Bool) → (q ≡ true → a ≡ false) → (q ≡ true → n ≡ false) → (q && (a || n)) ≡ false
not_opened false a n f g = refl
not_opened true a n f g = ap (λ (z : Bool). z || n) (f refl) ∙ g refl

-- a run that is not opened is cut off as it stands
plain : (w r : List ℕ) → NonEmpty w → (begins bracket r ≡ true → same w bare_abd ≡ false) → (begins bracket r ≡ true → same w bare_naf ≡ false)
    → cut_at w r ≡ cutting w r
unfolding cut_at opened
plain [] r s f g = absurd s
plain (b ∷ w) r s f g = choose_false _ _ (not_opened (begins bracket r) (same (b ∷ w) bare_abd) (same (b ∷ w) bare_naf) f g)

module _ {text : List ℕ} {at end hash : ℕ} (run : RunAt text at end hash) (more : at < end) where
  run_some : NonEmpty (name_at text at)
  run_some = let long = run.long in length_some (name_at text at) (omega arith)

  run_off : cut (drop at text) ≡ cutting (name_at text at) (span in_name (drop at text)).rest → {found : ℕ} → found ≡ code_of [] (name_at text at) → CutOff text at found end hash
  run_off cuts e =
      same_off
      (off text at (name_at text at) (span in_name (drop at text)).rest (span_whole in_name (drop at text)) cuts run_some hash (λ n. run.hashed) (λ n. refl) run.bucket)
      e run.long refl

  -- a run that is none of those that are no names
  pub bare_off : any (same (name_at text at)) bare ≡ false → {found : ℕ} → found ≡ code_of [] (name_at text at) → CutOff text at found end hash
  bare_off n =
      let none = any_fails (same (name_at text at)) bare n in
      run_off (plain (name_at text at) (span in_name (drop at text)).rest run_some (λ q. none bare_abd here) (λ q. none bare_naf (there here)))

  -- a run where neither abd nor naf stands with its sign
  pub unopened_off : begins abd (drop at text) ≡ false → begins naf (drop at text) ≡ false → {found : ℕ} → found ≡ code_of [] (name_at text at)
      → CutOff text at found end hash
  unopened_off a n = run_off (plain w r run_some (λ q. not_that bare_abd a q) (λ q. not_that bare_naf n q))
    where
      w : Word
      w = name_at text at

      r : List ℕ
      r = (span in_name (drop at text)).rest

      not_that : (v : Word) → begins (v ++ bracket) (drop at text) ≡ false → begins bracket r ≡ true → same w v ≡ false
      not_that v i q = go (same w v) refl
        where
          go : (t : Bool) → same w v ≡ t → t ≡ false
          go true e =
              clash (begins_both v bracket r q)
              (ap (λ (u : Word). begins (v ++ bracket) (u ++ r)) (sym (same_true w v e)) ∙ ap (begins (v ++ bracket)) (span_whole in_name (drop at text)) ∙ i)
          go false e = refl
