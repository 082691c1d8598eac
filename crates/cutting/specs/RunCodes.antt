-- The codes of words that are no fixed words: of one byte, and of a run.
-- Assumes nothing.
use Rattle.std.specs.Prelude.{ℕ, suc, ◌+◌, ◌-◌, ◌<◌, ◌≤◌, ◌≡◌, Bool, ◌&&◌, List, [], ◌∷◌, ◌++◌, length, drop, get_or}
use Rattle.std.proofs.Common.{arith, sym, ◌∙◌, subst, le-leb}
use Rattle.std.proofs.Math.Path.{refl, ap}
use Rattle.std.proofs.Math.Bool.{true, false, not}
use Rattle.std.proofs.Math.Dec.{leb}
use Rattle.std.proofs.lemmas.Bool.{lt-leb}
use Rattle.base.specs.paper.Bools.{choose}
use Rattle.base.specs.Bools.{clash, choose_false}
use Rattle.base.specs.paper.Lists.{◌∈◌, Every, all, any}
use Rattle.base.specs.Lists.{here, there, every_none, every_more, every_first, every_rest}
use Rattle.base.specs.Tests.{fails_any, any_fails}
use Rattle.base.specs.Stores.{next_all}
use Rattle.spelling.specs.paper.Words.{Word, within, small, in_name, same, is_name, abd, naf, close, comma, semicolon, dot, neck, arrow, query, true_word, false_word, bare_abd, bare_naf}
use Rattle.spelling.specs.paper.Said.{number_of}
use Rattle.spelling.specs.Cut.{span, begins}
use Rattle.spelling.specs.Cutting.{span_whole, span_all}
use Rattle.spelling.specs.Codes.{fixed_words, true_code, false_code, other_code, first_name, code_of}
use Rattle.spelling.specs.Table.{name_at}
use Rattle.spelling.specs.WordLaws.{same_true}
use Rattle.cutting.specs.CutOff.{longest_word, longest_name, run_code}
use Rattle.cutting.specs.Classes.{name_small}
use Rattle.cutting.specs.Begins.{same_begins, other_length}
use Rattle.cutting.specs.Entries.{Entry}

-- the runs that are no names, whatever their bytes
abbrev pub bare : List Word
bare = bare_abd ∷ bare_naf ∷ true_word ∷ false_word ∷ []

-- w is none of them
abbrev None : Word → List Word → Type 0
None w vs = Every (λ (v : Word). same w v ≡ false) vs

number_none : (vs : List Word) (w : Word) → None w vs → number_of vs w ≡ length vs
number_none [] w h = refl
number_none (v ∷ vs) w h = choose_false _ _ (every_first h) ∙ ap suc (number_none vs w (every_rest h))

-- ---- one byte

module _ (b : ℕ) (out : in_name b ≡ false) where
  pub byte_no_name : is_name (b ∷ []) ≡ false
  unfolding is_name small
  byte_no_name = go (small b) refl
    where
      go : (q : Bool) → small b ≡ q → (q && all in_name (b ∷ []) && leb 1 longest_name && not (any (same (b ∷ [])) bare)) ≡ false
      go true i = clash (name_small b i) out
      go false i = refl

  module _ (t : List ℕ) (a : begins comma (b ∷ t) ≡ false) (c : begins close (b ∷ t) ≡ false) (d : begins dot (b ∷ t) ≡ false)
      (e : begins semicolon (b ∷ t) ≡ false) where
    long : (v : Word) → 1 < length v → same (b ∷ []) v ≡ false
    long v h = other_length (b ∷ []) v (λ i. omega arith)

    one : (x : ℕ) → begins (x ∷ []) (b ∷ t) ≡ false → same (b ∷ []) (x ∷ []) ≡ false
    one x i = sym (same_begins (b ∷ []) (x ∷ []) t refl) ∙ i

    byte_none : None (b ∷ []) fixed_words
    byte_none =
        every_more (long abd (omega arith))
        (every_more (long naf (omega arith))
        (every_more (one _ c)
        (every_more (one _ a)
        (every_more (long neck (omega arith))
        (every_more (one _ e)
        (every_more (one _ d)
        (every_more (long arrow (omega arith))
        (every_more (long query (omega arith))
        (every_more (long true_word (omega arith))
        (every_more (long false_word (omega arith)) (every_none (λ (v : Word). same (b ∷ []) v ≡ false))))))))))))

    pub byte_code : code_of [] (b ∷ []) ≡ other_code
    unfolding code_of
    byte_code = choose_false _ _ byte_no_name ∙ number_none fixed_words (b ∷ []) byte_none

-- ---- a run

-- a run is no word that has another byte
run_other : (w v : Word) → all in_name w ≡ true → all in_name v ≡ false → same w v ≡ false
run_other w v h o = go (same w v) refl
  where
    go : (t : Bool) → same w v ≡ t → t ≡ false
    go true e = clash (subst (λ (u : Word). all in_name u ≡ true) (same_true w v e) h) o
    go false e = refl

run_none : (w : Word) → all in_name w ≡ true → same w true_word ≡ false → same w false_word ≡ false → None w fixed_words
unfolding in_name small
run_none w h t f =
    every_more (run_other w abd h refl)
    (every_more (run_other w naf h refl)
    (every_more (run_other w close h refl)
    (every_more (run_other w comma h refl)
    (every_more (run_other w neck h refl)
    (every_more (run_other w semicolon h refl)
    (every_more (run_other w dot h refl)
    (every_more (run_other w arrow h refl)
    (every_more (run_other w query h refl) (every_more t (every_more f (every_none (λ (v : Word). same w v ≡ false))))))))))))

code_of_run : (b : ℕ) (w : Word) → all in_name (b ∷ w) ≡ true → any (same (b ∷ w)) bare ≡ false → code_of [] (b ∷ w) ≡ run_code b (length (b ∷ w))
unfolding code_of is_name run_code
code_of_run b w h n =
    ap (λ (q : Bool). choose (small b && q && leb (length (b ∷ w)) longest_name && not (any (same (b ∷ w)) bare)) first_name (number_of fixed_words (b ∷ w))) h
    ∙ ap (λ (q : Bool). choose (small b && true && leb (length (b ∷ w)) longest_name && not q) first_name (number_of fixed_words (b ∷ w))) n
    ∙ ap (choose (small b && true && leb (length (b ∷ w)) longest_name && true) first_name) (number_none fixed_words (b ∷ w) (run_none (b ∷ w) h (each (there (there here))) (each (there (there (there here))))))
    ∙ go (small b) (leb (length (b ∷ w)) longest_name)
  where
    each : {v : Word} → v ∈ bare → same (b ∷ w) v ≡ false
    each {v} m = any_fails (same (b ∷ w)) bare n v m

    go : (p q : Bool) → choose (p && true && q && true) first_name other_code ≡ choose (p && q) first_name other_code
    go true true = refl
    go true false = refl
    go false q = refl

-- the first byte of a run is the text's
run_first : (text : List ℕ) (at : ℕ) (w r : List ℕ) → w ++ r ≡ drop at text → at < length text → 0 < length w → (P : List ℕ → Type 0)
    → ((v : List ℕ) → P (get_or text at 0 ∷ v)) → P w
run_first text at [] r e h n P f = absurd (omega arith)
run_first text at (b ∷ w) r e h n P f =
    let whole : b ∷ (w ++ r) ≡ get_or text at 0 ∷ drop (at + 1) text = e ∙ next_all text at h in
    let first : b ≡ get_or text at 0 = cc in
    subst (λ (x : ℕ). P (x ∷ w)) (sym first) (f w)

pub run_coded : (text : List ℕ) (at end : ℕ) → at < end → end ≤ length text → end ≡ at + length (name_at text at) → any (same (name_at text at)) bare ≡ false
    → run_code (get_or text at 0) (end - at) ≡ code_of [] (name_at text at)
run_coded text at end more within long n =
    let size : end - at ≡ length (name_at text at) = omega arith in
    ap (run_code (get_or text at 0)) size
    ∙ sym
    (run_first text at (name_at text at) (span in_name (drop at text)).rest (span_whole in_name (drop at text)) (omega arith) (omega arith)
    (λ (w : Word). all in_name w ≡ true → any (same w) bare ≡ false → code_of [] w ≡ run_code (get_or text at 0) (length w))
    (λ w. code_of_run (get_or text at 0) w) (span_all in_name (drop at text)) n)

-- a run is none of those that it was compared with
pub not_bare : (w : Word) → same w true_word ≡ false → same w false_word ≡ false → same w bare_abd ≡ false → same w bare_naf ≡ false → any (same w) bare ≡ false
not_bare w t f a n =
    fails_any (same w) bare (every_more a (every_more n (every_more t (every_more f (every_none (λ (v : Word). same w v ≡ false))))))

-- or longer than each
pub long_bare : (w : Word) → longest_word < length w → any (same w) bare ≡ false
long_bare w h = not_bare w (longer true_word (omega arith)) (longer false_word (omega arith)) (longer bare_abd (omega arith)) (longer bare_naf (omega arith))
  where
    longer : (v : Word) → length v < length w → same w v ≡ false
    longer v k = other_length w v (λ e. omega arith)

-- a run that is one of them
module _ (w : Word) where
  same_code : (v : Word) → same w v ≡ true → code_of [] v ≡ code_of [] w
  same_code v e = ap (code_of []) (sym (same_true w v e))

  pub true_run : same w true_word ≡ true → true_code ≡ code_of [] w
  unfolding code_of is_name small in_name same
  true_run e = same_code true_word e

  pub false_run : same w false_word ≡ true → false_code ≡ code_of [] w
  unfolding code_of is_name small in_name same
  false_run e = same_code false_word e

  pub abd_run : same w bare_abd ≡ true → other_code ≡ code_of [] w
  unfolding code_of is_name small in_name same
  abd_run e = same_code bare_abd e

  pub naf_run : same w bare_naf ≡ true → other_code ≡ code_of [] w
  unfolding code_of is_name small in_name same
  naf_run e = same_code bare_naf e

-- an entry of a word whose code is the run's, if the run is that word
abbrev pub CodedEntry : Word → Entry → Type 0
CodedEntry w e = same w e.0.now ≡ true → e.1 ≡ code_of [] w

-- ---- a run's code, one test after the other

module _ (b n : ℕ) where
  pub code_long : longest_name < n → run_code b n ≡ other_code
  unfolding run_code
  code_long h = ap (λ (q : Bool). choose (small b && q) first_name other_code) (lt-leb n longest_name h) ∙ go (small b)
    where
      go : (p : Bool) → choose (p && false) first_name other_code ≡ other_code
      go true = refl
      go false = refl

  module _ (h : n ≤ longest_name) where
    pub code_small : within 97 122 b ≡ true → run_code b n ≡ first_name
    unfolding run_code small
    code_small e = ap (λ (q : Bool). choose (q && leb n longest_name) first_name other_code) e ∙ ap (λ (q : Bool). choose q first_name other_code) (le-leb n longest_name h)

    pub code_other : within 97 122 b ≡ false → run_code b n ≡ other_code
    unfolding run_code small
    code_other e = ap (λ (q : Bool). choose (q && leb n longest_name) first_name other_code) e
