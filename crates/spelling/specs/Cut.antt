-- The words of a text, cut off one after the other: what the reader walks over. Every text has words; a byte of no sign is one by itself,
-- which no document has.
-- Assumes nothing.
use Rattle.std.specs.Prelude.{ℕ, zero, suc, Bool, true, false, ◌&&◌, ◌||◌, List, [], ◌∷◌, ◌++◌, length, eqb}
use Rattle.base.specs.paper.Bools.{choose}
use Rattle.spelling.specs.paper.Words.{Word, ascii, blank, in_name, same, neck, arrow, query, bare_abd, bare_naf}

pub record Cut : Type 0 where
  pub front : List ℕ
  pub rest : List ℕ

abbrev pub cutting : List ℕ → List ℕ → Cut
cutting front rest = record { front = front; rest = rest }

abbrev pub behind : ℕ → Cut → Cut
behind b c = cutting (b ∷ c.front) c.rest

-- as far as the test goes
unfoldable pub span : (ℕ → Bool) → List ℕ → Cut
span test [] = cutting [] []
span test (b ∷ t) =
    let more = behind b (span test t) in
    choose (test b) more (cutting [] (b ∷ t))

-- does the text begin with the word?
unfoldable pub begins : Word → List ℕ → Bool
begins [] t = true
begins (a ∷ w) [] = false
begins (a ∷ w) (b ∷ t) = eqb a b && begins w t

abbrev pub beyond : Word → List ℕ → List ℕ
beyond [] t = t
beyond (a ∷ w) [] = []
beyond (a ∷ w) (b ∷ t) = beyond w t

-- the first of the signs that the text begins with, else one byte
unfoldable pub sign : List Word → List ℕ → Cut
sign [] [] = cutting [] []
sign [] (b ∷ t) = cutting (b ∷ []) t
sign (w ∷ ws) t = choose (begins w t) (cutting w (beyond w t)) (sign ws t)

-- the byte that makes one word of `abd` and `naf`
abbrev pub bracket : Word
bracket = ascii "("

-- "`abd(` and `naf(` are one word each" (paper 02, A1.5)
unfoldable pub opened : Word → List ℕ → Cut
opened w t =
    choose (begins bracket t && (same w bare_abd || same w bare_naf)) (cutting (w ++ bracket) (beyond bracket t))
    (cutting w t)

-- the word at the front, taken as long as it goes: a run of letters, digits and underscores; or a sign; or a byte of no sign
unfoldable pub cut_at : Word → List ℕ → Cut
cut_at [] t = sign (neck ∷ arrow ∷ query ∷ []) t
cut_at (b ∷ w) t = opened (b ∷ w) t

abbrev pub cut : List ℕ → Cut
cut t = cut_at (span in_name t).front (span in_name t).rest

-- a word, then the others
unfoldable pub words_by : (List ℕ → List Word) → List ℕ → List Word
words_by others [] = []
words_by others (b ∷ t) = (cut (b ∷ t)).front ∷ others (cut (b ∷ t)).rest

-- blanks before each; n is at least the number of bytes
unfoldable pub words_in : ℕ → List ℕ → List Word
words_in zero t = []
words_in (suc n) t = words_by (words_in n) (span blank t).rest

abbrev pub words : List ℕ → List Word
words t = words_in (length t) t
