-- What is found at a place of a text: where the blanks end, and the word that is cut off there.
-- Assumes nothing.
use Rattle.std.specs.Prelude.{ℕ, ◌+◌, ◌<◌, ◌≤◌, ◌≡◌, true, ◌&&◌, List, [], length, drop, leb}
use Rattle.base.specs.paper.Bools.{choose}
use Rattle.spelling.specs.paper.Words.{Word, blank, small, in_name, is_name}
use Rattle.spelling.specs.Cut.{span, cut}
use Rattle.spelling.specs.Codes.{code_of, other_code, first_name, buckets, hash_of}
use Rattle.spelling.specs.Table.{name_at}

-- the word at a place
abbrev pub word_at : List ℕ → ℕ → Word
word_at text at = (cut (drop at text)).front

-- how many bytes the longest fixed word has
abbrev pub longest_word : ℕ
longest_word = 5

-- and how many a name may have
abbrev pub longest_name : ℕ
longest_name = 31

pub record BlanksEnd (text : List ℕ) (at r : ℕ) : Type 0 where
  pub ahead : at ≤ r
  pub within : r ≤ length text
  pub rest : (span blank (drop at text)).rest ≡ drop r text

pub record CutOff (text : List ℕ) (at found end hash : ℕ) : Type 0 where
  pub code : found ≡ code_of [] (word_at text at)
  pub ahead : at < end
  pub within : end ≤ length text
  pub long : end ≡ at + length (word_at text at)
  pub rest : (cut (drop at text)).rest ≡ drop end text
  pub hashed : is_name (word_at text at) ≡ true → hash ≡ hash_of (word_at text at)
  pub bucket : hash < buckets
  pub named : is_name (word_at text at) ≡ true → (span in_name (drop at text)).front ≡ word_at text at

-- the run of letters, digits and underscores at a place, where it ends, and its hash
pub record RunAt (text : List ℕ) (at end hash : ℕ) : Type 0 where
  pub long : end ≡ at + length (name_at text at)
  pub within : end ≤ length text
  pub rest : (span in_name (drop at text)).rest ≡ drop end text
  pub hashed : hash ≡ hash_of (name_at text at)
  pub bucket : hash < buckets

-- the cut of a fixed word: its code, and as many bytes as it has
pub record Fixed (code at size found end hash : ℕ) : Type 0 where
  pub its_code : found ≡ code
  pub its_end : end ≡ at + size
  pub no_hash : hash ≡ 0

-- the code of a run that is no fixed word, by its first byte and its length
unfoldable pub run_code : ℕ → ℕ → ℕ
run_code b n = choose (small b && leb n longest_name) first_name other_code
