-- The words as the code holds them: a number for each fixed word, one for a word that no document has, and above them the names, by their
-- places in a list of names.
-- Assumes nothing.
use Rattle.std.specs.Prelude.{ℕ, ◌+◌, ◌*◌, ◌%◌, List, [], ◌∷◌, map}
use Rattle.base.specs.paper.Bools.{choose}
use Rattle.spelling.specs.paper.Words.{Word, abd, naf, close, comma, semicolon, dot, neck, arrow, query, true_word, false_word, is_name}
use Rattle.spelling.specs.paper.Said.{number_of}

abbrev pub fixed_words : List Word
fixed_words = abd ∷ naf ∷ close ∷ comma ∷ neck ∷ semicolon ∷ dot ∷ arrow ∷ query ∷ true_word ∷ false_word ∷ []

-- the number of each, which is its place in that list
abbrev pub abd_code : ℕ
abd_code = 0

abbrev pub naf_code : ℕ
naf_code = 1

abbrev pub close_code : ℕ
close_code = 2

abbrev pub comma_code : ℕ
comma_code = 3

abbrev pub neck_code : ℕ
neck_code = 4

abbrev pub semicolon_code : ℕ
semicolon_code = 5

abbrev pub dot_code : ℕ
dot_code = 6

abbrev pub arrow_code : ℕ
arrow_code = 7

abbrev pub query_code : ℕ
query_code = 8

abbrev pub true_code : ℕ
true_code = 9

abbrev pub false_code : ℕ
false_code = 10

-- a word that no document has
abbrev pub other_code : ℕ
other_code = 11

abbrev pub first_name : ℕ
first_name = 12

-- a name has the number of its place in the list; with no names it is `first_name`
unfoldable pub code_of : List Word → Word → ℕ
code_of names w = choose (is_name w) (first_name + number_of names w) (number_of fixed_words w)

abbrev pub codes_of : List Word → List Word → List ℕ
codes_of names ws = map (code_of names) ws

-- ---- the name table's buckets

abbrev pub buckets : ℕ
buckets = 4096

-- a hash is kept below this on the way
abbrev pub hash_values : ℕ
hash_values = 4294967296

unfoldable pub hash_from : ℕ → Word → ℕ
hash_from h [] = h
hash_from h (b ∷ w) = hash_from ((9 * h + b) % hash_values) w

-- the bucket of a word
unfoldable pub hash_of : Word → ℕ
hash_of w = hash_from 0 w % buckets
