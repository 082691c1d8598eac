-- Paper 02, A1.1 and A1.2: the words of a text, each a byte string, and the blanks. The fixed words stand here, once.
-- Assumes nothing.
use Rattle.std.specs.Prelude.{ℕ, Bool, true, false, ◌&&◌, ◌||◌, not, List, [], ◌∷◌, length, leb, eqb}
use Prim.Native.Char.{code}
use Prim.Native.String.{String, [] as ended, ◌∷◌ as ◌then◌}
use Rattle.base.specs.paper.Lists.{all, any}

abbrev pub Word : Type 0
Word = List ℕ

-- bytes written as text
abbrev pub ascii : String → List ℕ
ascii ended = []
ascii (c then s) = code c ∷ ascii s

-- "Blanks are the four bytes space, tab, LF and CR."
abbrev pub blanks : List ℕ
blanks = ascii " \t\n\r"

unfoldable pub blank : ℕ → Bool
blank b = any (eqb b) blanks

-- the fixed words
abbrev pub abd : Word
abd = ascii "abd("

abbrev pub naf : Word
naf = ascii "naf("

abbrev pub close : Word
close = ascii ")"

abbrev pub comma : Word
comma = ascii ","

abbrev pub semicolon : Word
semicolon = ascii ";"

abbrev pub dot : Word
dot = ascii "."

abbrev pub neck : Word
neck = ascii ":-"

abbrev pub arrow : Word
arrow = ascii "--->"

abbrev pub query : Word
query = ascii "?-"

abbrev pub true_word : Word
true_word = ascii "true"

abbrev pub false_word : Word
false_word = ascii "false"

-- abd and naf without their sign, which are no names
abbrev pub bare_abd : Word
bare_abd = ascii "abd"

abbrev pub bare_naf : Word
bare_naf = ascii "naf"

-- the test that two words are the same
unfoldable pub same : Word → Word → Bool
same [] [] = true
same [] (b ∷ w) = false
same (a ∷ v) [] = false
same (a ∷ v) (b ∷ w) = eqb a b && same v w

abbrev pub within : ℕ → ℕ → ℕ → Bool
within least most b = leb least b && leb b most

-- a-z
unfoldable pub small : ℕ → Bool
small b = within 97 122 b

-- A-Z a-z 0-9 _
unfoldable pub in_name : ℕ → Bool
in_name b = small b || within 65 90 b || within 48 57 b || eqb b 95

abbrev pub starts_small : Word → Bool
starts_small [] = false
starts_small (b ∷ w) = small b

-- "a small letter, then at most 30 of A-Z a-z 0-9 _ ; none of abd, naf, true, false"
unfoldable pub is_name : Word → Bool
is_name w = starts_small w && all in_name w && leb (length w) 31 && not (any (same w) (bare_abd ∷ bare_naf ∷ true_word ∷ false_word ∷ []))
