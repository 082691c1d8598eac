-- Texts and what is answered to them, by the definitions: those that paper 02, A1.5 to A1.10 names, and others.
-- Assumes nothing.
use Rattle.std.specs.Prelude.{ℕ, ◌≡◌, refl, List, [], ◌∷◌, ◌++◌, map}
use Prim.Native.String.{String}
use Rattle.base.specs.paper.Lists.{flat, below}
use Rattle.image.specs.paper.Walk.{field_at, field, running}
use Rattle.image.specs.paper.Faults.{wrong_atoms, wrong_abducibles, wrong_count, wrong_lit, wrong_head, wrong_size, wrong_clause, wrong_conditions, wrong_alternative}
use Rattle.image.specs.paper.Loops.{pending, quiet, loop_free}
use Rattle.image.specs.paper.Decode.{literal, clause, alternative, alternatives, inside, constraint, counted, clauses_and_constraints, book, ends, whole, length_field, wrong_front, in_order, decode}
use Rattle.image.specs.paper.Spell.{words, two, encode}
use Rattle.spelling.specs.paper.Words.{ascii, blank, small, in_name, same, is_name}
use Rattle.spelling.specs.Cut.{span, begins, sign, opened, cut_at, words_by, words_in}
use Rattle.spelling.specs.Reader.{next, name, atom, literal as lit, separated, from_head, from_side, statement, goal_line, document, parse}
use Rattle.spelling.proofs.Answers.{ending}
use Rattle.spelling.specs.paper.Said.{firsts}
use Rattle.image.specs.paper.Writing.{Writing, Written, Refused, bytes, number, answer_of}
use Rattle.spelling.specs.paper.Answer.{image_of, name_lines}

abbrev spike : String
spike = "spike :- abd(fish).\nspike :- abd(rock).\nspike :- abd(bubbles).\nabd(bubbles) ---> wake.\n?- spike.\n"

-- the first of the known depths of paper 01, 10: fish 0, rock 1, bubbles 2, spike 3, wake 4
abbrev spike_image : List ℕ
spike_image =
    1 ∷ two 0 ++ two 40
    ++ flat two (5 ∷ 3 ∷ 1 ∷ 6 ∷ 3 ∷ 4 ∷ 3 ∷ 0 ∷ 4 ∷ 3 ∷ 2 ∷ 4 ∷ 3 ∷ 4 ∷ 1 ∷ 8 ∷ 1 ∷ 4 ∷ 1 ∷ 8 ∷ [])

-- clauses and constraints mixed, negations in each place; cover 0, wet 1, rain 2, dry 3
abbrev mixed : String
mixed = "wet :- rain, naf(abd(cover)).\ntrue ---> naf(wet), abd(cover) ; dry.\ndry.\nnaf(dry), wet ---> false.\n?- wet, naf(abd(cover))."

abbrev mixed_image : List ℕ
mixed_image =
    1 ∷ two 0 ++ two 48
    ++ flat two (4 ∷ 1 ∷ 2 ∷ 2 ∷ 1 ∷ 2 ∷ 6 ∷ 1 ∷ 4 ∷ 1 ∷ 2 ∷ 3 ∷ 2 ∷ 12 ∷ 0 ∷ 2 ∷ 3 ∷ 0 ∷ 1 ∷ 6 ∷ 6 ∷ 2 ∷ 7 ∷ 2 ∷ [])

abbrev long : String
long = "spike0 :- abd(fish0), naf(rock0).\nspike1 :- abd(fish1), naf(rock1).\nspike2 :- abd(fish2), naf(rock2).\nspike3 :- abd(fish3), naf(rock3).\nspike4 :- abd(fish4), naf(rock4).\nspike5 :- abd(fish5), naf(rock5).\nspike6 :- abd(fish6), naf(rock6).\nspike7 :- abd(fish7), naf(rock7).\ntrue ---> spike1, spike2 ; naf(abd(fish3)).\n?- spike0 , spike1.\n"

-- a text and the number of bytes written or of the refusal, in a room of 100 bytes
record Row : Type 0 where
  text : String
  answer : Writing

abbrev refused : String → ℕ → Row
refused t n = record { text = t; answer = Refused n }

abbrev written : String → ℕ → Row
written t n = record { text = t; answer = Written n }

abbrev rows : List Row
rows =
    refused "?- x" 50  -- no full stop
    ∷ refused "x." 50  -- no goal line
    ∷ refused "" 50  -- nothing at all
    ∷ refused "?- x. ?- y." 50  -- two goal lines
    ∷ refused "?- x. y." 50  -- something behind it
    ∷ refused "?- ." 50
    ∷ refused "h :- . ?- h." 50
    ∷ refused " ---> d. ?- d." 50
    ∷ refused "c ---> . ?- c." 50
    ∷ refused "h :- true. ?- h." 50
    ∷ refused "true, x ---> y. ?- y." 50
    ∷ refused "x ---> false ; y. ?- x." 50
    ∷ refused "x ---> y ; . ?- x." 50
    ∷ refused "?- naf(true)." 50
    ∷ refused "abd (x) ---> y. ?- y." 50  -- abd( is one word
    ∷ refused "?- naf(naf(x))." 50
    ∷ refused "?- abd(abd(x))." 50
    ∷ refused "?- abd(naf(x))." 50
    ∷ refused "naf(x) :- y. ?- y." 50
    ∷ refused "x, y :- z. ?- x." 50
    ∷ refused "?- abd." 50
    ∷ refused "?- naf." 50
    ∷ refused "?- foo(a)." 50
    ∷ refused "?- true(a)." 50
    ∷ refused "c ----> d. ?- c." 50
    ∷ refused "c --> d. ?- c." 50
    ∷ refused "c -- -> d. ?- c." 50
    ∷ refused "h : - b. ?- h." 50
    ∷ refused "? - b." 50
    ∷ refused "?- Ab." 50
    ∷ refused "?- _a." 50
    ∷ refused "?- 9a." 50
    ∷ refused "?- a-b." 50
    ∷ refused "?- abcdefghijabcdefghijabcdefghijab." 50  -- 32 bytes
    ∷ refused "?-\u{b}a." 50  -- a vertical tab
    ∷ refused "?- a\0." 50
    ∷ refused "?- ä." 50
    ∷ refused "x :- abd(x). ?- x." 51
    ∷ refused "abd(x) :- y. ?- x." 51  -- before 7
    ∷ refused "?- true." 5
    ∷ refused "abd(x) :- y. ?- y." 7
    ∷ refused "x :- y. y :- x. ?- y." 9
    ∷ written "truely :- abd_ , nafx. ?- truely." 25  -- a word is taken as long as it goes
    ∷ written "?- abcdefghijabcdefghijabcdefghija." 17  -- 31 bytes
    ∷ written "\t\r\n abd(\nx\t) --->y;naf( abd( x ) ) , y.?-y." 33  -- blanks round words, or none
    ∷ written "true--->false.?-a." 21
    ∷ written long 97
    ∷ []

tried : (ending image_of (ascii spike) 45 ≡ bytes spike_image) × (ending image_of (ascii spike) 44 ≡ number 52)
    × (ending image_of (ascii mixed) 53 ≡ bytes mixed_image)
    × (ending name_lines (ascii spike) 29 ≡ bytes (ascii "fish\nrock\nbubbles\nspike\nwake\n")) × (ending name_lines (ascii spike) 28 ≡ number 52)
    × (map (λ (r : Row). answer_of (ending image_of (ascii r.text) 100)) rows ≡ map (λ (r : Row). r.answer) rows)
unfolding field_at field running wrong_atoms wrong_abducibles wrong_count wrong_lit wrong_head wrong_size wrong_clause wrong_conditions wrong_alternative pending below quiet loop_free literal clause alternative alternatives inside constraint counted clauses_and_constraints book ends whole length_field wrong_front in_order decode words encode blank small in_name same is_name span begins sign opened cut_at words_by words_in next name atom lit separated from_head from_side statement goal_line document parse firsts ending
tried = (refl, refl, refl, refl, refl, refl)
