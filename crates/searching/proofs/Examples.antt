-- The known depths of paper 01, 10, P1 to P11: from image bytes to answer, node number and sets, by the definitions.
-- Assumes nothing.
use Rattle.std.specs.Prelude.{ℕ, zero, suc, ◌/◌, ◌%◌, ◌≡◌, refl, true, List, [], ◌∷◌, map}
use Rattle.std.specs.Int.Count.{ones}
use Rattle.base.specs.paper.Least.{insert}
use Rattle.base.specs.paper.Order.{place, sort}
use Rattle.image.specs.paper.Book.{Lit, Clause, Book}
use Rattle.image.specs.paper.Walk.{field_at, field, running}
use Rattle.image.specs.paper.Faults.{wrong_atoms, wrong_abducibles, wrong_count, wrong_lit, wrong_head, wrong_size, wrong_clause, wrong_conditions, wrong_alternative}
use Rattle.image.specs.paper.Loops.{pending, quiet, loop_free}
use Rattle.base.specs.paper.Lists.{below}
use Rattle.image.specs.paper.Decode.{literal, clause, alternative, alternatives, inside, constraint, counted, clauses_and_constraints, book, ends, whole, length_field, wrong_front, Decoded, accepted, refused, in_order, decode}
use Rattle.image.proofs.Accepted.{orderly}
use Rattle.meaning.specs.paper.Meaning.{clauses_for}
use Rattle.searching.specs.paper.Rules.{Outcome, finished, used_up, no_room, on, results, after, gather, noting, run, search_end}
use Rattle.searching.specs.paper.Explanations.{Explanations}
use Rattle.searching.proofs.Main.{listed}

-- the bytes of a numeral, the highest first; the first byte of an image is 1, so none is lost
unfoldable pub bytes_in : ℕ → ℕ → List ℕ → List ℕ
bytes_in zero n behind = behind
bytes_in (suc k) zero behind = behind
bytes_in (suc k) (suc n) behind = bytes_in k (suc n / 256) (suc n % 256 ∷ behind)

abbrev pub bytes : ℕ → List ℕ
bytes n = bytes_in 64 n []

-- a refused image's number, or how the search of its book ends
pub data Sounded : Type 0 where
  not_read : ℕ → Sounded
  searched : Outcome → Sounded

unfoldable pub sounded_from : Decoded → ℕ → ℕ → Sounded
sounded_from (refused n at) budget room = not_read n
sounded_from (accepted b) budget room = searched (search_end b room budget)

pub record Sounding : Type 0 where
  pub image : ℕ
  pub budget : ℕ
  pub room : ℕ
  pub depth : Outcome

abbrev pub sounding : ℕ → ℕ → ℕ → Outcome → Sounding
sounding image budget room o = record { image = image; budget = budget; room = room; depth = o }

-- P1: fish 0, rock 1, bubbles 2, spike 3, wake 4; the spike comes from each of the first three; with bubbles there is a wake, and there
-- is none
abbrev pub spike : ℕ
spike = 0x01_00000028_0005_0003_0001_0006_0003_0004_0003_0000_0004_0003_0002_0004_0003_0004_0001_0008_0001_0004_0001_0008

-- P5: example 5 of paper 003, 6: rain 0, sprinkler 1, cloudy 2, wet grass 3
abbrev grass : ℕ
grass = 0x01_00000028_0004_0003_0001_0006_0002_0004_0003_0000_0004_0003_0002_0002_0008_0001_0000_0001_0004_0004_0001_0004

-- P6: example 6 of paper 003, 6: a 0, b 1, p 2, q 3, r 4
abbrev negations : ℕ
negations = 0x01_00000024_0005_0002_0001_0004_0004_0004_0002_0007_0004_0003_0009_0004_0004_0000_0004_0004_0002_0000

-- P7: an empty goal, nothing else
abbrev nothing : ℕ
nothing = 0x01_0000000a_0001_0000_0000_0000_0000

-- P8: x←a,b; x←a; goal x. Here and below a is 0, b is 1, and x or p is 2
abbrev wider : ℕ
wider = 0x01_0000001a_0003_0002_0001_0004_0002_0006_0002_0000_0002_0004_0002_0000_0000

-- P9: x←a,b; x←¬a,¬b; goal x
abbrev both_ways : ℕ
both_ways = 0x01_0000001c_0003_0002_0001_0004_0002_0006_0002_0000_0002_0006_0002_0001_0003_0000

-- P10: p←a; K p→nothing; K →a; empty goal
abbrev deadlock : ℕ
deadlock = 0x01_0000001e_0003_0002_0000_0001_0004_0002_0000_0002_0004_0001_0004_0006_0000_0001_0000

-- P11: campus←¬ski; ski←saturday,¬snow; goal campus: saturday 0, snow 1, campus 2, ski 3
abbrev campus : ℕ
campus = 0x01_0000001a_0004_0002_0001_0004_0002_0004_0002_0007_0006_0003_0000_0003_0000

-- The table: image, budget, room; then the sets and the node number, or 30 or 31 with the node number.
abbrev pub soundings : List Sounding
soundings =
    sounding spike 15 256 (finished (1 ∷ 2 ∷ []) 15)  -- P1
    ∷ sounding spike 14 256 (used_up 14)  -- P2
    ∷ sounding spike 10 1 (no_room 10)  -- P3
    ∷ sounding spike 9 1 (used_up 9)  -- P4
    ∷ sounding grass 100_000 256 (finished (2 ∷ []) 16)  -- P5
    ∷ sounding negations 100_000 256 (finished (1 ∷ 2 ∷ []) 8)  -- P6
    ∷ sounding nothing 100_000 256 (finished (0 ∷ []) 1)  -- P7
    ∷ sounding nothing 0 256 (used_up 0)
    ∷ sounding wider 100_000 1 (finished (1 ∷ []) 6)  -- P8
    ∷ sounding both_ways 100_000 256 (finished (0 ∷ []) 7)  -- P9
    ∷ sounding deadlock 100_000 256 (finished [] 6)  -- P10
    ∷ sounding campus 100_000 256 (finished (0 ∷ []) 7)  -- P11
    ∷ []

-- Each image is read, and its search ends as the table says.
pub known_depths : map (λ (r : Sounding). sounded_from (decode (bytes r.image)) r.budget r.room) soundings
    ≡ map (λ (r : Sounding). searched r.depth) soundings
unfolding bytes_in sounded_from field_at field running wrong_atoms wrong_abducibles wrong_count wrong_lit wrong_head wrong_size wrong_clause wrong_conditions wrong_alternative pending below quiet loop_free literal clause alternative alternatives inside constraint counted clauses_and_constraints book ends whole length_field wrong_front in_order decode clauses_for on results after noting run insert place sort ones gather
known_depths = refl

-- the book of P1
abbrev pub spike_book : Book
spike_book =
    record {
      atoms = 5;
      abducibles = 3;
      goal = yea 3 ∷ [];
      clauses = from 3 (yea 0) ∷ from 3 (yea 1) ∷ from 3 (yea 2) ∷ [];
      constraints = record { conditions = yea 2 ∷ []; alternatives = (yea 4 ∷ []) ∷ [] } ∷ [];
    }
  where
    yea : ℕ → Lit
    yea p = record { atom = p; sign = true }

    from : ℕ → Lit → Clause
    from p l = record { head = p; body = l ∷ [] }

-- P1 by the meaning alone: {fish} and {rock} are the smallest explanations of its book, and there is no other.
pub spike_explained : Explanations spike_book (1 ∷ 2 ∷ [])
unfolding bytes_in field_at field running wrong_atoms wrong_abducibles wrong_count wrong_lit wrong_head wrong_size wrong_clause wrong_conditions wrong_alternative pending below quiet loop_free literal clause alternative alternatives inside constraint counted clauses_and_constraints book ends whole length_field wrong_front in_order decode clauses_for on results after noting run insert place sort ones gather
spike_explained = (listed spike_book (orderly (bytes spike) spike_book read) 256 15 (1 ∷ 2 ∷ []) 15 p1).0
  where
    read : decode (bytes spike) ≡ accepted spike_book
    read = refl

    p1 : search_end spike_book 256 15 ≡ finished (1 ∷ 2 ∷ []) 15
    p1 = refl
