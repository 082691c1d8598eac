-- What is made of a text before anything is written into the room: a refusal's number, or the image and the names of an accepted document.
-- Assumes nothing.
use Rattle.std.specs.Prelude.{ℕ, ◌≤◌, ◌<◌, ◌≡◌, refl, Bool, true, false, Some, None, Result, MatchResult, List, [], length, take, leb}
use Rattle.std.proofs.Common.{arith, sym, ap, ap₂, ◌∙◌, subst, leb-true, leb-false}
use Rattle.base.specs.paper.Bools.{choose}
use Rattle.base.specs.paper.Lists.{flat}
use Rattle.image.specs.paper.Decode.{Decoded, accepted, refused, decode}
use Rattle.image.specs.paper.Writing.{Writing, bytes, number, answer_of, room_of}
use Rattle.image.specs.paper.Refusals.{number_of}
use Rattle.image.specs.declared.refusals.Refusal.{Refusal}
use Rattle.book.specs.paper.Reading.{Accepted, Refused, reading_of, Reads}
use Rattle.spelling.specs.paper.Document.{Document, of_statement}
use Rattle.spelling.specs.paper.Said.{mentions, book_of}
use Rattle.spelling.specs.paper.Answer.{longest_text, Says, image_of, Clear, Ends, malformed, clashes as clashed, turned, short, whole, Writes}
use Rattle.spelling.specs.Cut.{words}
use Rattle.spelling.specs.Reader.{Parsed, reads, unreadable, parse}
use Rattle.spelling.proofs.Found.{parse_spelt}
use Rattle.spelling.proofs.Mentioned.{scan, scan_words}
use Rattle.spelling.proofs.Only.{Outcome, back, limit, head, loop, text_only}
use Rattle.spelling.specs.Table.{table_of, clashes, Entries}
use Rattle.spelling.proofs.TableLaws.{clashes_clashing}
use Rattle.naming.specs.declared.Table.{Table}
use Rattle.grammar.specs.Places.{place_of}
use Rattle.writer.specs.Writable.{image_room}
use Rattle.text.specs.Delivered.{delivery}

-- the lengths of what is lent
abbrev pub Lent : List ℕ → List ℕ → Type 0
Lent entries image = (image_room ≤ length image) × (length entries ≡ longest_text)

-- an accepted document: its image at the front, and the table of its names
pub record Found (text entries image : List ℕ) (size names : ℕ) : Type 0 where
  pub d : Document
  pub clear : Clear text d
  pub good : decode (image_of d) ≡ accepted (book_of d)
  pub within : size ≤ image_room
  pub front : take size image ≡ image_of d
  pub table : Entries text entries (table_of (mentions d))
  pub few : names ≤ longest_text
  pub many : names ≡ length (table_of (mentions d))

-- however the text ends
abbrev pub Refuses : List ℕ → ℕ → Type 0
Refuses text n = (what : Document → List ℕ) (room : ℕ) → Ends what text room (number n)

pub record Made (text : List ℕ) (table : Table) (image : List ℕ) (r : Result ℕ Refusal) : Type 0 where
  pub lent : Lent table.entries image
  pub answer : MatchResult r (λ size. Found text table.entries image size table.names) (λ refusal. Refuses text (number_of refusal))

-- ---- 50

module _ (what : Document → List ℕ) (text : List ℕ) (room : ℕ) where
  pub too_long : longest_text < length text → Ends what text room (number 50)
  too_long h = malformed (λ d s. let k : length text ≤ longest_text = s.0 in absurd (omega arith))

  pub not_placed : place_of (parse text) ≡ None → Ends what text room (number 50)
  not_placed e = malformed (λ d s. let z : place_of (reads d) ≡ None = ap place_of (sym ((parse_spelt text d).1 s.1)) ∙ e in cc)

-- the document that was found, and the place of its goal line
pub placed : (text : List ℕ) (goal : ℕ) → length text ≤ longest_text → Some goal ≡ place_of (parse text)
    → (d : Document) × Says text d × (goal ≡ length (flat of_statement d.statements)) × (scan false (words text) ≡ mentions d)
placed text goal brief h = go (parse text) refl h
  where
    go : (p : Parsed) → parse text ≡ p → Some goal ≡ place_of p
        → (d : Document) × Says text d × (goal ≡ length (flat of_statement d.statements)) × (scan false (words text) ≡ mentions d)
    go unreadable e q = cc
    go (reads d) e q = (d, (brief, (parse_spelt text d).0 e), cc, scan_words text d e)

-- ---- 51

module _ (text : List ℕ) (d : Document) (s : Says text d) (m : scan false (words text) ≡ mentions d) where
  pub clash_ends : (what : Document → List ℕ) (room : ℕ) → clashes [] (scan false (words text)) ≡ true → Ends what text room (number 51)
  clash_ends what room e = clashed d s (sym (clashes_clashing d) ∙ ap (clashes []) (sym m) ∙ e)

  pub no_clash : clashes [] (scan false (words text)) ≡ false → Clear text d
  no_clash e = record { says = s; clear = sym (clashes_clashing d) ∙ ap (clashes []) (sym m) ∙ e }

-- ---- 5, 7, 9, or an image that is accepted

module _ (text : List ℕ) (d : Document) (c : Clear text d) where
  pub turned_ends : (what : Document → List ℕ) (room n at : ℕ) → Reads (image_of d) (Refused n at) → Ends what text room (number n)
  turned_ends what room n at r = go (decode (image_of d)) refl r.answer
    where
      go : (x : Decoded) → decode (image_of d) ≡ x → Refused n at ≡ reading_of x → Ends what text room (number n)
      go (accepted b) e q = let z : ◌≡◌ {A = ℕ} 0 1 = cc in absurd (omega arith)
      go (refused m p) e q =
          let number : m ≡ n = cc in
          let place : p ≡ at = cc in
          turned d n at c (e ∙ ap₂ refused number place)

  pub accepted_good : Reads (image_of d) Accepted → decode (image_of d) ≡ accepted (book_of d)
  accepted_good r = go (decode (image_of d)) r.answer (text_only text d c.says)
    where
      go : (x : Decoded) → Accepted ≡ reading_of x → Outcome (book_of d) x → x ≡ accepted (book_of d)
      go x q back = refl
      go x q (limit h) = let y : ◌≡◌ {A = ℕ} 0 1 = cc in absurd (omega arith)
      go x q (head h) = let y : ◌≡◌ {A = ℕ} 0 1 = cc in absurd (omega arith)
      go x q (loop h) = let y : ◌≡◌ {A = ℕ} 0 1 = cc in absurd (omega arith)

  pub refused_some : (n at : ℕ) → Reads (image_of d) (Refused n at) → n ≡ 0 → ⊥
  refused_some n at r = go (decode (image_of d)) r.answer (text_only text d c.says)
    where
      go : (x : Decoded) → Refused n at ≡ reading_of x → Outcome (book_of d) x → n ≡ 0 → ⊥
      go x q back z = let y : ◌≡◌ {A = ℕ} 0 1 = cc in absurd (omega arith)
      go x q (limit h) z = let y : n ≡ 5 = cc in absurd (omega arith)
      go x q (head h) z = let y : n ≡ 7 = cc in absurd (omega arith)
      go x q (loop h) z = let y : n ≡ 9 = cc in absurd (omega arith)

-- ---- the call's promise

module _ (what : Document → List ℕ) (text room : List ℕ) where
  pub writes_refusal : (n : ℕ) → Ends what text (length room) (number n) → Writes what text room (answer_of (number n)) room
  writes_refusal n e = record { ending = number n; ends = e; answer = refl; left = refl }

  pub writes_delivered : (d : Document) → Clear text d → decode (image_of d) ≡ accepted (book_of d) → (s : List ℕ) → s ≡ what d → (r : Writing) (after : List ℕ)
      → r ≡ answer_of (delivery (length room) s) → after ≡ room_of (delivery (length room) s) room → Writes what text room r after
  writes_delivered d c g s e r after a l =
      record {
        ending = delivery (length room) s;
        ends = subst (λ (t : List ℕ). Ends what text (length room) (delivery (length room) t)) (sym e) (go (leb (length (what d)) (length room)) refl);
        answer = a;
        left = l;
      }
    where
      go : (q : Bool) → leb (length (what d)) (length room) ≡ q → Ends what text (length room) (choose q (bytes (what d)) (number 52))
      go true q = whole d c g (leb-true (length (what d)) (length room) q)
      go false q = short d c g (leb-false (length (what d)) (length room) q)
