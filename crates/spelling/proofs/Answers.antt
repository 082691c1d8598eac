-- The ending computed by the reader. It is one that paper/Answer allows, and the only one; so the promise can be kept, and fixes the answer
-- and every byte of the room.
-- Assumes nothing.
use Rattle.std.specs.Prelude.{ℕ, ◌≤◌, ◌<◌, ◌≡◌, Bool, List, Result}
use Rattle.std.proofs.Common.{arith, sym, ◌∙◌, subst}
use Rattle.std.proofs.Math.Path.{refl, ap}
use Rattle.std.proofs.Math.Bool.{true, false}
use Rattle.std.proofs.Math.ListN.{length}
use Rattle.std.proofs.Math.Dec.{leb}
use borrow.Author.Tests.{leb-true, leb-false, le-leb, lt-leb}
use Rattle.base.specs.paper.Bools.{choose}
use Rattle.base.specs.Bools.{choose_true, choose_false}
use Rattle.image.specs.paper.Decode.{Decoded, accepted, refused, decode}
use Rattle.spelling.specs.paper.Document.{Document}
use Rattle.spelling.specs.paper.Said.{clashing, book_of}
use Rattle.spelling.specs.paper.Answer.{longest_text, Says, image_of, Clear, Ends, malformed, clashes, turned, short, whole, Writes}
use Rattle.image.specs.WritingLaws.{writing_tells}
use Rattle.image.specs.declared.refusals.Refusal.{Refusal}
use Rattle.image.specs.paper.Writing.{Writing, writing, Ending, bytes, number, answer_of, room_of}
use Rattle.spelling.specs.Reader.{Parsed, reads, unreadable, parse}
use Rattle.spelling.proofs.Found.{parse_spelt}
use Rattle.spelling.proofs.Only.{Outcome, back, limit, head, loop, text_only}

-- what is written, where the image is accepted and the room long enough
abbrev pub in_room : ℕ → List ℕ → Decoded → Ending
in_room room s (refused n at) = number n
in_room room s (accepted b) = choose (leb (length s) room) (bytes s) (number 52)

module _ (what : Document → List ℕ) where
  abbrev pub ending_of : ℕ → Document → Ending
  ending_of room d = choose (clashing d) (number 51) (in_room room (what d) (decode (image_of d)))

  abbrev pub ending_by : ℕ → Parsed → Ending
  ending_by room unreadable = number 50
  ending_by room (reads d) = ending_of room d

  unfoldable pub ending : List ℕ → ℕ → Ending
  ending text room = choose (leb (length text) longest_text) (ending_by room (parse text)) (number 50)

-- ---- the computed ending is one that is asked for

module _ (what : Document → List ℕ) (text : List ℕ) (room : ℕ) where
  fits : (d : Document) → Clear text d → decode (image_of d) ≡ accepted (book_of d) → (q : Bool) → leb (length (what d)) room ≡ q
      → Ends what text room (choose q (bytes (what d)) (number 52))
  fits d c e true q = whole d c e (leb-true (length (what d)) room q)
  fits d c e false q = short d c e (leb-false (length (what d)) room q)

  decoded : (d : Document) → Clear text d → (x : Decoded) → decode (image_of d) ≡ x → Outcome (book_of d) x → Ends what text room (in_room room (what d) x)
  decoded d c x e back = fits d c e (leb (length (what d)) room) refl
  decoded d c x e (limit h) = turned d 5 _ c e
  decoded d c x e (head h) = turned d 7 _ c e
  decoded d c x e (loop h) = turned d 9 _ c e

  told : (d : Document) → Says text d → (q : Bool) → clashing d ≡ q → Ends what text room (choose q (number 51) (in_room room (what d) (decode (image_of d))))
  told d s true q = clashes d s q
  told d s false q = decoded d (record { says = s; clear = q }) (decode (image_of d)) refl (text_only text d s)

  abbrev IsRead : Parsed → Type 0
  IsRead unreadable = ⊥
  IsRead (reads d) = Unit {0}

  parsed : length text ≤ longest_text → (p : Parsed) → parse text ≡ p → Ends what text room (ending_by what room p)
  parsed h unreadable e = malformed (λ d s. subst IsRead (sym ((parse_spelt text d).1 s.1) ∙ e) tt)
  parsed h (reads d) e = told d (h, (parse_spelt text d).0 e) (clashing d) refl

  pub ending_ends : Ends what text room (ending what text room)
  unfolding ending
  ending_ends = go (leb (length text) longest_text) refl
    where
      go : (q : Bool) → leb (length text) longest_text ≡ q → Ends what text room (choose q (ending_by what room (parse text)) (number 50))
      go true q = parsed (leb-true (length text) longest_text q) (parse text) refl
      go false q = malformed (λ d s. let h : length text ≤ longest_text = s.0 in let k : longest_text < length text = leb-false (length text) longest_text q in absurd (omega arith))

  -- ---- and the only one

  says_ending : (d : Document) → Says text d → ending what text room ≡ ending_of what room d
  unfolding ending
  says_ending d s =
      choose_true (ending_by what room (parse text)) (number 50) (le-leb (length text) longest_text s.0)
      ∙ ap (ending_by what room) ((parse_spelt text d).1 s.1)

  clear_ending : (d : Document) → Clear text d → ending what text room ≡ in_room room (what d) (decode (image_of d))
  clear_ending d c = says_ending d c.says ∙ choose_false (number 51) (in_room room (what d) (decode (image_of d))) c.clear

  pub ends_ending : (e : Ending) → Ends what text room e → e ≡ ending what text room
  ends_ending e (malformed none) = silent (ending what text room) ending_ends
    where
      silent : (x : Ending) → Ends what text room x → number 50 ≡ x
      silent x (malformed h) = refl
      silent x (clashes d s c) = absurd (none d s)
      silent x (turned d n at c h) = absurd (none d c.says)
      silent x (short d c h k) = absurd (none d c.says)
      silent x (whole d c h k) = absurd (none d c.says)
  ends_ending e (clashes d s c) = sym (says_ending d s ∙ choose_true (number 51) (in_room room (what d) (decode (image_of d))) c)
  ends_ending e (turned d n at c h) = sym (clear_ending d c ∙ ap (in_room room (what d)) h)
  ends_ending e (short d c h k) =
      sym (clear_ending d c ∙ ap (in_room room (what d)) h ∙ choose_false (bytes (what d)) (number 52) (lt-leb (length (what d)) room k))
  ends_ending e (whole d c h k) =
      sym (clear_ending d c ∙ ap (in_room room (what d)) h ∙ choose_true (bytes (what d)) (number 52) (le-leb (length (what d)) room k))

module _ (what : Document → List ℕ) where
  pub ends_unique : (text : List ℕ) (room : ℕ) (e f : Ending) → Ends what text room e → Ends what text room f → e ≡ f
  ends_unique text room e f p q = ends_ending what text room e p ∙ sym (ends_ending what text room f q)

  -- ---- the promise can be kept, and fixes the answer and the room

  pub writes_some : (text room : List ℕ) → Writes what text room (answer_of (ending what text (length room))) (room_of (ending what text (length room)) room)
  writes_some text room = record { ending = ending what text (length room); ends = ending_ends what text (length room); answer = refl; left = refl }

  pub writes_unique : (text room : List ℕ) (r s : Writing) (after later : List ℕ) → Writes what text room r after → Writes what text room s later
      → (r ≡ s) × (after ≡ later)
  writes_unique text room r s after later p q =
      let e : p.ending ≡ q.ending = ends_unique text (length room) p.ending q.ending p.ends q.ends in
      (p.answer ∙ ap answer_of e ∙ sym q.answer, p.left ∙ ap (λ (x : Ending). room_of x room) e ∙ sym q.left)

  -- and so what the code returns
  pub results_unique : (text room : List ℕ) (r s : Result ℕ Refusal) (after later : List ℕ) → Writes what text room (writing r) after
      → Writes what text room (writing s) later → (r ≡ s) × (after ≡ later)
  results_unique text room r s after later p q =
      let same = writes_unique text room (writing r) (writing s) after later p q in
      (writing_tells r s same.0, same.1)
