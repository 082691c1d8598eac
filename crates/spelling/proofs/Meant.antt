-- What each ending means, in the words of paper 02, A1. A text is refused under 50, 51, 5, 7, 9 or 52 and no other number: 5 is a count
-- that does not keep its limit, 7 a clause with a marked head, 9 a loop. It is answered with its image exactly if there is none of these
-- and the room is long enough; the image is then read as the book that the text says.
-- Assumes nothing.
use Rattle.std.specs.Prelude.{ℕ, ◌≤◌, ◌<◌, ◌≡◌, refl, true, false, ◌⊎◌, ◌↔◌, List, [], ◌++◌, map, length, take, drop}
use Rattle.std.proofs.Common.{arith, sym, ap, ◌∙◌, subst, inl, inr, length-take-le, take_at, drop_at}
use mathlib.Core.List.Memᴰ
use Rattle.std.proofs.Math.Seq.{length_front}
use Rattle.base.specs.Bools.{clash}
use Rattle.base.specs.paper.Lists.{◌∈◌}
use Rattle.base.specs.Lists.{here, ∈_left}
use Rattle.base.specs.Flat.{∈_flat, flat_∈}
use Rattle.image.specs.paper.Book.{Clause, Book}
use Rattle.image.specs.paper.Faults.{limits}
use Rattle.image.specs.paper.Loops.{Depends, loop_free}
use Rattle.image.specs.paper.Decode.{Decoded, accepted, refused, decode}
use Rattle.image.specs.LoopLaws.{Closed}
use Rattle.image.proofs.LoopLaws.{loopless_free}
use Rattle.image.specs.Encode.{longest_image, longest_image_lem}
use Rattle.image.specs.Accepted.{within}
use Rattle.image.proofs.Accepted.{loopless}
use Rattle.spelling.specs.paper.Document.{Atom, Literal, Statement, clause, constraint, Document}
use Rattle.spelling.specs.paper.Said.{atoms_in, mentions_in, mentions, numbered, number_of, lit_in, clauses_in, clashing, book_of}
use Rattle.spelling.specs.paper.Answer.{Says, image_of, Clear, Ends, malformed, clashes, turned, short, whole, Writes}
use Rattle.image.specs.paper.Writing.{Written, Refused, Ending, bytes, number, answer_of, room_of}
use Rattle.spelling.proofs.Numbering.{Clash, clashing_clash, marked_below}
use Rattle.spelling.specs.Fair.{Told, Few, MarkedHead}
use Rattle.spelling.proofs.Only.{Outcome, back, limit, head, loop, book_told, text_only}

-- ---- 7: a clause with a marked head

-- a clause of the document whose head is marked
pub record MarkedClause (d : Document) : Type 0 where
  pub atom : Atom
  pub body : List Literal
  pub there : clause atom body ∈ d.statements
  pub marked : atom.marked ≡ true

module _ (d : Document) (clear : clashing d ≡ false) where
  head_mentioned : (a : Atom) (body : List Literal) → clause a body ∈ d.statements → a ∈ mentions d
  head_mentioned a body i = ∈_left (atoms_in d.goal) (∈_flat mentions_in d.statements i here)

  marked_clause : MarkedHead (book_of d) → MarkedClause d
  marked_clause (c, i, h) =
      let f = flat_∈ (clauses_in (numbered d)) d.statements i in
      go f.0 f.1 f.2
    where
      go : (s : Statement) → s ∈ d.statements → c ∈ clauses_in (numbered d) s → MarkedClause d
      go (constraint side ways) m j = absurd (Memᴰ.not-nil j)
      go (clause a body) m j = one (Memᴰ.cases_cons j)
        where
          one : (c ≡ record { head = number_of (numbered d) a.name; body = map (lit_in (numbered d)) body }) ⊎ (c ∈ []) → MarkedClause d
          one (inr k) = absurd (Memᴰ.not-nil k)
          one (inl e) =
              let n : c.head ≡ number_of (numbered d) a.name = ap (λ (x : Clause). x.head) e in
              record { atom = a; body = body; there = m; marked = (marked_below d a (head_mentioned a body m) clear).1 (omega (arith, n, h)) }

  clause_marked : MarkedClause d → MarkedHead (book_of d)
  clause_marked m = (
    _,
    ∈_flat (clauses_in (numbered d)) d.statements m.there here,
    (marked_below d m.atom (head_mentioned m.atom m.body m.there) clear).0 m.marked,
  )

-- ---- when the image is accepted

-- no atom depends on itself
abbrev pub Loopless : Book → Type 0
Loopless b = (p : ℕ) → Depends b.clauses p p → ⊥

-- what a document must be for its image to be accepted
pub record Acceptable (d : Document) : Type 0 where
  pub few : Few limits (book_of d)
  pub bare : MarkedClause d → ⊥
  pub loopless : Loopless (book_of d)

told_closed : (b : Book) → Told b → Closed b
told_closed b t = record { heads = λ c m. (t.clauses c m).0; bodies = λ c m. (t.clauses c m).1 }

module _ (text : List ℕ) (d : Document) (c : Clear text d) where
  closed : Closed (book_of d)
  closed = told_closed (book_of d) (book_told d c.says.1.1)

  loops : loop_free (book_of d) ≡ false → Loopless (book_of d) → ⊥
  loops e l = clash (loopless_free (book_of d) closed l) e

  -- the image of a clear text is accepted exactly if its document is acceptable
  pub accepted_exactly : (decode (image_of d) ≡ accepted (book_of d)) ↔ Acceptable d
  accepted_exactly = (to, λ s. from s (decode (image_of d)) (text_only text d c.says))
    where
      to : decode (image_of d) ≡ accepted (book_of d) → Acceptable d
      to e =
          let w = within (image_of d) (book_of d) e in
          record {
            few =
                record {
                  some = w.some;
                  atoms = w.atoms;
                  abducibles = w.abducibles;
                  goal = w.goal;
                  clauses = w.clauses;
                  bodies = w.bodies;
                  constraints = w.constraints;
                  literals = w.literals;
                };
            bare =
                λ m.
                let h = clause_marked d c.clear m in
                let k : (book_of d).abducibles ≤ h.0.head = (w.clauses_fine h.0 h.1).defined in
                let j : h.0.head < (book_of d).abducibles = h.2 in
                omega arith;
            loopless = loopless (image_of d) (book_of d) e;
          }

      from : Acceptable d → (x : Decoded) → Outcome (book_of d) x → x ≡ accepted (book_of d)
      from s x back = refl
      from s x (limit h) = absurd (h s.few)
      from s x (head h) = absurd (s.bare (marked_clause d c.clear h))
      from s x (loop h) = absurd (loops h s.loopless)

-- ---- what a refusal's number means

pub data Meant (what : Document → List ℕ) (text : List ℕ) (room : ℕ) : ℕ → Type 0 where
  no_document : ((d : Document) → Says text d → ⊥) → Meant what text room 50
  both_kinds : (d : Document) → Says text d → Clash d → Meant what text room 51
  over_limit : (d : Document) → Clear text d → (Few limits (book_of d) → ⊥) → Meant what text room 5
  marked_head : (d : Document) → Clear text d → MarkedClause d → Meant what text room 7
  on_a_loop : (d : Document) → Clear text d → (Loopless (book_of d) → ⊥) → Meant what text room 9
  too_short : (d : Document) → Clear text d → Acceptable d → room < length (what d) → Meant what text room 52

module _ (what : Document → List ℕ) (text : List ℕ) (room : ℕ) where
  abbrev Means : Ending → Type 0
  Means (bytes s) = (d : Document) × Clear text d × Acceptable d × (s ≡ what d) × (length s ≤ room)
  Means (number n) = Meant what text room n

  turned_meant : (d : Document) (n at : ℕ) → Clear text d → (x : Decoded) → x ≡ refused n at → Outcome (book_of d) x → Meant what text room n
  turned_meant d n at c x e back = let z : ◌≡◌ {A = ℕ} 0 1 = cc in absurd (omega arith)
  turned_meant d n at c x e (limit h) = let z : 5 ≡ n = cc in subst (Meant what text room) z (over_limit d c h)
  turned_meant d n at c x e (head h) = let z : 7 ≡ n = cc in subst (Meant what text room) z (marked_head d c (marked_clause d c.clear h))
  turned_meant d n at c x e (loop h) = let z : 9 ≡ n = cc in subst (Meant what text room) z (on_a_loop d c (loops text d c h))

  -- every ending means what it should
  pub ends_meant : (e : Ending) → Ends what text room e → Means e
  ends_meant e (malformed h) = no_document h
  ends_meant e (clashes d s h) = both_kinds d s ((clashing_clash d).0 h)
  ends_meant e (turned d n at c h) = turned_meant d n at c (decode (image_of d)) h (text_only text d c.says)
  ends_meant e (short d c h k) = too_short d c ((accepted_exactly text d c).0 h) k
  ends_meant e (whole d c h k) = (d, c, (accepted_exactly text d c).0 h, refl, k)

  -- and a text that says an acceptable document, in a room that is long enough, is answered with what is asked for
  pub acceptable_ends : (d : Document) → Clear text d → Acceptable d → length (what d) ≤ room → Ends what text room (bytes (what d))
  acceptable_ends d c s h = whole d c ((accepted_exactly text d c).1 s) h

-- An image that is written is read as the book that the text says, and has at most 8,751 bytes.
pub written_read : (text : List ℕ) (room : ℕ) (s : List ℕ) → Ends image_of text room (bytes s)
    → (d : Document) × Clear text d × (decode s ≡ accepted (book_of d)) × (length s ≤ longest_image)
written_read text room s e =
    let m : Means image_of text room (bytes s) = ends_meant image_of text room (bytes s) e in
    let a : decode s ≡ accepted (book_of m.0) = ap decode m.3 ∙ (accepted_exactly text m.0 m.1).1 m.2 in
    (m.0, m.1, a, longest_image_lem s (book_of m.0) a)

-- ---- the promise in words

-- n bytes are written at the front of the room, and the others are as they were
pub record Laid (s room : List ℕ) (n : ℕ) (after : List ℕ) : Type 0 where
  pub count : n ≡ length s
  pub front : take n after ≡ s
  pub behind : drop n after ≡ drop n room
  pub long : length after ≡ length room

module _ (what : Document → List ℕ) (text room after : List ℕ) (n : ℕ) where
  -- a refusal has its reason, and leaves the room as it was
  pub writes_refused : Writes what text room (Refused n) after → Meant what text (length room) n × (after ≡ room)
  writes_refused w = go w.ending w.ends w.answer w.left
    where
      go : (e : Ending) → Ends what text (length room) e → Refused n ≡ answer_of e → after ≡ room_of e room → Meant what text (length room) n × (after ≡ room)
      go (bytes s) e a l = let z : ◌≡◌ {A = ℕ} 0 1 = cc in absurd (omega arith)
      go (number m) e a l = let z : n ≡ m = cc in (subst (Meant what text (length room)) (sym z) (ends_meant what text (length room) (number m) e), l)

  -- what is written is what the text's document asks for
  pub writes_written : Writes what text room (Written n) after → (d : Document) × Clear text d × Acceptable d × Laid (what d) room n after
  writes_written w = go w.ending w.ends w.answer w.left
    where
      go : (e : Ending) → Ends what text (length room) e → Written n ≡ answer_of e → after ≡ room_of e room
          → (d : Document) × Clear text d × Acceptable d × Laid (what d) room n after
      go (number m) e a l = let z : ◌≡◌ {A = ℕ} 0 1 = cc in absurd (omega arith)
      go (bytes s) e a l =
          let m : Means what text (length room) (bytes s) = ends_meant what text (length room) (bytes s) e in
          let z : n ≡ length s = cc in
          (m.0, m.1, m.2, subst (λ (t : List ℕ). Laid t room n after) m.3 (laid s z l m.4))
        where
          laid : (s : List ℕ) → n ≡ length s → after ≡ s ++ drop (length s) room → length s ≤ length room → Laid s room n after
          laid s z l h =
              record {
                count = z;
                front = ap (take n) l ∙ take_at s (drop (length s) room) n (sym z);
                behind = ap (drop n) l ∙ drop_at s (drop (length s) room) n (sym z) ∙ ap (λ (k : ℕ). drop k room) (sym z);
                long = ap length l ∙ length_front room s (length s) (sym (length-take-le (length s) room h));
              }
