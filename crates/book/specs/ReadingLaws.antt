-- The reader's promise fixes its answer; the ways to an answer, and what an answer says.
-- Assumes nothing.
use Rattle.std.specs.Prelude.{ℕ, ◌≡◌, refl, Bool, true, false, List, Result, Ok, Err, ⊤}
use Rattle.std.proofs.Math.Path.{sym, ap}
use Rattle.std.proofs.Common.{ap₂, ◌∙◌, arith}
use Rattle.base.specs.paper.Bools.{choose}
use Rattle.image.specs.paper.Book.{Book}
use Rattle.image.specs.paper.Refusals.{number_of}
use Rattle.image.specs.paper.Walk.{found, fault, Finding, fine, wrong}
use Rattle.image.specs.paper.Faults.{limits}
use Rattle.image.specs.paper.Loops.{loop_free}
use Rattle.image.specs.paper.Decode.{whole, wrong_front, front_place, loop_place, Decoded, accepted, refused, in_order, decode}
use Rattle.image.specs.declared.refusals.Refusal.{Refusal}
use Rattle.image.specs.declared.refusals.Fault.{Fault}
use Rattle.image.specs.RefusalLaws.{number_tells}
use Rattle.image.specs.paper.Front.{atoms_at}
use Rattle.image.specs.Accepted.{IsBook, is_book}
use Rattle.book.specs.paper.Reading.{Reading, Accepted, Refused, reading, reading_of, Reads}

-- two answers that meet the promise are equal
pub reads_unique : (s : List ℕ) (q r : Reading) → Reads s q → Reads s r → q ≡ r
reads_unique s q r h k = h.answer ∙ sym k.answer

-- what `read` returns is told by its reading, so two of its answers that meet the promise are equal too
reading_tells : (q r : Result ⊤ Fault) → reading q ≡ reading r → q ≡ r
reading_tells (Ok x) (Ok y) e = refl
reading_tells (Ok x) (Err d) e = cc
reading_tells (Err c) (Ok y) e = cc
reading_tells (Err c) (Err d) e =
    let number : number_of c.refusal ≡ number_of d.refusal = cc in
    let place : c.place ≡ d.place = cc in
    ap₂ (λ (r : Refusal) (p : ℕ). Err (record { refusal = r; place = p })) (number_tells _ _ number) place

pub results_unique : (s : List ℕ) (q r : Result ⊤ Fault) → Reads s (reading q) → Reads s (reading r) → q ≡ r
results_unique s q r h k = reading_tells q r (reads_unique s _ _ h k)

-- ---- the ways to an answer

pub refused_front : (s : List ℕ) (n at : ℕ) → wrong_front s ≡ wrong n → at ≡ front_place s n → Reads s (Refused n at)
unfolding decode in_order
refused_front s n at e p =
    record { answer = ap (Refused n) p ∙ sym (ap (λ (f : Finding). reading_of (in_order s f (whole s limits atoms_at))) e) }

module _ (s : List ℕ) (e : wrong_front s ≡ fine) where
  pub refused_walk : (n at : ℕ) → whole s limits atoms_at ≡ fault n at → Reads s (Refused n at)
  unfolding decode in_order
  refused_walk n at f = record { answer = sym (ap reading_of (ap₂ (in_order s) e f)) }

  module _ (b : Book) (next : ℕ) (f : whole s limits atoms_at ≡ found b next) where
    by_loops : (t : Bool) → loop_free b ≡ t → reading_of (decode s) ≡ reading_of (choose t (accepted b) (refused 9 (loop_place b)))
    unfolding decode in_order
    by_loops t g = ap reading_of (ap₂ (in_order s) e f ∙ ap (λ (u : Bool). choose u (accepted b) (refused 9 (loop_place b))) g)

    pub accepted_free : loop_free b ≡ true → Reads s Accepted
    accepted_free g = record { answer = sym (by_loops true g) }

    pub refused_loop : (at : ℕ) → loop_free b ≡ false → at ≡ loop_place b → Reads s (Refused 9 at)
    refused_loop at g p = record { answer = ap (Refused 9) p ∙ sym (by_loops false g) }

-- ---- what an answer says

pub read_book : (s : List ℕ) (r : Reading) → Reads s r → r ≡ Accepted → IsBook s
read_book s r h e = go (decode s) refl (sym h.answer ∙ e)
  where
    go : (d : Decoded) → decode s ≡ d → reading_of d ≡ Accepted → IsBook s
    go (accepted b) i j = is_book s b i
    go (refused n at) i j = let z : ◌≡◌ {A = ℕ} 0 1 = cc in absurd (omega arith)

pub read_refused : (s : List ℕ) (r : Reading) (n at : ℕ) → Reads s r → r ≡ Refused n at → decode s ≡ refused n at
read_refused s r n at h e = go (decode s) refl (sym h.answer ∙ e)
  where
    go : (d : Decoded) → decode s ≡ d → reading_of d ≡ Refused n at → decode s ≡ refused n at
    go (accepted b) i j = let z : ◌≡◌ {A = ℕ} 0 1 = cc in absurd (omega arith)
    go (refused m p) i j =
        let number : m ≡ n = cc in
        let place : p ≡ at = cc in
        i ∙ ap₂ refused number place
