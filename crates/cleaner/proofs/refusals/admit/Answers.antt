-- `cleaner::refusals::admit` meets its contract: the book's refusal, 40, then what the record earns, then what the numbers do.
-- Assumes nothing.
use Rattle.std.proofs.Common.{ℕ, ◌≡◌, List, Result, Ok, Err, sym, ap, ◌∙◌, arith, rules}
use Rattle.std.specs.Bool.{⊤}
use borrow.Author.Tests.{lt-ltb}
use Rattle.image.specs.declared.refusals.Fault.{Fault}
use Rattle.image.specs.paper.Walk.{Finding, and_then}
use Rattle.image.specs.paper.Decode.{Decoded, decode}
use Rattle.image.specs.Accepted.{IsBook, book_in}
use Rattle.book.specs.paper.Reading.{Reads, reading}
use Rattle.book.specs.ReadingLaws.{read_book}
use Rattle.cleaner.specs.Refusals.{first_of, of_group, of_numbers}
use Rattle.cleaner.proofs.refusals.admit.Goals as goal

-- of a book, for which some hypothesis is named
by_parts : (s group : List ℕ) (hypotheses budget room space : ℕ) → IsBook s → (hypotheses ≡ 0 → ⊥)
    → and_then (of_group (book_in s) group) (of_numbers (book_in s) hypotheses budget room space) ≡ first_of (decode s) group hypotheses budget room space
by_parts s group hypotheses budget room space book some =
    let named = lt-ltb 0 hypotheses (omega (arith, some)) in
    sym (ap (λ (d : Decoded). first_of d group hypotheses budget room space) book ∙ rw named)

is_accepted : (s : List ℕ) (r : Result ⊤ Fault) → Reads s (reading r) → r ≡ Ok tt → IsBook s
is_accepted s r reads e = read_book s _ reads (ap reading e)

pub of_group-requires : goal.of_group-requires
of_group-requires c = let ok : c.read.result ≡ Ok tt = search rules in is_accepted _ _ c.read.ensures ok

pub returns-in_err-group-clause-found : goal.returns-in_err-group-clause-found
returns-in_err-group-clause-found c =
    let a = c.args in
    let ok : c.read.result ≡ Ok tt = search rules in
    let is : c.from_residual-in_err-group.result ≡ Err c.in_err-group.field-0.0 = search rules in
    let numbers = of_numbers (book_in a.book.now) a.hypotheses a.budget a.room a.space in
    rw is
    (ap (λ (f : Finding). and_then f numbers) c.in_err-group.ensures.found
    ∙ by_parts a.book.now a.bytes.now a.hypotheses a.budget a.room a.space (is_accepted _ _ c.read.ensures ok) c.if-hypotheses-eq0.false)

pub of_numbers-requires : goal.of_numbers-requires
of_numbers-requires c = let ok : c.read.result ≡ Ok tt = search rules in is_accepted _ _ c.read.ensures ok

pub returns-in_err-of_numbers-clause-found : goal.returns-in_err-of_numbers-clause-found
returns-in_err-of_numbers-clause-found c =
    let a = c.args in
    let ok : c.read.result ≡ Ok tt = search rules in
    let is : c.from_residual-in_err-of_numbers.result ≡ Err c.in_err-of_numbers.field-0.0 = search rules in
    let numbers = of_numbers (book_in a.book.now) a.hypotheses a.budget a.room a.space in
    rw is
    (c.in_err-of_numbers.ensures ∙ ap (λ (f : Finding). and_then f numbers) c.in_ok-group.ensures.found
    ∙ by_parts a.book.now a.bytes.now a.hypotheses a.budget a.room a.space (is_accepted _ _ c.read.ensures ok) c.if-hypotheses-eq0.false)

pub returns-clause-found : goal.returns-clause-found
returns-clause-found c =
    let a = c.args in
    let ok : c.read.result ≡ Ok tt = search rules in
    let numbers = of_numbers (book_in a.book.now) a.hypotheses a.budget a.room a.space in
    c.in_ok-of_numbers.ensures ∙ ap (λ (f : Finding). and_then f numbers) c.in_ok-group.ensures.found
    ∙ by_parts a.book.now a.bytes.now a.hypotheses a.budget a.room a.space (is_accepted _ _ c.read.ensures ok) c.if-hypotheses-eq0.false
