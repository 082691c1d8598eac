-- `cleaner::refusals::of_numbers` meets its contract: each test says which refusal it is. Assumes nothing.
use Rattle.std.proofs.Common.{ℕ, ◌^◌, ◌≡◌, ap, ◌∙◌, arith}
use Rattle.std.proofs.lemmas.Bool.Decides.{nat_tests}
use Rattle.image.specs.Accepted.{book_in}
use Rattle.image.specs.Places.{shows}
use Rattle.image.specs.Shown.{shown_front}
use Rattle.cleaner.proofs.refusals.of_numbers.Goals as goal

pub abducibles-requires : goal.abducibles-requires
abducibles-requires c = shown_front (shows _ c.requires)

pub returns-then-names_above : goal.returns-then-names_above
returns-then-names_above c =
    let most : 2 ^ c.abducibles.result ≡ 2 ^ (book_in c.args.book.now).abducibles = ap (λ (n : ℕ). 2 ^ n) (c.abducibles.ensures.0 ∙ (shows _ c.requires).abducibles) in
    grind (arith, nat_tests)

pub returns : goal.returns
returns c =
    let most : 2 ^ c.abducibles.result ≡ 2 ^ (book_in c.args.book.now).abducibles = ap (λ (n : ℕ). 2 ^ n) (c.abducibles.ensures.0 ∙ (shows _ c.requires).abducibles) in
    grind (arith, nat_tests)
