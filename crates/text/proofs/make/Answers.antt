-- `text::make` meets its contract. Assumes nothing.
use Rattle.std.specs.Prelude.{ℕ, ◌≤◌}
use Rattle.std.proofs.Common.{arith}
use Rattle.std.proofs.lemmas.List.{length-replicate}
use Rattle.std.proofs.lemmas.Result.{err_from_is_err_and}
use Rattle.spelling.specs.paper.Answer.{longest_text}
use Rattle.text.specs.Made.{too_long}
use Rattle.text.specs.Drafted.{Drafted, marked_few, drafted_malformed, drafted_clash, drafted, drafted_fits, drafted_lent, drafted_turned, drafted_accepted}
use Rattle.text.proofs.make.Goals as goal
use Rattle.text.proofs.make.Goals.{After-give_numbers}

pub returns-then-text-gt-LONGEST_TEXT : goal.returns-then-text-gt-LONGEST_TEXT
returns-then-text-gt-LONGEST_TEXT c =
    record { lent = (c.requires.1, c.requires.0.long.0); answer = λ what room. too_long what _ room c.if-text-gt-LONGEST_TEXT.true }

pub take_words-words-requires : goal.take_words-words-requires
take_words-words-requires c =
    record {
      short = omega (arith, c.if-text-gt-LONGEST_TEXT.false);
      numbers = length-replicate {A = ℕ} longest_text 0;
      fresh = c.requires.0;
    }

pub returns-in_default : goal.returns-in_default
returns-in_default c =
    let t = c.take_words-words.ensures in
    record { lent = (c.requires.1, t.long.1); answer = drafted_malformed c.if-text-gt-LONGEST_TEXT.false t c.in_default.ensures }

pub returns-then-table : goal.returns-then-table
returns-then-table c =
    let t = c.take_words-words.ensures in
    record { lent = (c.requires.1, t.long.1); answer = drafted_clash c.if-text-gt-LONGEST_TEXT.false t c.in-Some.ensures c.if-table.true }

pub give_numbers-requires : goal.give_numbers-requires
give_numbers-requires c =
    let t = c.take_words-words.ensures in
    let few : c.take_words-words.new.self.names ≤ longest_text = omega (arith, t.few, t.short, c.if-text-gt-LONGEST_TEXT.false) in
    (few, omega (arith, few, marked_few t), t.long.1, t.long.2)

-- what is drawn up
draft : (c : After-give_numbers) → let w = c.take_words-words in
    Drafted c.args.text.now w.new.codes w.new.self.entries c.give_numbers.new.numbers w.result w.new.self.names w.new.self.marked c.in-Some.goal
draft c = drafted c.if-text-gt-LONGEST_TEXT.false c.take_words-words.ensures c.in-Some.ensures c.if-table.false c.give_numbers.ensures

pub invariant_of-document : goal.invariant_of-document
invariant_of-document c = record { due = (draft (goal.at.invariant_of-document c).After-give_numbers).due }

pub write_image-size-requires : goal.write_image-size-requires
write_image-size-requires c = omega (arith, drafted_fits (draft (goal.at.write_image-size-requires c).After-give_numbers), c.requires.1)

pub returns-in_err-read : goal.returns-in_err-read
returns-in_err-read c =
    let w = c.write_image-size.ensures in
    let t = c.take_words-words.ensures in
    let f = draft (goal.at.returns-in_err-read c).After-give_numbers in
    let p = err_from_is_err_and c.from_residual.result c.from_residual.ensures.1 in
    rw (p.1, p.2)
    (record {
      lent = drafted_lent f _ w.0 w.1 c.requires.1 t.long.1;
      answer = drafted_turned f _ w.0 w.1 c.requires.1 t.long.1 _ _ c.in_err-read.ensures;
    })

pub returns : goal.returns
returns c =
    let w = c.write_image-size.ensures in
    let t = c.take_words-words.ensures in
    let f = draft (goal.at.returns c).After-give_numbers in
    record {
      lent = drafted_lent f _ w.0 w.1 c.requires.1 t.long.1;
      answer = drafted_accepted f _ w.0 w.1 c.requires.1 t.long.1 c.in_ok-read.ensures (omega (arith, t.few, t.short, c.if-text-gt-LONGEST_TEXT.false));
    }
