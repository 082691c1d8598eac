-- `cleaner::listed::tell` meets its contract. Assumes nothing.
use Rattle.std.proofs.Common.{ℕ, ◌≡◌, sym, ap, ◌∙◌, take, length-take-le, rules, bit_and, bit_or}
use mathlib.Core.List.{foldl}
use Rattle.base.specs.paper.Members.{has}
use Rattle.cleaner.specs.Told.{every_has, any_has}
use Rattle.cleaner.proofs.listed.tell.Goals as goal

pub returns : goal.returns
returns c =
    let l = take c.args.count c.args.list.now in
    let every : c.fold.result ≡ foldl bit_and c.args.hypotheses l = search rules in
    let some : c.fold-2.result ≡ foldl bit_or 0 l = search rules in
    record {
      count = sym (length-take-le c.args.count c.args.list.now c.requires);
      every = λ j. ap (λ (d : ℕ). has d j) every ∙ every_has l c.args.hypotheses j;
      some = λ j. ap (λ (d : ℕ). has d j) some ∙ any_has l j;
    }
