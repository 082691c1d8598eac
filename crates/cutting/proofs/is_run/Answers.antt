-- `cutting::is_run` meets its contract. Assumes nothing.
use Rattle.std.specs.Prelude.{List, ℕ, nat_eq}
use Rattle.std.specs.Cmp.Lexicographic.{pointwise}
use Rattle.std.proofs.Common.{sym, ap, ◌∙◌}
use Rattle.spelling.specs.Table.{name_at}
use Rattle.cutting.specs.Begins.{run_bytes, same_pointwise}
use Rattle.cutting.proofs.is_run.Goals as goal

pub returns : goal.returns
returns c =
    let a = c.args in
    c.eq.ensures
    ∙ ap (λ (run : List ℕ). pointwise nat_eq run a.word.now) (run_bytes a.text.now a.at a.end c.requires.1)
    ∙ sym (same_pointwise (name_at a.text.now a.at) a.word.now)
