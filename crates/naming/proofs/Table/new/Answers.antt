-- `naming::Table::new` meets its contract. Assumes nothing.
use Rattle.std.specs.Prelude.{ℕ}
use Rattle.std.proofs.Common.{refl}
use Rattle.std.proofs.lemmas.List.{length-replicate}
use Rattle.spelling.specs.Codes.{buckets}
use Rattle.spelling.specs.paper.Answer.{longest_text}
use Rattle.naming.specs.Chains.{empty_none}
use Rattle.naming.proofs.Table.new.Goals as goal

pub returns : goal.returns
returns c =
    record {
      long = (length-replicate {A = ℕ} longest_text 0, length-replicate {A = ℕ} longest_text 0, length-replicate {A = ℕ} buckets 0);
      empty = empty_none;
      none = (refl, refl);
      single = refl;
    }
