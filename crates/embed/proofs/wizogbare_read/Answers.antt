-- `embed::wizogbare_read` meets its contract. Assumes nothing.
use Rattle.embed.specs.Bounds.{reading_within}
use Rattle.embed.proofs.wizogbare_read.Goals as goal

pub broken_code-requires : goal.broken_code-requires
broken_code-requires c = (reading_within _ _ c.in-Err.ensures).place
