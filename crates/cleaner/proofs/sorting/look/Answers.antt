-- `cleaner::sorting::look` meets its contract: a listing that is refused refuses the group, and a finished one is concluded from.
-- Assumes nothing.
use Rattle.std.proofs.Common.{Err, refl, ap}
use Rattle.lister.specs.declared.NoAnswer.{NoAnswer}
use Rattle.lister.specs.paper.Promise.{listing}
use Rattle.cleaner.proofs.LookingLaws.{looked_broken, looked_refused, looked_listed, wiped_after}
use Rattle.cleaner.proofs.sorting.look.Goals as goal

pub conclude-requires : goal.conclude-requires
conclude-requires c = wiped_after c.requires c.in-Ok.ensures c.list.auto.work

pub returns-in-Ok : goal.returns-in-Ok
returns-in-Ok c = looked_listed c.requires c.in-Ok.ensures c.list.auto.sets _ _ refl c.tell.ensures c.conclude.ensures

pub returns-in-Err-Broken : goal.returns-in-Err-Broken
returns-in-Err-Broken c = absurd (looked_broken c.requires c.in-Err-Broken.ensures _ _ (ap (λ (e : NoAnswer). listing (Err e)) c.in-Err-Broken.field-0-is))

pub returns-in-Err-Refused : goal.returns-in-Err-Refused
returns-in-Err-Refused c = looked_refused c.requires c.in-Err-Refused.ensures _ _ (ap (λ (e : NoAnswer). listing (Err e)) c.in-Err-Refused.field-0-is)
