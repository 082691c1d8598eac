-- `groups::writing::write_facts` meets its contract: the facts from the next one on are still to be written. Assumes nothing.
use Rattle.std.proofs.Common.{◌+◌, ◌*◌, ◌≡◌}
use Rattle.groups.specs.paper.Group.{observed}
use Rattle.groups.specs.RecordLaws.{observed_from}
use Rattle.groups.specs.Wrote.{Owed}
use Rattle.groups.specs.Pieces.{fact_bytes, fact_length}
use Rattle.groups.proofs.writing.write_facts.Given as given

abbrev pub invariant-loop-i : given.invariant-loop-i
invariant-loop-i l =
    record {
      place : l.end ≡ l.at + fact_length * l.i;
      owed : Owed (fact_bytes (observed l.group.bytes.now)) l.initial.image l.at l.image l.end (fact_bytes (observed_from l.group.bytes.now l.i));
    }
