-- `engine::concluding::conclude` meets its contract: settled by the list, or by the second search. Assumes nothing.
use Rattle.engine.specs.VerdictLaws.{hypothesis_small}
use Rattle.engine.proofs.VerdictLaws.{concluded_settled, concluded_open}
use Rattle.engine.proofs.concluding.conclude.Goals as goal

pub decide-requires : goal.decide-requires
decide-requires c = hypothesis_small _ c.requires.0.seekable.book _ c.requires.0.seekable.abducible

pub by_second-requires : goal.by_second-requires
by_second-requires c = c.requires.0

pub returns-in-Some : goal.returns-in-Some
returns-in-Some c = concluded_settled _ _ _ _ _ _ _ _ c.decide.ensures _ c.in-Some.is

pub returns-in-None : goal.returns-in-None
returns-in-None c = concluded_open _ _ _ _ _ _ _ _ c.decide.ensures c.in-None.is _ _ _ c.by_second.ensures
