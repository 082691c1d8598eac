-- `frames::push` meets its contract. Assumes nothing.
use Prim.Native.Nat.{◌+◌, ◌/◌, ◌%◌}
use native.Mathlib.Omega.{arith}
use mathlib.Core.Path.{refl}
use Rattle.memory.specs.Places.{bits32}
use Rattle.memory.specs.Pieces.{pushed}
use Rattle.frames.specs.Ways.{seven}
use Rattle.frames.proofs.push.Goals as goal

pub returns : goal.returns
unfolding pushed
returns c =
    let a = c.args in
    let f = c.args.r.top in
    record {
      is = refl;
      area = seven a.work.now f (f + 1) (f + 2) (f + 3) (f + 4) (f + 5) (f + 6) a.r.marked (a.r.set % bits32) (a.r.set / bits32) a.r.agenda.at a.r.agenda.end a.r.agenda.link a.more
          (omega arith) (omega arith) (omega arith) (omega arith) (omega arith) (omega arith);
    }
