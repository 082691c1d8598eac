-- The book of an accepted image is orderly, and no atom of it depends on itself.
-- Assumes nothing.
use Rattle.std.specs.Prelude.{ℕ, ◌≤◌, ◌≡◌, List, length}
use Rattle.std.proofs.Common.{ap, arith}
use Rattle.image.specs.paper.Book.{Book}
use Rattle.image.specs.Sound.{Orderly}
use Rattle.image.specs.paper.Faults.{limits}
use Rattle.image.specs.paper.Loops.{Depends}
use Rattle.image.specs.LoopLaws.{rank, rank_most}
use Rattle.image.proofs.LoopLaws.{free_loopless, free_ranks}
use Rattle.image.specs.paper.Decode.{accepted, decode}
use Rattle.image.specs.Written.{Within, decode_written}
use Rattle.image.specs.Accepted.{closed}

pub loopless : (s : List ℕ) (b : Book) → decode s ≡ accepted b → (p : ℕ) → Depends b.clauses p p → ⊥
loopless s b e = let w = decode_written s b e in free_loopless b (closed b w.within) w.free

pub orderly : (s : List ℕ) (b : Book) → decode s ≡ accepted b → Orderly b
orderly s b e =
    let w = decode_written s b e in
    let v : Within limits b = w.within in
    record {
      assumable = v.among;
      goal_known = v.goal_named;
      heads_known = λ c m. (v.clauses_fine c m).known;
      bodies_known = λ c m. (v.clauses_fine c m).named;
      conditions_known = λ k m. (v.constraints_fine k m).named;
      alternatives_known = λ k m ls j. ((v.constraints_fine k m).ways ls j).named;
      heads_defined = λ c m. (v.clauses_fine c m).defined;
      alternatives_named =
          λ k m ls j e.
          let some : 1 ≤ length ls = ((v.constraints_fine k m).ways ls j).some in
          let none : length ls ≡ 0 = ap length e in
          omega arith;
      rank = rank b.clauses b.atoms;
      falls = free_ranks b (closed b v) w.free;
      ranked = rank_most b.clauses b.atoms;
    }
