-- `depends::place` meets its contract: the clauses are the book's own. Assumes nothing.
use Prim.Native.Nat.{ℕ, ◌+◌}
use mathlib.Core.Path.{ap, ◌∙◌}
use mathlib.Core.List.{List}
use native.Mathlib.Omega.{arith}
use Rattle.image.specs.Shown.{shown_front, shown_clauses, clause_count_at}
use Rattle.image.specs.paper.Book.{Clause}
use Rattle.loops.specs.Left.{clauses_of}
use Rattle.loops.specs.Records.{found_ready}
use Rattle.depends.specs.Before.{depends_on_itself, loop_place_lem, before_within, bytes_fit}
use Rattle.depends.proofs.place.Goals as goal

pub clauses-requires : goal.clauses-requires
clauses-requires c = shown_front (found_ready _ _ _ c.requires.2).shown

pub overflow_add-result : goal.overflow_add-result
overflow_add-result c = omega (arith, shown_clauses (found_ready _ _ _ c.requires.2).shown, c.clauses.ensures, c.well_formed.0.0)

pub overflow_add-result-2 : goal.overflow_add-result-2
overflow_add-result-2 c =
    let r = found_ready _ _ _ c.requires.2 in
    let same = c.of.ensures _ _ c.requires.2 in
    let cs : List Clause = clauses_of c.of.result in
    omega (arith, bytes_fit _ _ r.shown cs same.0, before_within (depends_on_itself cs c.of.result.atoms) cs, c.before_loop.ensures, c.clauses.ensures, c.well_formed.0.0)

pub returns : goal.returns
returns c =
    λ b next e.
    let r = found_ready _ b next e in
    let same = c.of.ensures b next e in
    ap (λ (n : ℕ). n + 2 + c.before_loop.result) c.clauses.ensures
    ∙ ap (λ (n : ℕ). clause_count_at c.args.image.now + 2 + n) c.before_loop.ensures
    ∙ loop_place_lem _ b r.shown _ _ same.1 same.0
