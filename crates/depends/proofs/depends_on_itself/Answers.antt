-- `depends::depends_on_itself` meets its contract. Assumes nothing.
use Prim.Native.Nat.{ℕ}
use mathlib.Core.Path.{◌≡◌, sym, ap, ◌∙◌}
use native.Mathlib.Omega.{arith}
use Rattle.image.specs.paper.Loops.{reached}
use Rattle.loops.specs.Left.{clauses_of, known_of}
use Rattle.marks.specs.declared.Marks.{Marks}
use Rattle.marks.specs.Marked.{marked}
use Rattle.marks.specs.MarkLaws.{marks_same}
use Rattle.depends.specs.Spreading.{rounds_none, rounds_next, answer_true, answer_same, answer_over}
use Rattle.depends.proofs.depends_on_itself.Goals as goal

pub loop-init : goal.loop-init
loop-init c = (rounds_none _ _ _ c.none-all.ensures, c.none-all.ensures _)

pub returns-then-has : goal.returns-then-has
returns-then-has c =
    answer_true _ _ _ _ (known_of c.args.clauses).heads _ (rounds_next _ _ _ _ _ c.spread-next.ensures c.loop.invariant.0)
    (sym c.has.ensures ∙ c.if-has.true)

pub returns-then-eq : goal.returns-then-eq
returns-then-eq c =
    let all : c.spread-next.result ≡ c.loop.all = (marks_same _ _ _ c.eq.ensures).0 c.if-eq.true in
    answer_same _ _ (marked c.loop.all) _ c.spread-next.ensures (λ q. ap (λ (r : Marks). marked r q) all) _ c.loop.invariant.1

pub loop-preserved : goal.loop-preserved
loop-preserved c =
    (rounds_next _ _ _ _ _ c.spread-next.ensures c.loop.invariant.0, sym c.has.ensures ∙ c.if-has.false)

pub returns : goal.returns
returns c =
    let x = c.loop-test.false in
    let p : ℕ = c.args.atom in
    let over : c.loop.counter ≡ c.args.clauses.atoms = omega arith in
    answer_over (clauses_of c.args.clauses) p c.loop.counter _ c.loop.invariant.0 c.loop.invariant.1
    ∙ ap (λ (n : ℕ). reached (clauses_of c.args.clauses) n p p) over
