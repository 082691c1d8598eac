-- `judging::values::Judge::first_false` meets its contract. Assumes nothing.
use Rattle.std.proofs.Common.{◌≡◌, ◌/◌, ℕ, Bool, List, refl, sym, ap, subst, ◌∙◌, arith, rules, Some}
use Rattle.std.specs.Slice.Iter.{chunks_exact_rest, chunks_exact_size}
use Rattle.image.specs.paper.Walk.{field_at}
use Rattle.image.specs.Accepted.{book_in}
use Rattle.meaning.specs.paper.Meaning.{value}
use Rattle.judging.specs.Notes.{Given}
use Rattle.judging.proofs.Image.{literal_is}
use Rattle.judging.proofs.Memo.{same_values}
use Rattle.judging.proofs.Run.{Run, run_start, run_over, run_known, run_false, run_true}
use Rattle.judging.proofs.values.Judge.first_false.Goals as goal

pub loop-i-init : goal.loop-i-init
loop-i-init c =
    let rest : c.args.literals.now ≡ chunks_exact_rest c.into_iter-i-iterator.result.iter =
    cc (c.chunks_exact.ensures.rest, c.enumerate-i-items.ensures.source, c.into_iter-i-iterator.ensures.into_iter_gives) in
    let size : chunks_exact_size c.into_iter-i-iterator.result.iter ≡ 2 =
    cc (c.chunks_exact.ensures.size, c.enumerate-i-items.ensures.source, c.into_iter-i-iterator.ensures.into_iter_gives) in
    let none : 0 ≡ c.into_iter-i-iterator.result.count = cc (c.enumerate-i-items.ensures.count, c.into_iter-i-iterator.ensures.into_iter_gives) in (
      refl,
      subst (λ (n : ℕ). Run c.args.self.now.image c.args.self.now.set c.args.literals.now n (chunks_exact_rest c.into_iter-i-iterator.result.iter)) none
          (subst (λ (l : List ℕ). Run c.args.self.now.image c.args.self.now.set c.args.literals.now 0 l) rest (run_start _ _ _ c.requires)),
      size,
      search rules,
      tt,
    )

pub value-requires : goal.value-requires
value-requires c =
    let two = c.in-Some.ensures.steps.0.1.1 ∙ c.loop-i.invariant.2 in
    let known = run_known _ _ _ _ _ c.loop-i.invariant.1 _ _ c.in-Some.ensures.steps.0.1.0 two in
    let atom : field_at c.in-Some.field.now 0 / 2 ≡ c.literal-p.result.0 = sym (ap (λ (l : ℕ × Bool). l.0) c.literal-p.ensures) in
    omega (arith, known, atom, ap (λ (g : Given). (book_in g.image).atoms) c.loop-i.invariant.0)

pub returns-then-value-sign-clause-place : goal.returns-then-value-sign-clause-place
returns-then-value-sign-clause-place c =
    let two = c.in-Some.ensures.steps.0.1.1 ∙ c.loop-i.invariant.2 in
    let told = c.value.ensures.value ∙ ap (λ (f : ℕ → Bool). f c.literal-p.result.0) (same_values _ _ _ c.loop-i.invariant.0 refl) in
    let truth = literal_is (value (book_in c.args.self.now.image) c.args.self.now.set) _ _ c.literal-p.ensures _ told _ c.if-value-sign.true in
    ap Some c.in-Some.ensures.steps.1 ∙ run_false _ _ _ _ _ c.loop-i.invariant.1 _ _ c.in-Some.ensures.steps.0.1.0 two truth

pub loop-i-preserved : goal.loop-i-preserved
loop-i-preserved c =
    let two = c.in-Some.ensures.steps.0.1.1 ∙ c.loop-i.invariant.2 in
    let told = c.value.ensures.value ∙ ap (λ (f : ℕ → Bool). f c.literal-p.result.0) (same_values _ _ _ c.loop-i.invariant.0 refl) in
    let truth = literal_is (value (book_in c.args.self.now.image) c.args.self.now.set) _ _ c.literal-p.ensures _ told _ c.if-value-sign.false in (
      c.value.ensures.same ∙ c.loop-i.invariant.0,
      subst (λ (n : ℕ). Run c.args.self.now.image c.args.self.now.set c.args.literals.now n (chunks_exact_rest c.next.new.self.iter)) (sym c.in-Some.ensures.steps.2)
          (run_true _ _ _ _ _ c.loop-i.invariant.1 _ _ c.in-Some.ensures.steps.0.1.0 two truth),
      c.in-Some.ensures.steps.0.0 ∙ c.loop-i.invariant.2,
      search rules,
      tt,
    )

pub returns-clause-place : goal.returns-clause-place
returns-clause-place c = run_over _ _ _ _ _ c.loop-i.invariant.1 (omega (arith, c.in-None.ensures.steps.0.1.0, c.loop-i.invariant.2))
