-- The proof of `value`, which calls itself. At every step what is left of the clause scan, and of the literal scan in it, decides the value (Scan.antt).
-- Assumes nothing.
use Rattle.std.proofs.Common.{◌≡◌, ◌+◌, ◌/◌, ◌≤◌, ◌<◌, ℕ, Bool, refl, sym, ap, ap₂, subst, ◌∙◌, List, length, drop, arith}
use Rattle.std.specs.Slice.Iter.{chunks_exact_rest, chunks_exact_size}
use Rattle.image.specs.paper.Walk.{field_at}
use Rattle.image.specs.Accepted.{book_in, IsBook}
use Rattle.image.specs.Shown.{shown_front}
use Rattle.image.specs.Places.{shows, clauses_fit}
use Rattle.meaning.specs.paper.Meaning as meaning
use Rattle.judging.specs.Notes.{Given}
use Rattle.judging.proofs.Image.{few_atoms, few_abducibles, part, part_length, part_rest, behind_first, literal_is}
use Rattle.judging.proofs.Memo.{noted_more, same_values}
use Rattle.judging.proofs.Scan.{rank_in, value_set, Scan, Read, scan_start, scan_over, scan_clause, scan_behind, scan_other, scan_enter, read_over, read_under, read_false, read_true}
use Rattle.judging.proofs.values.Judge.+value.Goals as goal
use Rattle.judging.proofs.values.Judge.+value.Goals.{then-loop-test+then-field_at-atom+in-None, else-loop-test, then-field_at-atom+in-Some-field+then-value-sign, else-field_at-atom}

-- there is a note for each atom
small : (s : List ℕ) → IsBook s → (g : Given) → s ≡ g.image → (atom : ℕ) → atom < (book_in g.image).atoms → atom < 256
small s book g e atom bound = omega (arith, few_atoms s book, ap (λ (l : List ℕ). (book_in l).atoms) e)

-- the record of the clause lies within the image
inside : (s : List ℕ) → IsBook s → (d p count place i : ℕ) → Scan s d p count place i → i < count
    → (size : ℕ) → size ≡ field_at s place → (place + 4 ≤ place + 2 + size) × (place + 2 + size ≤ length s)
inside s book d p count place i scan more size e =
    let clause = scan_clause s book d p _ _ _ scan more in
    (omega (arith, clause.headed), omega (arith, clause.ended))

pub bounds : goal.bounds
bounds t c = small _ c.self.invariant.book c.args.self.now (ap (λ (g : Given). g.image) c.self.view_is) _ c.requires

pub abducibles-requires : goal.abducibles-requires
abducibles-requires t c = shown_front (shows _ c.self.invariant.book)

pub is_in-member-requires : goal.is_in-member-requires
is_in-member-requires t c =
    omega (arith, (shows _ c.self.invariant.book).abducibles, few_abducibles _ c.self.invariant.book, c.abducibles.ensures.0, c.if-atom-abducibles.true)

pub bounds-self-inside-slot-then-atom-abducibles : goal.bounds-self-inside-slot-then-atom-abducibles
bounds-self-inside-slot-then-atom-abducibles t c = small _ c.self.invariant.book c.args.self.now (ap (λ (g : Given). g.image) c.self.view_is) _ c.requires

pub invariant_of-self : goal.invariant_of-self
invariant_of-self t c =
    let below : c.args.atom < (book_in c.self.inside.image.now).abducibles = omega (arith, (shows _ c.self.invariant.book).abducibles, c.abducibles.ensures.0, c.if-atom-abducibles.true) in
    noted_more _ _ _ _ _ c.self.invariant (c.is_in-member.ensures ∙ sym (value_set _ c.self.invariant.book _ _ below))

pub returns-then-atom-abducibles-clause-value : goal.returns-then-atom-abducibles-clause-value
returns-then-atom-abducibles-clause-value t c =
    let below : c.args.atom < (book_in c.self.inside.image.now).abducibles = omega (arith, (shows _ c.self.invariant.book).abducibles, c.abducibles.ensures.0, c.if-atom-abducibles.true) in
    c.is_in-member.ensures ∙ sym (value_set _ c.self.invariant.book _ _ below) ∙ ap (λ (g : Given). meaning.value (book_in g.image) g.set c.args.atom) c.self.view_is

pub clauses-counted-requires : goal.clauses-counted-requires
clauses-counted-requires t c = shown_front (shows _ c.self.invariant.book)

pub field_at-count-requires : goal.field_at-count-requires
field_at-count-requires t c = omega (arith, clauses_fit _ c.self.invariant.book, c.clauses-counted.ensures)

pub overflow_add-place : goal.overflow_add-place
overflow_add-place t c = omega (arith, clauses_fit _ c.self.invariant.book, c.clauses-counted.ensures, c.self.told)

pub loop-init : goal.loop-init
loop-init t c =
    let defined : (book_in c.self.inside.image.now).abducibles ≤ c.args.atom = omega (arith, (shows _ c.self.invariant.book).abducibles, c.abducibles.ensures.0, c.if-atom-abducibles.false) in
    (refl, scan_start _ c.self.invariant.book _ _ _ _ defined c.field_at-count.ensures.0 c.clauses-counted.ensures)

pub overflow_add-head : goal.overflow_add-head
overflow_add-head t c =
    let clause = scan_clause _ c.self.invariant.book _ _ _ _ _ c.loop.invariant.1 c.loop-test.true in
    omega (arith, clause.headed, clause.ended, c.self.told)

pub field_at-requires : goal.field_at-requires
field_at-requires t c =
    let clause = scan_clause _ c.self.invariant.book _ _ _ _ _ c.loop.invariant.1 c.loop-test.true in
    omega (arith, clause.headed, clause.ended)

pub overflow_add-end : goal.overflow_add-end
overflow_add-end t c =
    omega (arith, (inside _ c.self.invariant.book _ _ _ _ _ c.loop.invariant.1 c.loop-test.true _ c.field_at-then-field_at-atom.ensures.0).1, c.self.told)

pub field_at-requires-then-field_at-atom : goal.field_at-requires-then-field_at-atom
field_at-requires-then-field_at-atom t c =
    let clause = scan_clause _ c.self.invariant.book _ _ _ _ _ c.loop.invariant.1 c.loop-test.true in
    omega (arith, clause.headed, clause.ended)

pub slice_bounds-chunks_exact-count : goal.slice_bounds-chunks_exact-count
slice_bounds-chunks_exact-count t c =
    let w = inside _ c.self.invariant.book _ _ _ _ _ c.loop.invariant.1 c.loop-test.true _ c.field_at-then-field_at-atom.ensures.0 in
    omega (arith, w.0)

pub slice_bounds-chunks_exact-start : goal.slice_bounds-chunks_exact-start
slice_bounds-chunks_exact-start t c =
    let w = inside _ c.self.invariant.book _ _ _ _ _ c.loop.invariant.1 c.loop-test.true _ c.field_at-then-field_at-atom.ensures.0 in
    omega (arith, w.0)

pub slice_bounds-chunks_exact-end : goal.slice_bounds-chunks_exact-end
slice_bounds-chunks_exact-end t c =
    let w = inside _ c.self.invariant.book _ _ _ _ _ c.loop.invariant.1 c.loop-test.true _ c.field_at-then-field_at-atom.ensures.0 in
    omega (arith, w.1)

pub loop-field-init : goal.loop-field-init
loop-field-init t c =
    let w = inside _ c.self.invariant.book _ _ _ _ _ c.loop.invariant.1 c.loop-test.true _ c.field_at-then-field_at-atom.ensures.0 in
    let image = c.self.inside.image.now in
    let head : ℕ = c.loop.place + 2 in
    let end : ℕ = head + c.field_at-then-field_at-atom.result in
    let read = scan_enter _ c.self.invariant.book _ _ _ _ _ c.loop.invariant.1 c.loop-test.true (head + 2) _ (omega arith)
    (ap (λ (n : ℕ). head + n) c.field_at-then-field_at-atom.ensures.0) (sym c.field_at.ensures.0 ∙ c.if-field_at-atom.true) in
    let clause : chunks_exact_rest c.chunks_exact-clause.result ≡ part image head end = c.chunks_exact-clause.ensures.rest in
    let two : chunks_exact_size c.chunks_exact-clause.result ≡ 2 = c.chunks_exact-clause.ensures.size in
    let long : 2 ≤ length (chunks_exact_rest c.chunks_exact-clause.result) = omega (arith, w.0, part_length image head end (omega (arith, w.0)) w.1, ap length clause) in
    let body : part image (head + 2) end ≡ chunks_exact_rest c.into_iter-field-iterator.result =
    sym (part_rest image head end (omega (arith, w.0)) w.1 2 (omega (arith, w.0))) ∙ sym (ap (drop 2) clause) ∙ sym (behind_first _ _ _ long two c.next.ensures.steps)
    ∙ sym (ap chunks_exact_rest c.into_iter-field-iterator.ensures.into_iter_gives) in
    let size : chunks_exact_size c.into_iter-field-iterator.result ≡ 2 = ap chunks_exact_size c.into_iter-field-iterator.ensures.into_iter_gives ∙ c.next.ensures.steps.0 ∙ two in
    (c.loop.invariant.0, subst (Read image c.args.self.now.set c.args.atom c.loop.counter) body read, size)

-- the literal stands in the body, and its atom has a smaller rank
pub value-requires : goal.value-requires
value-requires t c =
    let two = c.in-Some-field.ensures.steps.1.1 ∙ c.loop-field.invariant.2 in
    let u = read_under _ _ _ _ _ c.loop-field.invariant.1 _ _ c.in-Some-field.ensures.steps.1.0 two in
    let image : c.self.inside.image.now ≡ c.args.self.now.image = ap (λ (g : Given). g.image) c.self.view_is in
    let here : c.self.inside.image.now ≡ c.loop-field.self.image = image ∙ sym (ap (λ (g : Given). g.image) c.loop-field.invariant.0) in
    let atom : field_at c.in-Some-field.field.now 0 / 2 ≡ c.literal-p.result.0 = sym (ap (λ (l : ℕ × Bool). l.0) c.literal-p.ensures) in
    let rank : rank_in c.self.inside.image.now (field_at c.in-Some-field.field.now 0 / 2) ≡ rank_in c.loop-field.self.image c.literal-p.result.0 = ap₂ rank_in here atom in
    let known : c.literal-p.result.0 < (book_in c.loop-field.self.image).atoms = omega (arith, u.known, atom, ap (λ (l : List ℕ). (book_in l).atoms) here) in
    let falls : rank_in c.loop-field.self.image c.literal-p.result.0 < rank_in c.args.self.now.image c.args.atom =
    omega (arith, u.lower, rank, ap (λ (l : List ℕ). rank_in l c.args.atom) image) in
    (subst (λ (j : ℕ). rank_in c.loop-field.self.image c.literal-p.result.0 < j) c.decreases falls, known)

pub overflow_add-place-in-loop : goal.overflow_add-place-in-loop
overflow_add-place-in-loop t c =
    omega (arith, (inside _ c.self.invariant.book _ _ _ _ _ c.loop.invariant.1 c.loop-test.true _ c.field_at-in-loop.ensures.0).1, c.self.told)

pub field_at-requires-in-loop : goal.field_at-requires-in-loop
field_at-requires-in-loop t c =
    let clause = scan_clause _ c.self.invariant.book _ _ _ _ _ c.loop.invariant.1 c.loop-test.true in
    omega (arith, clause.headed, clause.ended)

pub loop-preserved : goal.loop-preserved
loop-preserved t c =
    let end : c.loop.place + 2 + c.field_at-in-loop.result ≡ c.loop.place + 2 + field_at c.self.inside.image.now c.loop.place = ap (λ (n : ℕ). c.loop.place + 2 + n) c.field_at-in-loop.ensures.0 in
    elim c.if-field_at-atom.branch [
      | then-field_at-atom+in-Some-field+then-value-sign w ↦
          let two = w.in-Some-field.ensures.steps.1.1 ∙ w.loop-field.invariant.2 in
          let image : c.self.inside.image.now ≡ c.args.self.now.image = ap (λ (g : Given). g.image) c.self.view_is in
          let told = w.value.ensures.value ∙ ap (λ (f : ℕ → Bool). f w.literal-p.result.0) (same_values _ _ _ w.loop-field.invariant.0 image) in
          let truth = literal_is (meaning.value (book_in c.self.inside.image.now) c.args.self.now.set) _ _ w.literal-p.ensures _ told _ w.if-value-sign.true in (
            w.self-is ∙ w.value.ensures.same ∙ w.loop-field.invariant.0,
            scan_behind _ c.self.invariant.book _ _ _ _ _ c.loop.invariant.1 c.loop-test.true _ end
                (read_false _ _ _ _ _ w.loop-field.invariant.1 _ _ w.in-Some-field.ensures.steps.1.0 two truth),
          )
      | else-field_at-atom w ↦ (
        w.self-is ∙ c.loop.invariant.0,
        scan_other _ c.self.invariant.book _ _ _ _ _ c.loop.invariant.1 c.loop-test.true _ end (λ h. w.if-field_at-atom.false (c.field_at.ensures.0 ∙ h)),
      )
    ]

pub loop-field-preserved : goal.loop-field-preserved
loop-field-preserved t c =
    let two = c.in-Some-field.ensures.steps.1.1 ∙ c.loop-field.invariant.2 in
    let image : c.self.inside.image.now ≡ c.args.self.now.image = ap (λ (g : Given). g.image) c.self.view_is in
    let told = c.value.ensures.value ∙ ap (λ (f : ℕ → Bool). f c.literal-p.result.0) (same_values _ _ _ c.loop-field.invariant.0 image) in
    let truth = literal_is (meaning.value (book_in c.self.inside.image.now) c.args.self.now.set) _ _ c.literal-p.ensures _ told _ c.if-value-sign.false in (
      c.value.ensures.same ∙ c.loop-field.invariant.0,
      read_true _ _ _ _ _ c.loop-field.invariant.1 _ _ c.in-Some-field.ensures.steps.1.0 two truth,
      c.in-Some-field.ensures.steps.0 ∙ c.loop-field.invariant.2,
    )

pub bounds-self-inside-slot-2 : goal.bounds-self-inside-slot-2
bounds-self-inside-slot-2 t c = small _ c.self.invariant.book c.args.self.now (ap (λ (g : Given). g.image) c.self.view_is) _ c.requires

-- where the scan is left, what it yields is the value
pub returns-clause-value : goal.returns-clause-value
returns-clause-value t c =
    let image : c.self.inside.image.now ≡ c.args.self.now.image = ap (λ (g : Given). g.image) c.self.view_is in
    let is : (m : Bool) → meaning.value (book_in c.self.inside.image.now) c.args.self.now.set c.args.atom ≡ m → m ≡ meaning.value (book_in c.args.self.now.image) c.args.self.now.set c.args.atom =
    λ m e. sym e ∙ ap (λ (l : List ℕ). meaning.value (book_in l) c.args.self.now.set c.args.atom) image in
    elim c.loop-test.branch [
      | then-loop-test+then-field_at-atom+in-None w ↦
          is c.loop-test.met
          (read_over _ _ _ _ _ w.loop-field.invariant.1 (omega (arith, w.in-None.ensures.steps.1.0, w.loop-field.invariant.2)) ∙ sym w.met-is)
      | else-loop-test w ↦
          is c.loop-test.met (scan_over _ c.self.invariant.book _ _ _ _ _ c.loop.invariant.1 (omega (arith, c.loop.auto.counter-end, w.loop-test.false)) ∙ sym w.met-is)
    ]

pub invariant_of-self-2 : goal.invariant_of-self-2
invariant_of-self-2 t c =
    let same : c.loop-test.self ≡ c.args.self.now =
    elim c.loop-test.branch [
      | then-loop-test+then-field_at-atom+in-None w ↦ w.self-is ∙ w.loop-field.invariant.0
      | else-loop-test w ↦ w.self-is ∙ c.loop.invariant.0
    ] in
    noted_more _ _ _ _ _ c.self-2.invariant
    (returns-clause-value t c ∙ sym (ap (λ (g : Given). meaning.value (book_in g.image) g.set c.args.atom) (c.self-2.view_is ∙ same)))
