-- Where things stand in an accepted image and in its parts, in the words of the judge's contracts.
-- Assumes nothing.
use Prim.Native.Nat.{ℕ, zero, suc, ◌+◌, ◌-◌, ◌*◌, ◌/◌, ◌≤◌, ◌<◌}
use mathlib.Core.Path.{◌≡◌, refl, sym, ap, ap₂, ◌∙◌}
use mathlib.Core.Bool.{Bool, true, false, not, beq}
use mathlib.Core.List.{List, [], ◌∷◌, ◌++◌}
use native.Mathlib.Omega.{arith}
use lib.ListN.{length, get_or, take, drop, length-take, length-drop, length-append}
use lib.Seq.{get_or-take, get_or-drop, take_at}
use Rattle.std.proofs.Common.{drop_at, drop-drop, add-zero}
use Rattle.std.specs.Prelude.{Option, Some, None}
use Rattle.std.specs.Slice.Iter.{chunks_exact_rest, chunks_exact_size, chunks_exact_steps}
use denote.Ref.{Bor}
use Rattle.std.specs.declared.slice.ChunksExact.{ChunksExact}
use Rattle.std.proofs.lemmas.List.{take_all, drop-take}
use Rattle.image.specs.paper.Book.{Lit}
use Rattle.image.specs.paper.Walk.{field_at}
use Rattle.image.specs.paper.Faults.{limits}
use Rattle.image.specs.paper.Decode.{lit_of}
use Rattle.image.specs.Spell.{Stands, of_lits}
use Rattle.image.specs.Accepted.{within, book_in, IsBook}
use Rattle.image.specs.Shown.{lits_at, lits_at_lem}
use Rattle.base.specs.paper.Bools.{choose}
use Rattle.meaning.specs.paper.Meaning.{true_in}
use Rattle.judging.specs.Notes.{lit_at, lits_to, lits_of}

-- ---- literals up to an end

pub lits_none : (s : List ℕ) (end at : ℕ) → end < at + 2 → lits_to s end at ≡ []
unfolding lits_to lits_at
lits_none s end at h = let none : (end - at) / 2 ≡ 0 = omega arith in ap (lits_at s at) none

pub lits_more : (s : List ℕ) (end at : ℕ) → at + 2 ≤ end → lits_to s end at ≡ lit_of (field_at s at) ∷ lits_to s end (at + 2)
unfolding lits_to lits_at
lits_more s end at h = let more : (end - at) / 2 ≡ suc ((end - (at + 2)) / 2) = omega arith in ap (lits_at s at) more

-- literals that stand up to an end are those
pub lits_stand : (s : List ℕ) (end at : ℕ) (ls : List Lit) → Stands s at (of_lits ls) → end ≡ at + 2 * length ls → lits_to s end at ≡ ls
unfolding lits_to
lits_stand s end at ls h e = let n : (end - at) / 2 ≡ length ls = omega arith in ap (lits_at s at) n ∙ lits_at_lem s at ls h

-- ---- parts of the image

abbrev pub part : List ℕ → ℕ → ℕ → List ℕ
part s from to = take (to - from) (drop from s)

module _ (s : List ℕ) (from to : ℕ) (ordered : from ≤ to) (within : to ≤ length s) where
  pub part_length : length (part s from to) ≡ to - from
  part_length = omega (arith, length-take (to - from) (drop from s), length-drop from s)

  pub part_field : (at : ℕ) → from + at + 2 ≤ to → field_at (part s from to) at ≡ field_at s (from + at)
  unfolding field_at
  part_field at h =
      let next : from + (at + 1) ≡ from + at + 1 = omega arith in
      ap₂ (λ (x y : ℕ). 256 * x + y)
      (get_or-take (to - from) (drop from s) at 0 (omega arith) ∙ get_or-drop from s at 0)
      (get_or-take (to - from) (drop from s) (at + 1) 0 (omega arith) ∙ get_or-drop from s (at + 1) 0 ∙ ap (λ (k : ℕ). get_or s k 0) next)

  -- what is left behind the first n is a part too
  pub part_rest : (n : ℕ) → from + n ≤ to → drop n (part s from to) ≡ part s (from + n) to
  part_rest n h =
      let more : to - from ≡ n + (to - (from + n)) = omega arith in
      ap (λ (m : ℕ). drop n (take m (drop from s))) more
      ∙ drop-take n (to - (from + n)) (drop from s)
      ∙ ap (take (to - (from + n))) (drop-drop n from s)

  part_lits_from : (n at : ℕ) → from + at + 2 * n ≤ to → lits_at (part s from to) at n ≡ lits_at s (from + at) n
  unfolding lits_at
  part_lits_from zero at h = refl
  part_lits_from (suc n) at h =
      let next : from + (at + 2) ≡ from + at + 2 = omega arith in
      ap₂ ◌∷◌ (ap lit_of (part_field at (omega arith)))
      (part_lits_from n (at + 2) (omega arith) ∙ ap (λ (k : ℕ). lits_at s k n) next)

  -- the literals of a part are those of the image between its ends
  pub part_lits : lits_of (part s from to) ≡ lits_to s to from
  unfolding lits_to
  part_lits =
      let n : (length (part s from to) - 0) / 2 ≡ (to - from) / 2 = omega (arith, part_length) in
      ap (lits_at (part s from to) 0) n ∙ part_lits_from ((to - from) / 2) 0 (omega arith) ∙ ap (λ (k : ℕ). lits_at s k ((to - from) / 2)) (add-zero from)

-- ---- literals, one field after the other

pub lits_less : (rest : List ℕ) → length rest < 2 → lits_of rest ≡ []
lits_less rest h = lits_none rest (length rest) 0 h

module _ (rest x more : List ℕ) (split : rest ≡ x ++ more) (two : length x ≡ 2) where
  long : length rest ≡ 2 + length more
  long = omega (arith, ap length split, length-append x more)

  front : part rest 0 2 ≡ x
  front = ap (take 2) split ∙ take_at x more 2 two

  back : part rest 2 (length rest) ≡ more
  back =
      let size : length rest - 2 ≡ length more = omega (arith, long) in
      ap₂ take size (ap (drop 2) split ∙ drop_at x more 2 two) ∙ take_all (length more) more (omega arith)

  -- the first field is a literal, and the others are behind it
  pub lits_first : lits_of rest ≡ lit_of (field_at x 0) ∷ lits_of more
  lits_first =
      let inside : 2 ≤ length rest = omega (arith, long) in
      lits_more rest (length rest) 0 inside
      ∙ ap₂ (λ (n : ℕ) (ls : List Lit). lit_of n ∷ ls)
      (sym (part_field rest 0 2 (omega arith) inside 0 (omega arith)) ∙ ap (λ (l : List ℕ). field_at l 0) front)
      (sym (part_lits rest 2 (length rest) inside (omega arith)) ∙ ap lits_of back)

-- what is left behind the first field, once it is taken
pub behind_first : (r : Option (Bor (List ℕ))) (s t : ChunksExact ℕ) → 2 ≤ length (chunks_exact_rest s) → chunks_exact_size s ≡ 2 → chunks_exact_steps s r t
    → chunks_exact_rest t ≡ drop 2 (chunks_exact_rest s)
behind_first None s t long two w = absurd (omega (arith, w.1.0, long, two))
behind_first (Some x) s t long two w = sym (ap (drop 2) w.1.0 ∙ drop_at x.now (chunks_exact_rest t) 2 (w.1.1 ∙ two))

-- ---- a literal's truth, by its atom's value

module _ (v : ℕ → Bool) (x : List ℕ) (l : ℕ × Bool) (is : l ≡ lit_at x) (t : Bool) (told : t ≡ v l.0) where
  by_parts : true_in v (lit_of (field_at x 0)) ≡ choose l.1 t (not t)
  by_parts =
      ap (λ (k : ℕ × Bool). choose k.1 (v k.0) (not (v k.0))) (sym is) ∙ ap (λ (u : Bool). choose l.1 u (not u)) (sym told)

  pub literal_is : (r : Bool) → not (beq t l.1) ≡ r → true_in v (lit_of (field_at x 0)) ≡ not r
  literal_is r e = by_parts ∙ go l.1 t ∙ ap not e
    where
      go : (u w : Bool) → choose u w (not w) ≡ not (not (beq w u))
      go true true = refl
      go true false = refl
      go false true = refl
      go false false = refl

-- ---- limits

pub few_atoms : (s : List ℕ) → IsBook s → (book_in s).atoms ≤ limits.atoms
few_atoms s e = (within s (book_in s) e).atoms

pub few_abducibles : (s : List ℕ) → IsBook s → (book_in s).abducibles ≤ limits.abducibles
few_abducibles s e = (within s (book_in s) e).abducibles
