-- The numbers under which an image is refused: those of paper 01, 4.1, from 1 to 9.
-- Assumes nothing.
use Prim.Native.Nat.{ℕ, zero, suc, ◌+◌, ◌-◌, ◌*◌, ◌/◌, ◌%◌, ◌≤◌}
use Rattle.std.proofs.Math.Path.{◌≡◌}
use Rattle.std.proofs.Common.{subst, arith}
use Rattle.std.specs.Prelude.{Bool, List, leb, ltb, eqb, get_or}
use Rattle.std.proofs.Math.Bool.{true, false}
use Rattle.std.proofs.Math.ListN.{length}
use Rattle.image.specs.paper.Front.{atoms_at, version, version_at}
use Rattle.base.specs.paper.Bools.{choose}
use Rattle.image.specs.paper.Book.{Book, body_count, literal_count}
use Rattle.image.specs.paper.Walk.{Step, found, fault, Walk, after, Finding, fine, wrong, unless, and_then, tested, field_at, field, running, times}
use Rattle.image.specs.paper.Faults.{Limits, limits, wrong_atoms, wrong_abducibles, wrong_count, wrong_lit, wrong_head, wrong_size, wrong_clause, body_of, wrong_conditions, wrong_alternative}
use Rattle.image.specs.paper.Loops.{loop_free}
use Rattle.image.specs.paper.Decode.{literal, clause, alternative, alternatives, inside, constraint, counted, clauses_and_constraints, book, ends, whole, length_field, wrong_front, loop_place, accepted, refused, in_order, decode}

-- one of the reader's numbers
pub record Number (n : ℕ) : Type 0 where
  pub some : 1 ≤ n
  pub most : n ≤ 9

-- ---- a test, a step and a walk whose faults have such a number

data Tested : Finding → Type 0 where
  passed : Tested fine
  failed : {n : ℕ} → Number n → Tested (wrong n)

data Stepped {A : Type 0} : Step A → Type 0 where
  onward : {x : A} {at : ℕ} → Stepped (found x at)
  ended : {n at : ℕ} → Number n → Stepped (fault n at)

abbrev Walked : {A : Type 0} → Walk A → Type 0
Walked w = (at : ℕ) → Stepped (w at)

numbered : (n : ℕ) → 1 ≤ n → n ≤ 9 → Number n
numbered n p q = record { some = p; most = q }

-- what closes such tests, steps and walks: a rung and the next, one test and then another, a choice, what goes on from a step
rung : (t : Bool) {n : ℕ} {next : Finding} → Number n → Tested next → Tested (unless t n next)
rung true k f = f
rung false k f = failed k

both_tested : {f g : Finding} → Tested f → Tested g → Tested (and_then f g)
both_tested passed g = g
both_tested (failed k) g = failed k

chosen : {A : Type 0} (t : Bool) {x y : Step A} → Stepped x → Stepped y → Stepped (choose t x y)
chosen true p q = p
chosen false p q = q

follow : {A B : Type 0} {w : Step A} {k : A → Walk B} → Stepped w → ((x : A) → Walked (k x)) → Stepped (after w k)
follow {k = k} (onward {x = x} {at = at}) h = h x at
follow (ended n) h = ended n

tested_stepped : {f : Finding} (x at : ℕ) → Tested f → Stepped (tested f x at)
tested_stepped x at passed = onward
tested_stepped x at (failed k) = ended k

four : Number 4
four = numbered 4 (omega arith) (omega arith)

five : Number 5
five = numbered 5 (omega arith) (omega arith)

six : Number 6
six = numbered 6 (omega arith) (omega arith)

field_walked : (s : List ℕ) (faults : ℕ → Finding) → ((x : ℕ) → Tested (faults x)) → Walked (field s faults)
unfolding field
field_walked s faults h at = chosen (leb (at + 2) (length s)) (tested_stepped (field_at s at) at (h (field_at s at))) (ended four)

running_walked : {A : Type 0} (w : ℕ → Walk A) (weight : A → ℕ) → ((sum : ℕ) → Walked (w sum)) → (n sum : ℕ) → Walked (running w weight n sum)
unfolding running
running_walked w weight h zero sum at = onward
running_walked w weight h (suc n) sum at =
    follow (h sum at) (λ x next. follow (running_walked w weight h n (sum + weight x) next) (λ xs last. onward))

times_walked : {A : Type 0} (w : Walk A) → Walked w → (n : ℕ) → Walked (times w n)
times_walked w h n = running_walked (λ _. w) (λ _. 1) (λ _. h) n 0

-- ---- each field's faults

atoms_tested : (most x : ℕ) → Tested (wrong_atoms most x)
unfolding wrong_atoms
atoms_tested most x = rung (leb 1 x) five (rung (leb x most) five passed)

abducibles_tested : (most atoms x : ℕ) → Tested (wrong_abducibles most atoms x)
unfolding wrong_abducibles
abducibles_tested most atoms x = rung (leb x most) five (rung (leb x atoms) five passed)

count_tested : (most x : ℕ) → Tested (wrong_count most x)
unfolding wrong_count
count_tested most x = rung (leb x most) five passed

literal_tested : (atoms x : ℕ) → Tested (wrong_lit atoms x)
unfolding wrong_lit
literal_tested atoms x = rung (ltb (x / 2) atoms) six passed

head_tested : (atoms abducibles x : ℕ) → Tested (wrong_head atoms abducibles x)
unfolding wrong_head
head_tested atoms abducibles x = rung (ltb x atoms) six (rung (leb abducibles x) (numbered 7 (omega arith) (omega arith)) passed)

size_tested : (left x : ℕ) → Tested (wrong_size left x)
unfolding wrong_size
size_tested left x = rung (eqb (x % 2) 0) four (rung (leb 2 x) four (rung (leb x left) four passed))

clause_tested : (left most sum x : ℕ) → Tested (wrong_clause left most sum x)
unfolding wrong_clause
clause_tested left most sum x = both_tested (size_tested left x) (rung (leb (sum + body_of x) most) five passed)

conditions_tested : (left most sum x : ℕ) → Tested (wrong_conditions left most sum x)
unfolding wrong_conditions
conditions_tested left most sum x = rung (leb (2 * x) left) four (rung (leb (sum + x) most) five passed)

alternative_tested : (left most sum x : ℕ) → Tested (wrong_alternative left most sum x)
unfolding wrong_alternative
alternative_tested left most sum x = rung (leb 1 x) (numbered 8 (omega arith) (omega arith)) (conditions_tested left most sum x)

-- ---- the walk, in the decoder's order

module _ (image : List ℕ) where
  literal_walked : (atoms : ℕ) → Walked (literal image atoms)
  unfolding literal
  literal_walked atoms at = follow (field_walked image (wrong_lit atoms) (literal_tested atoms) at) (λ x next. onward)

  module _ (most : Limits) (atoms : ℕ) where
    clause_walked : (abducibles sum : ℕ) → Walked (clause image most atoms abducibles sum)
    unfolding clause
    clause_walked abducibles sum at =
        follow (field_walked image _ (clause_tested (length image - (at + 2)) most.bodies sum) at)
        (λ size next. follow (field_walked image _ (head_tested atoms abducibles) next)
        (λ head next'. follow (times_walked (literal image atoms) (literal_walked atoms) (body_of size) next') (λ body last. onward)))

    alternative_walked : (end sum : ℕ) → Walked (alternative image most atoms end sum)
    unfolding alternative
    alternative_walked end sum at =
        follow (field_walked image _ (alternative_tested (end - (at + 2)) most.literals sum) at)
        (λ count. times_walked (literal image atoms) (literal_walked atoms) count)

    alternatives_walked : (end n sum : ℕ) → Walked (alternatives image most atoms end n sum)
    unfolding alternatives
    alternatives_walked end zero sum at = onward
    alternatives_walked end (suc n) sum at =
        chosen (ltb at end)
        (follow (alternative_walked end sum at)
        (λ first next. follow (alternatives_walked end n (sum + length first) next) (λ rest last. onward)))
        onward

    inside_walked : (end n sum : ℕ) → Walked (inside image most atoms end n sum)
    unfolding inside
    inside_walked end n sum at =
        follow (field_walked image _ (conditions_tested (end - (at + 2)) most.literals sum) at)
        (λ count next. follow (times_walked (literal image atoms) (literal_walked atoms) count next)
        (λ conditions next'. follow (alternatives_walked end n (sum + count) next') (λ ways last. onward)))

    constraint_walked : (sum : ℕ) → Walked (constraint image most atoms sum)
    unfolding constraint
    constraint_walked sum at =
        follow (field_walked image _ (size_tested (length image - (at + 2))) at)
        (λ size next. inside_walked (next + size) _ sum next)

  counted_walked : {A : Type 0} (most : ℕ) (things : ℕ → Walk A) → ((n : ℕ) → Walked (things n)) → Walked (counted image most things)
  unfolding counted
  counted_walked most things h at = follow (field_walked image (wrong_count most) (count_tested most) at) h

  both_walked : (most : Limits) (atoms abducibles : ℕ) → Walked (clauses_and_constraints image most atoms abducibles)
  unfolding clauses_and_constraints
  both_walked most atoms abducibles at =
      follow (counted_walked most.clauses _ (λ n. running_walked _ body_count (clause_walked most atoms abducibles) n 0) at)
      (λ clauses next. follow
      (counted_walked most.constraints _ (λ n. running_walked _ literal_count (constraint_walked most atoms) n 0) next)
      (λ constraints last. onward))

  book_walked : (most : Limits) → Walked (book image most)
  unfolding book
  book_walked most at =
      follow (field_walked image _ (atoms_tested most.atoms) at)
      (λ atoms next. follow (field_walked image _ (abducibles_tested most.abducibles atoms) next)
      (λ abducibles next'. follow (counted_walked most.goal _ (times_walked (literal image atoms) (literal_walked atoms)) next')
      (λ goal next''. follow (both_walked most atoms abducibles next'') (λ both last. onward))))

  ends_walked : Walked (ends image)
  unfolding ends
  ends_walked at = chosen (eqb at (length image)) onward (ended four)

  whole_walked : (most : Limits) → Walked (whole image most)
  unfolding whole
  whole_walked most at = follow (book_walked most at) (λ b next. follow (ends_walked next) (λ _ last. onward))

  front_tested : Tested (wrong_front image)
  unfolding wrong_front
  front_tested =
      rung (leb atoms_at (length image)) (numbered 1 (omega arith) (omega arith))
      (rung (eqb (get_or image version_at 0) version) (numbered 2 (omega arith) (omega arith))
      (rung (eqb (length_field image) (length image - atoms_at)) (numbered 3 (omega arith) (omega arith)) passed))

  -- An image is refused by 1 to 9.
  pub decode_number : (n place : ℕ) → decode image ≡ refused n place → Number n
  unfolding decode in_order
  decode_number n place e = go front_tested (whole_walked limits atoms_at) e
    where
      last : (b : Book) (t : Bool) → choose t (accepted b) (refused 9 (loop_place b)) ≡ refused n place → Number n
      last b true q = let z : ◌≡◌ {A = ℕ} 0 1 = cc in absurd (omega arith)
      last b false q = let z : 9 ≡ n = cc in numbered n (omega arith) (omega arith)

      go : {f : Finding} {w : Step Book} → Tested f → Stepped w → in_order image f w ≡ refused n place → Number n
      go (failed {n = m} k) w q = let z : m ≡ n = cc in subst Number z k
      go passed (ended {n = m} k) q = let z : m ≡ n = cc in subst Number z k
      go passed (onward {x = b}) q = last b (loop_free b) q
