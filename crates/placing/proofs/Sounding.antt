-- The walk over an image meets the fields that are due, one after the other: what it finds has sound fields before it, and where it ends at a
-- fault, what is due there has that fault.
-- Assumes nothing.
use Prim.Native.Nat.{ℕ, zero, suc, ◌+◌, ◌*◌, ◌/◌, ◌≤◌}
use Rattle.std.specs.Prelude.{◌≡◌, Bool, leb, ltb}
use Rattle.std.proofs.Math.Path.{refl, ap}
use Rattle.std.proofs.Common.{sym, subst, subst₂, arith}
use Rattle.std.proofs.Math.Bool.{true, false}
use mathlib.Core.List.{List, [], ◌∷◌}
use Rattle.std.proofs.Math.Dec.{eqb}
use Rattle.std.proofs.Math.ListN.{length}
use borrow.Author.Tests.{leb-true, leb-false, le-ltb, eqb-true, eqb-false}
use Rattle.base.specs.paper.Bools.{choose}
use Rattle.base.specs.Bools.{choose_false}
use Rattle.base.specs.paper.Lists.{sum}
use Rattle.image.specs.paper.Front.{atoms_at}
use Rattle.image.specs.paper.Book.{Lit, body_count, literal_count}
use Rattle.image.specs.paper.Walk.{Step, found, fault, Walk, after, give, Finding, fine, wrong, tested, field_at, field, running, times}
use Rattle.image.specs.paper.Faults.{limits, body_of}
use Rattle.image.specs.paper.Decode.{literal, clause, alternative, alternatives, inside, constraint, counted, clauses_and_constraints, book, ends, whole}
use Rattle.placing.specs.paper.Places.{Due, atoms, abducibles, goal_count, clause_count, clause_length, head, constraint_count, constraint_length, condition_count, alternative_count, nothing, literals, constraints, clauses, ways, next, fault_of, Sound, front, Faulty, missing, unsound, left_over}

-- a field is due
abbrev IsField : Due → Type 0
IsField atoms = Unit {0}
IsField (abducibles a) = Unit {0}
IsField (goal_count a b) = Unit {0}
IsField (Due.literal a more due) = Unit {0}
IsField (clause_count a b) = Unit {0}
IsField (clause_length a b more sum) = Unit {0}
IsField (head a b body due) = Unit {0}
IsField (constraint_count a) = Unit {0}
IsField (constraint_length a more sum) = Unit {0}
IsField (condition_count a end more sum) = Unit {0}
IsField (alternative_count a end more sum) = Unit {0}
IsField nothing = ⊥

module _ (s : List ℕ) where
  pub sound_at : {at to : ℕ} {d : Due} → at ≡ to → Sound s at d → Sound s to d
  sound_at {d = d} e h = subst (λ (k : ℕ). Sound s k d) e h

  sound_due : {at : ℕ} {d e : Due} → d ≡ e → Sound s at d → Sound s at e
  sound_due {at = at} e h = subst (Sound s at) e h

  -- what is found has P with the place behind it; a fault is that of what is due at its place
  pub data Led {A : Type 0} (P : A → ℕ → Type 0) : Step A → Type 0 where
    onward : {x : A} {at : ℕ} → P x at → Led P (found x at)
    ended : {n at : ℕ} {d : Due} → Sound s at d → Faulty s at d n → Led P (fault n at)

  follow : {A B : Type 0} {P : A → ℕ → Type 0} {Q : B → ℕ → Type 0} {w : Step A} {k : A → Walk B}
      → Led P w → ((x : A) (at : ℕ) → P x at → Led Q (k x at)) → Led Q (after w k)
  follow (onward {x = x} {at = at} p) h = h x at p
  follow (ended p q) h = ended p q

  told : {A : Type 0} {P Q : A → ℕ → Type 0} {w : Step A} → Led P w → ((x : A) (at : ℕ) → P x at → Q x at) → Led Q w
  told (onward {x = x} {at = at} p) h = onward (h x at p)
  told (ended p q) h = ended p q

  -- ---- one field

  -- the field that was due is passed
  record Passed (at : ℕ) (d : Due) (x to : ℕ) : Type 0 where
    over : to ≡ at + 2
    sound : Sound s to (next at d x)

  field_led : (at : ℕ) (d : Due) → IsField d → Sound s at d → Led (Passed at d) (field s (fault_of (length s) at d) at)
  unfolding field
  field_led at d due h = there (leb (at + 2) (length s)) refl
    where
      value : (f : Finding) → fault_of (length s) at d (field_at s at) ≡ f → at + 2 ≤ length s → Led (Passed at d) (tested f (field_at s at) at)
      value fine e t = onward (record { over = refl; sound = Sound.behind h t e })
      value (wrong n) e t = ended h (unsound t e)

      there : (t : Bool) → leb (at + 2) (length s) ≡ t
          → Led (Passed at d) (choose t (tested (fault_of (length s) at d (field_at s at)) (field_at s at) at) (fault 4 at))
      there true e = value (fault_of (length s) at d (field_at s at)) refl (leb-true (at + 2) (length s) e)
      there false e = ended h (missing (λ z. subst IsField z due) (leb-false (at + 2) (length s) e))

  -- ---- literals

  literal_led : (a more at : ℕ) (due : Due) → Sound s at (Due.literal a more due)
      → Led (λ l to. Sound s to (literals a more due) × (to ≡ at + 2)) (literal s a at)
  unfolding literal next fault_of
  literal_led a more at due h = follow (field_led at (Due.literal a more due) tt h) (λ x to r. onward (r.sound, r.over))

  literals_led : (a n sum at : ℕ) (due : Due) → Sound s at (literals a n due)
      → Led (λ ls to. Sound s to due × (length ls ≡ n) × (to ≡ at + 2 * n)) (running (λ _. literal s a) (λ _. 1) n sum at)
  unfolding running
  literals_led a zero sum at due h = onward (h, refl, omega arith)
  literals_led a (suc n) sum at due h =
      follow (literal_led a n at due h)
      (λ l to r. follow (literals_led a n (sum + 1) to due r.0) (λ ls last q. onward (q.0, ap suc q.1, omega (arith, r.1, q.2))))

  -- ---- clauses

  clause_led : (a b more sum at : ℕ) → Sound s at (clause_length a b more sum)
      → Led (λ c to. Sound s to (clauses a b more (sum + body_count c))) (clause s limits a b sum at)
  unfolding clause next fault_of
  clause_led a b more sum at h =
      follow (field_led at (clause_length a b more sum) tt h)
      (λ size to r. follow (field_led to (head a b (body_of size) (clauses a b more (sum + body_of size))) tt r.sound)
      (λ hd to' r'. follow (literals_led a (body_of size) 0 to' (clauses a b more (sum + body_of size)) r'.sound)
      (λ body last q. onward (sound_due (ap (λ (n : ℕ). clauses a b more (sum + n)) (sym q.1)) q.0))))

  clauses_led : (a b n sum at : ℕ) → Sound s at (clauses a b n sum)
      → Led (λ cs to. Sound s to (constraint_count a)) (running (clause s limits a b) body_count n sum at)
  unfolding running
  clauses_led a b zero sum at h = onward h
  clauses_led a b (suc n) sum at h =
      follow (clause_led a b n sum at h) (λ c to r. follow (clauses_led a b n (sum + body_count c) to r) (λ cs last q. onward q))

  -- ---- constraints

  -- as many literals as the count at this place says, and then the ways at the place behind them
  counted_led : (a end more total at x to : ℕ) → to ≡ at + 2 → Sound s to (literals a x (ways a end more (total + x) (at + 2 + 2 * x)))
      → Led (λ ls last. Sound s last (ways a end more (total + length ls) last) × (length ls ≡ x) × (at + 2 ≤ last)) (times (literal s a) x to)
  counted_led a end more total at x to e h =
      told (literals_led a x 0 to (ways a end more (total + x) (at + 2 + 2 * x)) h)
      (λ ls last r.
      let here : last ≡ at + 2 + 2 * x = omega (arith, r.2) in (
        subst₂ (λ (n k : ℕ). Sound s last (ways a end more (total + n) k)) (sym r.1) (sym here) r.0,
        r.1,
        omega arith,
      ))

  alternative_led : (a end more total at : ℕ) → Sound s at (alternative_count a end more total)
      → Led (λ ls to. Sound s to (ways a end more (total + length ls) to) × (at + 2 ≤ to)) (alternative s limits a end total at)
  unfolding alternative next fault_of
  alternative_led a end more total at h =
      follow (field_led at (alternative_count a end more total) tt h)
      (λ x to r. told (counted_led a end more total at x to r.over r.sound) (λ ls last q. (q.0, q.2)))

  no_more : (a more total at : ℕ) → Sound s at (constraints a more total)
      → Led (λ (ws : List (List Lit)) to. Sound s to (constraints a more (total + sum length ws))) (found [] at)
  no_more a more total at h = let same : total ≡ total + 0 = omega arith in onward (sound_due (ap (constraints a more) same) h)

  -- the n fields that are left at most reach up to the record's end
  alternatives_led : (a end more n total at : ℕ) → end ≤ at + 2 * n → Sound s at (ways a end more total at)
      → Led (λ ws to. Sound s to (constraints a more (total + sum length ws))) (alternatives s limits a end n total at)
  unfolding alternatives
  alternatives_led a end more zero total at few h =
      no_more a more total at (sound_due (choose_false (alternative_count a end more total) (constraints a more total) (le-ltb at end (omega arith))) h)
  alternatives_led a end more (suc n) total at few h =
      go (alternatives_led a end more n) (ltb at end) h
    where
      go : ((total' at' : ℕ) → end ≤ at' + 2 * n → Sound s at' (ways a end more total' at')
          → Led (λ ws to. Sound s to (constraints a more (total' + sum length ws))) (alternatives s limits a end n total' at'))
          → (t : Bool) → Sound s at (choose t (alternative_count a end more total) (constraints a more total))
          → Led (λ ws to. Sound s to (constraints a more (total + sum length ws)))
          (choose t (after (alternative s limits a end total at) (λ ls at'. after (alternatives s limits a end n (total + length ls) at') (λ ws. give (ls ∷ ws))))
          (found [] at))
      go later true h =
          follow (alternative_led a end more total at h)
          (λ ls to r. follow (later (total + length ls) to (omega (arith, r.1)) r.0)
          (λ ws last q. onward (sound_due (ap (constraints a more) (omega arith)) q)))
      go later false h = no_more a more total at h

  constraint_led : (a more total at : ℕ) → Sound s at (constraint_length a more total)
      → Led (λ k to. Sound s to (constraints a more (total + literal_count k))) (constraint s limits a total at)
  unfolding constraint inside next fault_of
  constraint_led a more total at h =
      follow (field_led at (constraint_length a more total) tt h)
      (λ size to r.
      let here : to ≡ at + 2 = r.over in
      let end : ℕ = to + size in
      let due : Sound s to (condition_count a end more total) = sound_due (ap (λ (k : ℕ). condition_count a (k + size) more total) (sym here)) r.sound in
      follow (field_led to (condition_count a end more total) tt due)
      (λ x to' r'. follow (counted_led a end more total to x to' r'.over r'.sound)
      (λ ls to'' q.
      let rest : Sound s to'' (ways a end more (total + x) to'') = sound_due (ap (λ (n : ℕ). ways a end more (total + n) to'') q.1) q.0 in
      follow (alternatives_led a end more (size / 2) (total + x) to'' (omega (arith, q.2)) rest)
      (λ ws last p. onward (sound_due (ap (constraints a more) (omega (arith, q.1))) p)))))

  constraints_led : (a n total at : ℕ) → Sound s at (constraints a n total)
      → Led (λ ks to. Sound s to nothing) (running (constraint s limits a) literal_count n total at)
  unfolding running
  constraints_led a zero total at h = onward h
  constraints_led a (suc n) total at h =
      follow (constraint_led a n total at h) (λ k to r. follow (constraints_led a n (total + literal_count k) to r) (λ ks last q. onward q))

  -- ---- the whole image

  both_led : (a b at : ℕ) → Sound s at (clause_count a b) → Led (λ _ to. Sound s to nothing) (clauses_and_constraints s limits a b at)
  unfolding clauses_and_constraints counted next fault_of
  both_led a b at h =
      follow (follow (field_led at (clause_count a b) tt h) (λ n to r. clauses_led a b n 0 to r.sound))
      (λ cs to r. follow (follow (field_led to (constraint_count a) tt r) (λ n to' q. constraints_led a n 0 to' q.sound))
      (λ ks last p. onward p))

  book_led : Led (λ _ to. Sound s to nothing) (book s limits atoms_at)
  unfolding book counted next fault_of
  book_led =
      follow (field_led atoms_at atoms tt front)
      (λ a to r. follow (field_led to (abducibles a) tt r.sound)
      (λ b to' r'. follow
      (follow (field_led to' (goal_count a b) tt r'.sound)
      (λ n to'' q. told (literals_led a n 0 to'' (clause_count a b) q.sound) (λ ls last p. p.0)))
      (λ goal to'' q. follow (both_led a b to'' q) (λ both last p. onward p))))

  -- a place with sound fields before it is not past the image
  pub sound_within : {at : ℕ} {d : Due} → atoms_at ≤ length s → Sound s at d → at ≤ length s
  sound_within long front = long
  sound_within long (Sound.behind h there is_fine) = there

  ends_led : (at : ℕ) → atoms_at ≤ length s → Sound s at nothing → Led (λ _ to. Sound s to nothing × (to ≡ length s)) (ends s at)
  unfolding ends
  ends_led at long h = go (eqb at (length s)) refl
    where
      go : (t : Bool) → eqb at (length s) ≡ t → Led (λ _ to. Sound s to nothing × (to ≡ length s)) (choose t (found (tt {0}) at) (fault 4 at))
      go true e = onward (h, eqb-true at (length s) e)
      go false e =
          let most : at ≤ length s = sound_within long h in
          let other : at ≡ length s → ⊥ = eqb-false at (length s) e in
          ended h (left_over (omega arith))

  pub whole_led : atoms_at ≤ length s → Led (λ _ to. Sound s to nothing × (to ≡ length s)) (whole s limits atoms_at)
  unfolding whole
  whole_led long = follow book_led (λ b to r. follow (ends_led to long r) (λ _ last q. onward q))
