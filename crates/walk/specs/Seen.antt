-- Each walk of `Decode`, seen as the reader's functions answer it: the fields it goes through, and the literals it counts.
-- Assumes nothing.
use Prim.Native.Nat.{ℕ, zero, suc, ◌+◌, ◌-◌, ◌*◌, ◌/◌, ◌≤◌, ◌<◌}
use Rattle.std.specs.Prelude.{◌≡◌}
use Rattle.std.proofs.Math.Path.{refl, ap}
use Rattle.std.proofs.Common.{◌∙◌, subst, lt-ltb, le-ltb}
use mathlib.Core.List.{List, ◌∷◌}
use native.Mathlib.Omega.{arith}
use Rattle.base.specs.Bools.{choose_true, choose_false}
use Rattle.std.proofs.Math.ListN.{length}
use Rattle.base.specs.paper.Lists.{sum}
use Rattle.image.specs.paper.Book.{Lit, body_count, literal_count}
use Rattle.image.specs.paper.Walk.{Step, found, fault, Walk, after, give, field, times}
use Rattle.image.specs.paper.Faults.{Limits, wrong_lit, wrong_head, wrong_size, wrong_clause, wrong_conditions, wrong_alternative, body_of}
use Rattle.image.specs.paper.Decode.{lit_of, literal, clause, alternative, alternatives, inside, constraint}
use Rattle.image.specs.Spell.{of_lits}
use Rattle.image.specs.Finds.{finds_clause, finds_literals, alternative_finds, finds_constraint}
use Rattle.faults.specs.Taking.{seen, poured}
use Rattle.walk.specs.Seeing.{seen_found, seen_fault}
use Rattle.base.specs.Flat.{sum_ones}

-- a literal is seen as the field that it is, by whatever number
module _ (s : List ℕ) (atoms at n : ℕ) where
  pub literal_seen : seen (λ _. n) (literal s atoms at) ≡ seen (λ _. n) (field s (wrong_lit atoms) at)
  unfolding literal
  literal_seen = go (field s (wrong_lit atoms) at)
    where
      go : (st : Step ℕ) → seen (λ _. n) (after st (λ x. give (lit_of x))) ≡ seen (λ _. n) st
      go (found x next) = refl
      go (fault m p) = refl

-- literals seen as their number, whatever they go into
counted : {B : Type 0} (weight : B → ℕ) (make : List Lit → B) → ((ls : List Lit) → weight (make ls) ≡ length ls)
    → (st : Step (List Lit)) → seen weight (after st (λ ls. give (make ls))) ≡ seen (λ ls. 0 + sum (λ _. 1) ls) st
counted weight make e (found ls at) =
    let h : sum (λ _. 1) ls ≡ length ls = sum_ones ls in
    let k : weight (make ls) ≡ length ls = e ls in
    let q : weight (make ls) ≡ 0 + sum (λ _. 1) ls = omega arith in
    ap (λ (n : ℕ). found n at) q
counted weight make e (fault n at) = refl

module _ (image : List ℕ) (most : Limits) (atoms abducibles total at : ℕ) where
  abbrev clause_size : Step ℕ
  clause_size = field image (wrong_clause (length image - (at + 2)) most.bodies total) at

  pub clause_no_size : {n p : ℕ} → clause_size ≡ fault n p → clause image most atoms abducibles total at ≡ fault n p
  unfolding clause
  clause_no_size e = rw e

  pub clause_no_head : {size head n p : ℕ} → clause_size ≡ found size head → field image (wrong_head atoms abducibles) head ≡ fault n p
      → clause image most atoms abducibles total at ≡ fault n p
  unfolding clause
  clause_no_head e f = rw (e, f)

  pub clause_seen : {size head x body : ℕ} → clause_size ≡ found size head → field image (wrong_head atoms abducibles) head ≡ found x body
      → seen body_count (clause image most atoms abducibles total at) ≡ poured (λ _. literal image atoms) (λ _. 1) (body_of size) 0 body
  unfolding clause poured
  clause_seen {size = size} {x = x} {body = body} e f =
      rw (e, f) (counted body_count (λ ls. record { head = x; body = ls }) (λ ls. refl) (times (literal image atoms) (body_of size) body))

-- what a record weighs stays within the limit of its total
pub clause_total : (s : List ℕ) (most : Limits) (atoms abducibles total at y next : ℕ)
    → seen body_count (clause s most atoms abducibles total at) ≡ found y next → total + y ≤ most.bodies
clause_total s most atoms abducibles total at y next e =
    let f = seen_found body_count (clause s most atoms abducibles total at) y next e in
    subst (λ (k : ℕ). total + k ≤ most.bodies) f.2 ((finds_clause s most atoms abducibles total).finds at f.0 next f.1).is_fine.fits

-- ---- an alternative, and all of a record

module _ (image : List ℕ) (most : Limits) (atoms end : ℕ) where
  abbrev way_count : ℕ → ℕ → Step ℕ
  way_count total at = field image (wrong_alternative (end - (at + 2)) most.literals total) at

  pub way_no_count : (total at : ℕ) {n p : ℕ} → way_count total at ≡ fault n p → alternative image most atoms end total at ≡ fault n p
  unfolding alternative
  way_no_count total at e = rw e

  pub way_seen : (total at : ℕ) {count next : ℕ} → way_count total at ≡ found count next
      → seen length (alternative image most atoms end total at) ≡ poured (λ _. literal image atoms) (λ _. 1) count 0 next
  unfolding alternative poured
  way_seen total at {count = count} {next = next} e =
      ap (λ (st : Step ℕ). seen length (after st (λ n. times (literal image atoms) n))) e ∙ go (times (literal image atoms) count next)
    where
      go : (st : Step (List Lit)) → seen length st ≡ seen (λ ls. 0 + sum (λ _. 1) ls) st
      go (found ls m) =
          let h : sum (λ _. 1) ls ≡ length ls = sum_ones ls in
          let q : length ls ≡ 0 + sum (λ _. 1) ls = omega arith in
          ap (λ (k : ℕ). found k m) q
      go (fault n p) = refl

  -- an alternative that was found lies ahead, within its record and its limit
  pub record Ahead (total at y next : ℕ) : Type 0 where
    pub fits : total + y ≤ most.literals
    pub on : at + 2 ≤ next
    pub within : next ≤ end

  pub way_ahead : (total at y next : ℕ) → seen length (alternative image most atoms end total at) ≡ found y next → Ahead total at y next
  way_ahead total at y next e =
      let f = seen_found length (alternative image most atoms end total at) y next e in
      let r = alternative_finds image most atoms end total at f.0 next f.1 in
      let n : length f.0 ≡ y = f.2 in
      let b : next ≡ at + 2 * suc (length (of_lits f.0)) = r.behind in
      let t : total + length f.0 ≤ most.literals = r.fits in
      record { fits = omega arith; on = omega arith; within = r.within }

  -- the alternatives from here on, seen as the sum of all literals, those from before included
  unfoldable pub ways_seen : ℕ → ℕ → Walk ℕ
  ways_seen n total at = seen (λ ways. total + sum length ways) (alternatives image most atoms end n total at)

  pub ways_done : (n total at : ℕ) → end ≤ at → ways_seen n total at ≡ found total at
  unfolding ways_seen alternatives
  ways_done zero total at h = let q : total + 0 ≡ total = omega arith in ap (λ (k : ℕ). found k at) q
  ways_done (suc n) total at h =
      let q : total + 0 ≡ total = omega arith in
      ap (seen (λ ways. total + sum length ways)) (choose_false _ _ (le-ltb at end h)) ∙ ap (λ (k : ℕ). found k at) q

  ways_step : (n total at : ℕ) → at < end
      → alternatives image most atoms end (suc n) total at
      ≡ after (alternative image most atoms end total at) (λ ls at'. after (alternatives image most atoms end n (total + length ls) at') (λ ways. give (ls ∷ ways)))
  unfolding alternatives
  ways_step n total at h = choose_true _ _ (lt-ltb at end h)

  pub ways_fault : (n total at m p : ℕ) → at < end → seen length (alternative image most atoms end total at) ≡ fault m p → ways_seen (suc n) total at ≡ fault m p
  unfolding ways_seen
  ways_fault n total at m p h e =
      ap (seen (λ ways. total + sum length ways)) (ways_step n total at h)
      ∙ ap (λ (st : Step (List Lit)). seen (λ ways. total + sum length ways) (after st (λ ls at'. after (alternatives image most atoms end n (total + length ls) at') (λ ways. give (ls ∷ ways)))))
      (seen_fault length (alternative image most atoms end total at) m p e)

  pub ways_more : (n total at y next : ℕ) → at < end → seen length (alternative image most atoms end total at) ≡ found y next
      → ways_seen (suc n) total at ≡ ways_seen n (total + y) next
  unfolding ways_seen
  ways_more n total at y next h e =
      let f = seen_found length (alternative image most atoms end total at) y next e in
      ap (seen (λ ways. total + sum length ways)) (ways_step n total at h)
      ∙ ap (λ (st : Step (List Lit)). seen (λ ways. total + sum length ways) (after st (λ ls at'. after (alternatives image most atoms end n (total + length ls) at') (λ ways. give (ls ∷ ways)))))
      f.1
      ∙ joins f.0 (alternatives image most atoms end n (total + length f.0) next)
      ∙ ap (λ (k : ℕ). ways_seen n (total + k) next) f.2
    where
      joins : (ls : List Lit) (st : Step (List (List Lit)))
          → seen (λ ways. total + sum length ways) (after st (λ ways. give (ls ∷ ways))) ≡ seen (λ ways. total + length ls + sum length ways) st
      joins ls (found ways m) =
          let q : total + (length ls + sum length ways) ≡ total + length ls + sum length ways = omega arith in
          ap (λ (k : ℕ). found k m) q
      joins ls (fault n p) = refl

-- From `start` with `before` literals the walk comes to `at` with `total`, whatever number of fields it was told.
module _ (image : List ℕ) (most : Limits) (atoms end before start : ℕ) where
  abbrev pub Onward : ℕ → ℕ → Type 0
  Onward total at =
      (n : ℕ) → end ≤ start + 2 * n → (m : ℕ) × (end ≤ at + 2 * m) × (ways_seen image most atoms end n before start ≡ ways_seen image most atoms end m total at)

  pub onward_start : Onward before start
  onward_start n h = (n, h, refl)

  pub onward_more : (total at y next : ℕ) → Onward total at → at < end → seen length (alternative image most atoms end total at) ≡ found y next
      → Onward (total + y) next
  onward_more total at y next o h e n k = go (o n k).0 (o n k).1 (o n k).2
    where
      go : (m : ℕ) → end ≤ at + 2 * m → ways_seen image most atoms end n before start ≡ ways_seen image most atoms end m total at
          → (j : ℕ) × (end ≤ next + 2 * j) × (ways_seen image most atoms end n before start ≡ ways_seen image most atoms end j (total + y) next)
      go zero b q = absurd (omega arith)
      go (suc m) b q =
          let on : at + 2 ≤ next = (way_ahead image most atoms end total at y next e).on in
          (m, omega arith, q ∙ ways_more image most atoms end m total at y next h e)

  pub onward_fault : (total at m p : ℕ) → Onward total at → at < end → seen length (alternative image most atoms end total at) ≡ fault m p
      → (n : ℕ) → end ≤ start + 2 * n → ways_seen image most atoms end n before start ≡ fault m p
  onward_fault total at m p o h e n k = go (o n k).0 (o n k).1 (o n k).2
    where
      go : (j : ℕ) → end ≤ at + 2 * j → ways_seen image most atoms end n before start ≡ ways_seen image most atoms end j total at
          → ways_seen image most atoms end n before start ≡ fault m p
      go zero b q = absurd (omega arith)
      go (suc j) b q = q ∙ ways_fault image most atoms end j total at m p h e

  pub onward_done : (total at : ℕ) → Onward total at → end ≤ at → (n : ℕ) → end ≤ start + 2 * n → ways_seen image most atoms end n before start ≡ found total at
  onward_done total at o h n k = (o n k).2 ∙ ways_done image most atoms end (o n k).0 total at h

-- ---- a constraint

-- literals that were found lie ahead
pub lits_ahead : (s : List ℕ) (atoms count at y next : ℕ) → poured (λ _. literal s atoms) (λ _. 1) count 0 at ≡ found y next → at ≤ next
unfolding poured
lits_ahead s atoms count at y next e =
    let f = seen_found (λ ls. 0 + sum (λ _. 1) ls) (times (literal s atoms) count at) y next e in
    let b : next ≡ at + 2 * length (of_lits f.0) = ((finds_literals s atoms count).finds at f.0 next f.1).behind in
    omega arith

module _ (image : List ℕ) (most : Limits) (atoms end n total at : ℕ) where
  abbrev condition_count : Step ℕ
  condition_count = field image (wrong_conditions (end - (at + 2)) most.literals total) at

  pub inside_no_count : {m p : ℕ} → condition_count ≡ fault m p → inside image most atoms end n total at ≡ fault m p
  unfolding inside
  inside_no_count e = rw e

  pub inside_no_lits : {count next m p : ℕ} → condition_count ≡ found count next
      → poured (λ _. literal image atoms) (λ _. 1) count 0 next ≡ fault m p → inside image most atoms end n total at ≡ fault m p
  unfolding inside poured
  inside_no_lits {count = count} {next = next} {m = m} {p = p} e f =
      rw (e, seen_fault (λ ls. 0 + sum (λ _. 1) ls) (times (literal image atoms) count next) m p f)

  pub inside_seen : {count next y ways : ℕ} → condition_count ≡ found count next
      → poured (λ _. literal image atoms) (λ _. 1) count 0 next ≡ found y ways
      → seen (λ k. total + literal_count k) (inside image most atoms end n total at) ≡ ways_seen image most atoms end n (total + count) ways
  unfolding inside poured ways_seen
  inside_seen {count = count} {next = next} {y = y} {ways = ways} e f =
      let g = seen_found (λ ls. 0 + sum (λ _. 1) ls) (times (literal image atoms) count next) y ways f in
      let c : length g.0 ≡ count = ((finds_literals image atoms count).finds next g.0 ways g.1).is_fine.count in
      rw (e, g.1) (go g.0 c (alternatives image most atoms end n (total + count) ways))
    where
      go : (ls : List Lit) → length ls ≡ count → (st : Step (List (List Lit)))
          → seen (λ k. total + literal_count k) (after st (λ ws. give (record { conditions = ls; alternatives = ws })))
          ≡ seen (λ ws. total + count + sum length ws) st
      go ls c (found ws m) =
          let q : total + (length ls + sum length ws) ≡ total + count + sum length ws = omega arith in
          ap (λ (k : ℕ). found k m) q
      go ls c (fault m p) = refl

module _ (s : List ℕ) (most : Limits) (atoms total at : ℕ) where
  pub constraint_no_size : {n p : ℕ} → field s (wrong_size (length s - (at + 2))) at ≡ fault n p → constraint s most atoms total at ≡ fault n p
  unfolding constraint
  constraint_no_size e = rw e

  pub constraint_inside : {size next : ℕ} → field s (wrong_size (length s - (at + 2))) at ≡ found size next
      → constraint s most atoms total at ≡ inside s most atoms (next + size) (size / 2) total next
  unfolding constraint
  constraint_inside e = rw e

pub constraint_total : (s : List ℕ) (most : Limits) (atoms total at y next : ℕ)
    → seen (λ k. total + literal_count k) (constraint s most atoms total at) ≡ found y next → y ≤ most.literals
constraint_total s most atoms total at y next e =
    let f = seen_found (λ k. total + literal_count k) (constraint s most atoms total at) y next e in
    subst (λ (n : ℕ). n ≤ most.literals) f.2 ((finds_constraint s most atoms total).finds at f.0 next f.1).is_fine.fits
