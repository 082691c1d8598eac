-- What paper/Places says in words holds of one number and one place at most, and the image is refused with them: a fault cannot be passed, so
-- that the fields before two faults, or before a fault and the image's end, are the same.
-- Assumes nothing.
use Rattle.std.specs.Prelude.{ℕ, ◌+◌, ◌*◌, ◌≤◌, ◌<◌, true, false, ltb, eqb}
use Rattle.std.proofs.Math.Path.{◌≡◌, refl, ap, ap₂}
use Rattle.std.proofs.Common.{◌∙◌, subst, subst₂, ⊎_elim}
use mathlib.Core.List.{List}
use native.Mathlib.Omega.{arith}
use Rattle.std.proofs.Math.ListN.{length}
use borrow.Author.Tests.{ltb-true, ltb-false, le-leb, lt-leb, eqb-true, eqb-false, eq-eqb, ne_eqb}
use Rattle.base.specs.Bools.{decide, choose_false}
use Rattle.image.specs.paper.Front.{atoms_at}
use Rattle.image.specs.paper.Book.{Clause, Book}
use Rattle.image.specs.paper.Walk.{Step, found, Finding, fine, wrong, field_at}
use Rattle.image.specs.paper.Faults.{limits}
use Rattle.image.specs.paper.Decode.{whole, wrong_front, front_place, record_place, loop_place, accepted, refused, in_order, decode}
use Rattle.placing.specs.paper.Places.{Due, nothing, next, fault_of, Sound, front, Faulty, missing, unsound, left_over, FirstOnLoop, Placed, short, unknown, other_length}
use Rattle.placing.proofs.Sounding.{Led, onward, ended, sound_at, sound_within, whole_led}
use Rattle.placing.proofs.FirstLoop.{first_before, first_unfree}
use Rattle.placing.proofs.PlaceLaws.{front_long, whole_closed}

module _ (s : List ℕ) where
  -- ---- what is due at a place

  -- places are two bytes apart, from A on
  sound_step : {at : ℕ} {d : Due} → Sound s at d → (k : ℕ) × (at ≡ atoms_at + 2 * k)
  sound_step front = (0, refl)
  sound_step (Sound.behind h there is_fine) = let r = sound_step h in (r.0 + 1, omega (arith, r.1))

  due_one : {p q : ℕ} {d e : Due} → Sound s p d → Sound s q e → p ≡ q → d ≡ e
  due_one front front same = refl
  due_one front (Sound.behind g t f) same = absurd (omega (arith, (sound_step g).1))
  due_one (Sound.behind h t f) front same = absurd (omega (arith, (sound_step h).1))
  due_one (Sound.behind {at = p} h t f) (Sound.behind {at = q} g t' f') same =
      let before : p ≡ q = omega arith in
      ap₂ (λ (k : ℕ) (d : Due). next k d (field_at s k)) before (due_one h g before)

  -- ---- a fault cannot be passed

  -- the field that is due is there and has no fault
  record Clear (at : ℕ) (d : Due) : Type 0 where
    there : at + 2 ≤ length s
    is_fine : fault_of (length s) at d (field_at s at) ≡ fine

  -- each field before a sound place is clear
  clear : {p q : ℕ} {d e : Due} → Sound s p d → Sound s q e → p < q → Clear p d
  clear h front less = absurd (omega (arith, (sound_step h).1))
  clear {p} {d = d} h (Sound.behind {at = at} {d = e} g t f) less =
      ⊎_elim (λ (k : eqb at p ≡ true). last (eqb-true at p k)) (λ (k : eqb at p ≡ false). clear h g (earlier (eqb-false at p k))) (decide (eqb at p))
    where
      last : at ≡ p → Clear p d
      last same = subst₂ Clear same (due_one g h same) (record { there = t; is_fine = f })

      earlier : (at ≡ p → ⊥) → p < at
      earlier other = omega (arith, (sound_step h).1, (sound_step g).1)

  faulty_stays : {at n : ℕ} {d : Due} → Faulty s at d n → Clear at d → ⊥
  unfolding fault_of
  faulty_stays (missing some out) c = omega (arith, c.there)
  faulty_stays (unsound t e) c = let k = c.is_fine in let z : ◌≡◌ {A = ℕ} 0 1 = cc in omega arith
  faulty_stays (left_over l) c = let k = c.is_fine in let z : ◌≡◌ {A = ℕ} 0 1 = cc in omega arith

  -- what is due at a place has one fault
  faulty_one : {at m n : ℕ} {d e : Due} → Faulty s at d m → Faulty s at e n → d ≡ e → m ≡ n
  unfolding fault_of
  faulty_one (missing some out) (missing some' out') same = refl
  faulty_one (missing some out) (unsound t e) same = absurd (omega arith)
  faulty_one (missing some out) (left_over l) same = refl
  faulty_one (unsound t e) (missing some out) same = absurd (omega arith)
  faulty_one (unsound t e) (unsound t' e') same = cc
  faulty_one (unsound t e) (left_over l) same = cc
  faulty_one (left_over l) (missing some out) same = refl
  faulty_one (left_over l) (unsound t e) same = cc
  faulty_one (left_over l) (left_over l') same = refl

  -- a sound place does not lie behind a fault
  not_behind : {p q m : ℕ} {d e : Due} → Sound s p d → Faulty s p d m → Sound s q e → q ≤ p
  not_behind {p} {q} h f g = ⊎_elim (λ k. absurd (faulty_stays f (clear h g (ltb-true p q k)))) (λ k. ltb-false p q k) (decide (ltb p q))

  same_place : {p q m n : ℕ} {d e : Due} → Sound s p d → Faulty s p d m → Sound s q e → Faulty s q e n → p ≡ q
  same_place h f g k = omega (arith, not_behind h f g, not_behind g k h)

  same_fault : {p q m n : ℕ} {d e : Due} → Sound s p d → Faulty s p d m → Sound s q e → Faulty s q e n → (m ≡ n) × (p ≡ q)
  same_fault {m = m} {d = d} h f g k =
      let here = same_place h f g k in
      (faulty_one (subst (λ (at : ℕ). Faulty s at d m) here f) k (due_one h g here), here)

  -- where all fields up to the image's end are sound, none has a fault
  none_faulty : {at n : ℕ} {d : Due} → atoms_at ≤ length s → Sound s (length s) nothing → Sound s at d → Faulty s at d n → ⊥
  none_faulty {at} long w h f =
      let here : at ≡ length s = omega (arith, not_behind h f w, sound_within s long h) in
      go f here (due_one h w here)
    where
      go : {n : ℕ} {d : Due} → Faulty s at d n → at ≡ length s → d ≡ nothing → ⊥
      go (missing some out) here last = some last
      go (unsound t e) here last = omega arith
      go (left_over l) here last = omega arith

  -- ---- the refusal

  front_refused : (n : ℕ) → wrong_front s ≡ wrong n → decode s ≡ refused n (front_place s n)
  unfolding decode in_order
  front_refused n e = ap (λ (f : Finding). in_order s f (whole s limits atoms_at)) e

  fault_refused : (n at : ℕ) (d : Due) → wrong_front s ≡ fine → Sound s at d → Faulty s at d n → decode s ≡ refused n at
  unfolding decode in_order
  fault_refused n at d e h f = ap (λ (f : Finding). in_order s f (whole s limits atoms_at)) e ∙ go (whole_led s (front_long s e))
    where
      go : {w : Step Book} → Led s (λ _ to. Sound s to nothing × (to ≡ length s)) w → in_order s fine w ≡ refused n at
      go (onward r) = absurd (none_faulty (front_long s e) (sound_at s r.1 r.0) h f)
      go (ended g k) = let same = same_fault g k h f in ap₂ refused same.0 same.1

  loop_refused : (b : Book) (before : List Clause) (c : Clause) → wrong_front s ≡ fine → whole s limits atoms_at ≡ found b (length s) → FirstOnLoop b before c
      → decode s ≡ refused 9 (record_place b before)
  unfolding decode in_order loop_place
  loop_refused b before c e w f =
      let shut = whole_closed s b (length s) w in
      ap₂ (in_order s) e w
      ∙ choose_false (accepted b) (refused 9 (loop_place b)) (first_unfree b shut f)
      ∙ ap (λ (cs : List Clause). refused 9 (record_place b cs)) (first_before b shut f)

  -- An image is refused with the number and the place of which the words hold.
  pub placed_refused : (n at : ℕ) → Placed s n at → decode s ≡ refused n at
  unfolding wrong_front front_place
  placed_refused n at (short h) = front_refused 1 (simp (lt-leb _ _ h))
  placed_refused n at (unknown h v) = front_refused 2 (simp (le-leb _ _ h, ne_eqb _ _ v))
  placed_refused n at (other_length h v l) = front_refused 3 (simp (le-leb _ _ h, eq-eqb _ _ v, ne_eqb _ _ l))
  placed_refused n at (Placed.fault {d = d} e h f) = fault_refused n at d e h f
  placed_refused n at (Placed.loop {b = b} {before = before} {c = c} e h w f) = loop_refused b before c e w f
