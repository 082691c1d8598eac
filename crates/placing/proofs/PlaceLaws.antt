-- An image that is refused is refused as paper/Places says in words.
-- Assumes nothing.
use Rattle.std.specs.Prelude.{ℕ, ◌-◌, ◌≤◌, ◌≡◌, Bool, true, false, List, leb, eqb, length, get_or}
use Rattle.std.proofs.Math.Path.{refl, subst, subst₂}
use Rattle.std.proofs.Common.{arith}
use borrow.Author.Tests.{leb-true, leb-false, eqb-true, eqb-false}
use Rattle.base.specs.paper.Bools.{choose}
use Rattle.image.specs.paper.Front.{atoms_at, version, version_at}
use Rattle.image.specs.paper.Book.{Book}
use Rattle.image.specs.paper.Walk.{Step, found, Finding, fine, wrong, unless}
use Rattle.image.specs.paper.Faults.{limits}
use Rattle.image.specs.paper.Loops.{loop_free}
use Rattle.image.specs.paper.Decode.{whole, length_field, wrong_front, front_place, loop_place, accepted, refused, in_order, decode}
use Rattle.image.specs.FaultLaws.{unless_held}
use Rattle.image.specs.LoopLaws.{Closed}
use Rattle.image.specs.Accepted.{closed}
use Rattle.image.specs.Written.{whole_found}
use Rattle.placing.specs.paper.Places.{nothing, Sound, Placed, short, unknown, other_length}
use Rattle.placing.proofs.Sounding.{Led, onward, ended, sound_at, whole_led}
use Rattle.placing.proofs.FirstLoop.{first_on_loop}

module _ (s : List ℕ) where
  pub front_long : wrong_front s ≡ fine → atoms_at ≤ length s
  unfolding wrong_front
  front_long e = leb-true atoms_at (length s) (unless_held (leb atoms_at (length s)) 1 _ e)

  -- a fault of the front
  front_placed : (m : ℕ) → wrong_front s ≡ wrong m → Placed s m (front_place s m)
  unfolding wrong_front front_place
  front_placed m e = long (leb atoms_at (length s)) refl e
    where
      of : (k : ℕ) → Placed s k (front_place s k) → wrong k ≡ wrong m → Placed s m (front_place s m)
      of k p q = let z : k ≡ m = cc in subst (λ (n : ℕ). Placed s n (front_place s n)) z p

      size : (t : Bool) → atoms_at ≤ length s → get_or s version_at 0 ≡ version → eqb (length_field s) (length s - atoms_at) ≡ t → unless t 3 fine ≡ wrong m
          → Placed s m (front_place s m)
      size true l v f q = let z : ◌≡◌ {A = ℕ} 0 1 = cc in absurd (omega arith)
      size false l v f q = of 3 (other_length l v (eqb-false (length_field s) (length s - atoms_at) f)) q

      first : (t : Bool) → atoms_at ≤ length s → eqb (get_or s version_at 0) version ≡ t
          → unless t 2 (unless (eqb (length_field s) (length s - atoms_at)) 3 fine) ≡ wrong m → Placed s m (front_place s m)
      first true l f q = size (eqb (length_field s) (length s - atoms_at)) l (eqb-true (get_or s version_at 0) version f) refl q
      first false l f q = of 2 (unknown l (eqb-false (get_or s version_at 0) version f)) q

      long : (t : Bool) → leb atoms_at (length s) ≡ t
          → unless t 1 (unless (eqb (get_or s version_at 0) version) 2 (unless (eqb (length_field s) (length s - atoms_at)) 3 fine)) ≡ wrong m
          → Placed s m (front_place s m)
      long true f q = first (eqb (get_or s version_at 0) version) (leb-true atoms_at (length s) f) refl q
      long false f q = of 1 (short (leb-false atoms_at (length s) f)) q

  -- what the whole walk finds
  pub whole_closed : (b : Book) (to : ℕ) → whole s limits atoms_at ≡ found b to → Closed b
  whole_closed b to e = closed b (whole_found s limits atoms_at b to e).0.is_fine

  loop_placed : (b : Book) (to : ℕ) → wrong_front s ≡ fine → whole s limits atoms_at ≡ found b to → Sound s to nothing → to ≡ length s → loop_free b ≡ false
      → Placed s 9 (loop_place b)
  unfolding loop_place
  loop_placed b to p w h e free =
      let f = first_on_loop b (whole_closed b to w) free in
      Placed.loop p (sound_at s e h) (subst (λ (k : ℕ). whole s limits atoms_at ≡ found b k) e w) f.1

  pub placed : (n at : ℕ) → decode s ≡ refused n at → Placed s n at
  unfolding decode in_order
  placed n at e = go (wrong_front s) (whole s limits atoms_at) refl refl e
    where
      same : {m p : ℕ} → refused m p ≡ refused n at → Placed s m p → Placed s n at
      same {m} {p} q h = let z : m ≡ n = cc in let y : p ≡ at = cc in subst₂ (Placed s) z y h

      last : (b : Book) (to : ℕ) (t : Bool) → wrong_front s ≡ fine → whole s limits atoms_at ≡ found b to → Sound s to nothing × (to ≡ length s)
          → loop_free b ≡ t → choose t (accepted b) (refused 9 (loop_place b)) ≡ refused n at → Placed s n at
      last b to true p w h f q = let z : ◌≡◌ {A = ℕ} 0 1 = cc in absurd (omega arith)
      last b to false p w h f q = same q (loop_placed b to p w h.0 h.1 f)

      walked : (w : Step Book) → wrong_front s ≡ fine → whole s limits atoms_at ≡ w → Led s (λ _ to. Sound s to nothing × (to ≡ length s)) w
          → in_order s fine w ≡ refused n at → Placed s n at
      walked w p e (onward {x = b} {at = to} h) q = last b to (loop_free b) p e h refl q
      walked w p e (ended h k) q = same q (Placed.fault p h k)

      go : (f : Finding) (w : Step Book) → wrong_front s ≡ f → whole s limits atoms_at ≡ w → in_order s f w ≡ refused n at → Placed s n at
      go (wrong m) w p e q = same q (front_placed m p)
      go fine w p e q = walked w p e (subst (Led s (λ _ to. Sound s to nothing × (to ≡ length s))) e (whole_led s (front_long p))) q
