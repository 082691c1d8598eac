-- Marks taken off the trail.
-- Assumes nothing.
use Rattle.std.specs.Prelude.{ℕ, zero, suc, ◌+◌, ◌-◌, ◌*◌, ◌/◌, ◌≤◌, ◌<◌, ◌≡◌, refl, List, length, get_or, set}
use Rattle.std.proofs.Common.{arith, sym, ap, subst, ◌∙◌, length-set, get_or-set_other}
use Rattle.area.specs.Area as layout
use Rattle.memory.specs.Pieces.{undone, Undoable}

-- while they are taken off: `left` entries are to come
pub record Undoing (work₀ : List ℕ) (marked down : ℕ) (work : List ℕ) (m : ℕ) : Type 0 where
  pub left : ℕ
  pub is : m ≡ down + layout.trail_width * left
  pub same : undone work down left ≡ undone work₀ down ((marked - down) / layout.trail_width)
  pub size : length work ≡ length work₀
  pub most : m ≤ layout.frames
  pub literals : (j : ℕ) → j < left → get_or work (down + layout.trail_width * j + layout.cell_width) 0 < layout.literal_numbers

pub undoing : (work : List ℕ) (marked down : ℕ) → Undoable work marked down → Undoing work marked down work marked
undoing work marked down u = record {
  left = u.count;
  is = u.is;
  same = ap (undone work down) (omega (arith, u.is));
  size = refl;
  most = u.high;
  literals = u.literals;
}

pub undoing_place : (work₀ : List ℕ) (marked down : ℕ) (work : List ℕ) (m : ℕ) → Undoing work₀ marked down work m → down < m
    → (layout.trail_width ≤ m) × (get_or work (m - layout.trail_width + layout.cell_width) 0 < layout.literal_numbers) × (m ≤ layout.frames)
undoing_place work₀ marked down work m u h = go u.left u.is u.literals
  where
    go : (n : ℕ) → m ≡ down + layout.trail_width * n → ((j : ℕ) → j < n → get_or work (down + layout.trail_width * j + layout.cell_width) 0 < layout.literal_numbers) → (layout.trail_width ≤ m) × (get_or work (m - layout.trail_width + layout.cell_width) 0 < layout.literal_numbers) × (m ≤ layout.frames)
    go zero i l = absurd (omega arith)
    go (suc n) i l = (omega arith, subst (λ (x : ℕ). get_or work x 0 < layout.literal_numbers) (omega arith) (l n (omega arith)), u.most)

pub undoing_next : (work₀ : List ℕ) (marked down : ℕ) (work : List ℕ) (m p : ℕ) → layout.trail ≤ down → Undoing work₀ marked down work m → down < m → p ≡ get_or work (m - layout.trail_width + layout.cell_width) 0 / 2
    → Undoing work₀ marked down (set work p 0) (m - layout.trail_width)
unfolding undone
undoing_next work₀ marked down work m p low u h e = go u.left u.is u.same u.literals
  where
    go : (n : ℕ) → m ≡ down + layout.trail_width * n → undone work down n ≡ undone work₀ down ((marked - down) / layout.trail_width) → ((j : ℕ) → j < n → get_or work (down + layout.trail_width * j + layout.cell_width) 0 < layout.literal_numbers)
        → Undoing work₀ marked down (set work p 0) (m - layout.trail_width)
    go zero i q l = absurd (omega arith)
    go (suc n) i q l =
        let at : down + layout.trail_width * n + layout.cell_width ≡ m - layout.trail_width + layout.cell_width = omega arith in
        let is : get_or work (down + layout.trail_width * n + layout.cell_width) 0 / 2 ≡ p = ap (λ (x : ℕ). get_or work x 0 / 2) at ∙ sym e in
        let small : get_or work (down + layout.trail_width * n + layout.cell_width) 0 < layout.literal_numbers = l n (omega arith) in
        record {
          left = n;
          is = omega arith;
          same = ap (λ (x : ℕ). undone (set work x 0) down n) (sym is) ∙ q;
          size = length-set work p 0 ∙ u.size;
          most = omega (arith, u.most);
          literals = λ j k. subst (λ (x : ℕ). x < layout.literal_numbers) (sym (get_or-set_other work p (down + layout.trail_width * j + layout.cell_width) 0 0 (λ z. omega (arith, z, is, small)))) (l j (omega arith));
        }

pub undoing_done : (work₀ : List ℕ) (marked down : ℕ) (work : List ℕ) (m : ℕ) → Undoing work₀ marked down work m → m ≤ down → work ≡ undone work₀ down ((marked - down) / layout.trail_width)
unfolding undone
undoing_done work₀ marked down work m u h = go u.left u.is u.same
  where
    go : (n : ℕ) → m ≡ down + layout.trail_width * n → undone work down n ≡ undone work₀ down ((marked - down) / layout.trail_width) → work ≡ undone work₀ down ((marked - down) / layout.trail_width)
    go zero i q = q
    go (suc n) i q = absurd (omega arith)
