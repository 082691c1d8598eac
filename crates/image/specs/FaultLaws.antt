-- Laws of the faults: what a value that has none is.
-- Assumes nothing.
use Rattle.std.specs.Prelude.{ℕ, ◌+◌, ◌*◌, ◌/◌, ◌%◌, ◌≤◌, ◌<◌, Bool, true, false, leb, ltb, eqb}
use mathlib.Core.Path.{◌≡◌, refl, sym}
use Rattle.std.proofs.Common.{leb-true, ltb-true, eqb-true, le-leb, lt-ltb, eq-eqb}
use Rattle.image.specs.paper.Walk.{Finding, fine, wrong, unless, and_then}
use Rattle.image.specs.paper.Faults.{wrong_atoms, wrong_abducibles, wrong_count, wrong_lit, wrong_head, wrong_size, wrong_clause, wrong_conditions, wrong_alternative, body_of}

abbrev is_fine : Finding → Type 0
is_fine fine = Unit {0}
is_fine (wrong n) = ⊥

-- a rung that leaves a value fine held, and so did those behind it
pub unless_held : (t : Bool) (n : ℕ) (next : Finding) → unless t n next ≡ fine → t ≡ true
unless_held true n next e = refl
unless_held false n next e = absurd (mathlib.Core.Path.subst is_fine (sym e) tt)

pub unless_next : (t : Bool) (n : ℕ) (next : Finding) → unless t n next ≡ fine → next ≡ fine
unless_next true n next e = e
unless_next false n next e = absurd (mathlib.Core.Path.subst is_fine (sym e) tt)

pub first_fine : (f g : Finding) → and_then f g ≡ fine → f ≡ fine
first_fine fine g e = refl
first_fine (wrong n) g e = absurd (mathlib.Core.Path.subst is_fine (sym e) tt)

pub next_fine : (f g : Finding) → and_then f g ≡ fine → g ≡ fine
next_fine fine g e = e
next_fine (wrong n) g e = absurd (mathlib.Core.Path.subst is_fine (sym e) tt)

-- a record length that is fine
pub record Sized (left x : ℕ) : Type 0 where
  pub even : x % 2 ≡ 0
  pub some : 2 ≤ x
  pub fits : x ≤ left

pub size_fine : (left x : ℕ) → wrong_size left x ≡ fine → Sized left x
unfolding wrong_size
size_fine left x e =
    let e₁ = unless_next (eqb (x % 2) 0) 4 (unless (leb 2 x) 4 (unless (leb x left) 4 fine)) e in
    let e₂ = unless_next (leb 2 x) 4 (unless (leb x left) 4 fine) e₁ in
    record {
      even = eqb-true (x % 2) 0 (unless_held (eqb (x % 2) 0) 4 (unless (leb 2 x) 4 (unless (leb x left) 4 fine)) e);
      some = leb-true 2 x (unless_held (leb 2 x) 4 (unless (leb x left) 4 fine) e₁);
      fits = leb-true x left (unless_held (leb x left) 4 fine e₂);
    }

pub fine_size : (left x : ℕ) → Sized left x → wrong_size left x ≡ fine
unfolding wrong_size
fine_size left x h = simp (eq-eqb _ _ h.even, le-leb _ _ h.some, le-leb _ _ h.fits)

-- a clause's record length that is fine
pub record ClauseSized (left most sum x : ℕ) : Type 0 where
  pub sized : Sized left x
  pub total : sum + body_of x ≤ most

pub clause_fine : (left most sum x : ℕ) → wrong_clause left most sum x ≡ fine → ClauseSized left most sum x
unfolding wrong_clause
clause_fine left most sum x e =
    let rest : Finding = unless (leb (sum + body_of x) most) 5 fine in
    record {
      sized = size_fine left x (first_fine (wrong_size left x) rest e);
      total = leb-true (sum + body_of x) most (unless_held (leb (sum + body_of x) most) 5 fine (next_fine (wrong_size left x) rest e));
    }

pub fine_clause : (left most sum x : ℕ) → ClauseSized left most sum x → wrong_clause left most sum x ≡ fine
unfolding wrong_clause
fine_clause left most sum x h = simp (fine_size left x h.sized, le-leb _ _ h.total)

pub atoms_fine : (most x : ℕ) → wrong_atoms most x ≡ fine → (1 ≤ x) × (x ≤ most)
unfolding wrong_atoms
atoms_fine most x e = (
  leb-true 1 x (unless_held (leb 1 x) 5 (unless (leb x most) 5 fine) e),
  leb-true x most (unless_held (leb x most) 5 fine (unless_next (leb 1 x) 5 (unless (leb x most) 5 fine) e)),
)

pub fine_atoms : (most x : ℕ) → (1 ≤ x) × (x ≤ most) → wrong_atoms most x ≡ fine
unfolding wrong_atoms
fine_atoms most x h = simp (le-leb _ _ h.0, le-leb _ _ h.1)

pub abducibles_fine : (most atoms x : ℕ) → wrong_abducibles most atoms x ≡ fine → (x ≤ most) × (x ≤ atoms)
unfolding wrong_abducibles
abducibles_fine most atoms x e = (
  leb-true x most (unless_held (leb x most) 5 (unless (leb x atoms) 5 fine) e),
  leb-true x atoms (unless_held (leb x atoms) 5 fine (unless_next (leb x most) 5 (unless (leb x atoms) 5 fine) e)),
)

pub fine_abducibles : (most atoms x : ℕ) → (x ≤ most) × (x ≤ atoms) → wrong_abducibles most atoms x ≡ fine
unfolding wrong_abducibles
fine_abducibles most atoms x h = simp (le-leb _ _ h.0, le-leb _ _ h.1)

pub count_fine : (most x : ℕ) → wrong_count most x ≡ fine → x ≤ most
unfolding wrong_count
count_fine most x e = leb-true x most (unless_held (leb x most) 5 fine e)

pub fine_count : (most x : ℕ) → x ≤ most → wrong_count most x ≡ fine
unfolding wrong_count
fine_count most x h = simp (le-leb _ _ h)

pub lit_fine : (atoms x : ℕ) → wrong_lit atoms x ≡ fine → x / 2 < atoms
unfolding wrong_lit
lit_fine atoms x e = ltb-true (x / 2) atoms (unless_held (ltb (x / 2) atoms) 6 fine e)

pub fine_lit : (atoms x : ℕ) → x / 2 < atoms → wrong_lit atoms x ≡ fine
unfolding wrong_lit
fine_lit atoms x h = simp (lt-ltb _ _ h)

pub head_fine : (atoms abducibles x : ℕ) → wrong_head atoms abducibles x ≡ fine → (x < atoms) × (abducibles ≤ x)
unfolding wrong_head
head_fine atoms abducibles x e = (
  ltb-true x atoms (unless_held (ltb x atoms) 6 (unless (leb abducibles x) 7 fine) e),
  leb-true abducibles x (unless_held (leb abducibles x) 7 fine (unless_next (ltb x atoms) 6 (unless (leb abducibles x) 7 fine) e)),
)

pub fine_head : (atoms abducibles x : ℕ) → (x < atoms) × (abducibles ≤ x) → wrong_head atoms abducibles x ≡ fine
unfolding wrong_head
fine_head atoms abducibles x h = simp (lt-ltb _ _ h.0, le-leb _ _ h.1)

pub conditions_fine : (left most sum x : ℕ) → wrong_conditions left most sum x ≡ fine → (2 * x ≤ left) × (sum + x ≤ most)
unfolding wrong_conditions
conditions_fine left most sum x e = (
  leb-true (2 * x) left (unless_held (leb (2 * x) left) 4 (unless (leb (sum + x) most) 5 fine) e),
  leb-true (sum + x) most (unless_held (leb (sum + x) most) 5 fine (unless_next (leb (2 * x) left) 4 (unless (leb (sum + x) most) 5 fine) e)),
)

pub fine_conditions : (left most sum x : ℕ) → (2 * x ≤ left) × (sum + x ≤ most) → wrong_conditions left most sum x ≡ fine
unfolding wrong_conditions
fine_conditions left most sum x h = simp (le-leb _ _ h.0, le-leb _ _ h.1)

pub alternative_fine : (left most sum x : ℕ) → wrong_alternative left most sum x ≡ fine → (1 ≤ x) × (2 * x ≤ left) × (sum + x ≤ most)
unfolding wrong_alternative
alternative_fine left most sum x e =
    let r = conditions_fine left most sum x (unless_next (leb 1 x) 8 (wrong_conditions left most sum x) e) in
    (leb-true 1 x (unless_held (leb 1 x) 8 (wrong_conditions left most sum x) e), r.0, r.1)

pub fine_alternative : (left most sum x : ℕ) → (1 ≤ x) × (2 * x ≤ left) × (sum + x ≤ most) → wrong_alternative left most sum x ≡ fine
unfolding wrong_alternative
fine_alternative left most sum x h = simp (le-leb _ _ h.0, fine_conditions left most sum x (h.1, h.2))
