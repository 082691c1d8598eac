-- Laws of the walk: what a field, a sequence and a running list come to.
-- Assumes nothing.
use Rattle.std.specs.Prelude.{ℕ, ◌+◌, ◌≤◌, ◌≡◌, refl, Bool, true, false, List, length, leb}
use Rattle.std.proofs.Common.{sym, ap, ◌∙◌, subst, leb-true, le-leb}
use Rattle.base.specs.paper.Bools.{choose}
use Rattle.base.specs.Bools.{choose_true, choose_false}
use Rattle.image.specs.paper.Walk.{Step, found, fault, Finding, fine, wrong, tested, field_at, field}

module _ (s : List ℕ) (faults : ℕ → Finding) (at : ℕ) where
  -- a field that is not there is 4
  pub field_missing : leb (at + 2) (length s) ≡ false → field s faults at ≡ fault 4 at
  unfolding field
  field_missing e = choose_false _ _ e

  -- a field that is there is tested by its value
  pub field_there : leb (at + 2) (length s) ≡ true → field s faults at ≡ tested (faults (field_at s at)) (field_at s at) at
  unfolding field
  field_there e = choose_true _ _ e

  -- a field, told from a value x that is the field's where there is one, and from what the value is found to be
  pub field_by : (x : ℕ) (w : Finding) → (leb (at + 2) (length s) ≡ true → x ≡ field_at s at) → w ≡ faults x
      → choose (leb (at + 2) (length s)) (tested w x at) (fault 4 at) ≡ field s faults at
  field_by x w value finds = go (leb (at + 2) (length s)) refl
    where
      go : (t : Bool) → leb (at + 2) (length s) ≡ t → choose t (tested w x at) (fault 4 at) ≡ field s faults at
      go true e =
          ap (λ (f : Finding). tested f x at) finds
          ∙ ap (λ (y : ℕ). tested (faults y) y at) (value e)
          ∙ sym (field_there e)
      go false e = sym (field_missing e)

is_fault : {A : Type 0} → Step A → Type 0
is_fault (found x at) = ⊥
is_fault (fault n at) = Unit {0}

-- a fault is nothing found
pub never : {A : Type 0} {x : A} {n at next : ℕ} → ◌≡◌ {A = Step A} (fault n at) (found x next) → ⊥
unfolding is_fault
never r = subst is_fault r tt

-- a field that was found: it is there, with this value, which is fine
pub record Fielded (s : List ℕ) (faults : ℕ → Finding) (at x next : ℕ) : Type 0 where
  pub there : at + 2 ≤ length s
  pub value : field_at s at ≡ x
  pub is_fine : faults x ≡ fine
  pub behind : next ≡ at + 2

pub field_found : (s : List ℕ) (faults : ℕ → Finding) (at x next : ℕ) → field s faults at ≡ found x next → Fielded s faults at x next
field_found s faults at x next e = go (leb (at + 2) (length s)) refl
  where
    of : (f : Finding) (y : ℕ) → leb (at + 2) (length s) ≡ true → faults y ≡ f → field_at s at ≡ y → tested f y at ≡ found x next → Fielded s faults at x next
    of fine y t q v j =
        let same : y ≡ x = cc in
        record {
          there = leb-true (at + 2) (length s) t;
          value = v ∙ same;
          is_fine = ap faults (sym same) ∙ q;
          behind = cc;
        }
    of (wrong n) y t q v j = absurd (never j)

    go : (t : Bool) → leb (at + 2) (length s) ≡ t → Fielded s faults at x next
    go true t = of (faults (field_at s at)) (field_at s at) t refl refl (sym (field_there s faults at t) ∙ e)
    go false t = absurd (never (sym (field_missing s faults at t) ∙ e))

-- and the other way round
pub fielded : (s : List ℕ) (faults : ℕ → Finding) (at x next : ℕ) → Fielded s faults at x next → field s faults at ≡ found x next
fielded s faults at x next h =
    field_there s faults at (le-leb (at + 2) (length s) h.there)
    ∙ ap (λ (y : ℕ). tested (faults y) y at) h.value
    ∙ ap (λ (f : Finding). tested f x at) h.is_fine
    ∙ ap (found x) (sym h.behind)
