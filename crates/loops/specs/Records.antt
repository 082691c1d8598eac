-- Where a book's clauses stand in the image, as the loop check reads them: records one behind the other, from the front of what is left on.
-- Assumes nothing.
use Rattle.std.specs.Prelude.{ℕ, zero, suc, ◌+◌, ◌-◌, ◌*◌, ◌/◌, ◌%◌, ◌≤◌, ◌<◌, ◌≡◌, refl, Bool, true, ◌&&◌, List, [], ◌∷◌, map, length, get_or, take, drop, eqb, leb, ltb}
use Rattle.std.proofs.Common.{sym, ap, ap₂, ◌∙◌, subst, arith, length-append, length-take, length-drop, get_or-take, get_or-drop, eqb-true, eq-eqb, leb-true, le-leb, ltb-true, lt-ltb, ⊎_elim}
use Rattle.std.proofs.lemmas.List.{drop-take, drop-drop, take_rest}
use Rattle.std.proofs.lemmas.Bool.{cases_lt, le-ltb}
use Rattle.base.specs.Bools.{both, both_left, both_right}
use Rattle.base.specs.paper.Lists.{◌∈◌, Every, all, flat}
use Rattle.base.specs.Lists.{every_none, every_more, every_first, every_rest, all_every, every_all}
use Rattle.image.specs.paper.Book.{Lit, Clause, Book}
use Rattle.image.specs.paper.Walk.{found, field_at}
use Rattle.image.specs.paper.Decode.{lit_of, whole}
use Rattle.image.specs.Written.{Within, whole_found}
use Rattle.image.specs.paper.Faults.{limits}
use Rattle.image.specs.Finds.{length_lits}
use Rattle.image.specs.Spell.{of_lits, of_clause, Stands}
use Rattle.image.specs.StandsLaws.{stands_left, stands_right, stands_value, stands_within, stands_rest}
use Rattle.image.specs.Shown.{lits_at, lits_at_lem, clause_count_at, Shown, words_shown}
use Rattle.image.specs.LoopLaws.{Bodied}
use Rattle.image.specs.paper.Front.{atoms_at}
use Rattle.loops.specs.Naming.{bodied, bodied_long, bodied_none}

-- the literals of a part of the image that has nothing else
abbrev pub lits_in : List ℕ → List Lit
lits_in s = lits_at s 0 (length s / 2)

-- the clause that a part of the image has, from its head to its record's end
abbrev pub clause_in : List ℕ → Clause
clause_in part = record { head = field_at part 0; body = lits_in (drop 2 part) }

-- all atoms of a clause are below the most there can be
pub record Small (c : Clause) : Type 0 where
  pub head : c.head < limits.atoms
  pub body : Every (λ (l : Lit). l.atom < limits.atoms) c.body

-- all atoms of literals, and of a clause, are below a number
abbrev pub below_all : ℕ → List Lit → Bool
below_all atoms ls = all (λ (l : Lit). ltb l.atom atoms) ls

unfoldable pub fine : ℕ → Clause → Bool
fine atoms c = ltb c.head atoms && below_all atoms c.body

-- the inside of the first record, and what stands behind it
abbrev pub inside : List ℕ → List ℕ
inside s = take (field_at s 0) (drop 2 s)

abbrev pub behind : List ℕ → List ℕ
behind s = drop (field_at s 0) (drop 2 s)

-- a record stands here: all of it, and it has a head and whole literals
unfoldable pub leads : ℕ → List ℕ → Bool
leads atoms s = leb 2 (field_at s 0) && (leb (field_at s 0 + 2) (length s) && (eqb (field_at s 0 % 2) 0 && fine atoms (clause_in (inside s))))

-- n records stand here
unfoldable pub recorded : ℕ → List ℕ → ℕ → Bool
recorded atoms s zero = true
recorded atoms s (suc n) = leads atoms s && recorded atoms (behind s) n

-- and these are their clauses
unfoldable pub clauses_in : List ℕ → ℕ → List Clause
clauses_in s zero = []
clauses_in s (suc n) = clause_in (inside s) ∷ clauses_in (behind s) n

-- ---- the first record

pub record Leads (atoms : ℕ) (s : List ℕ) : Type 0 where
  pub some : 2 ≤ field_at s 0
  pub ends : field_at s 0 + 2 ≤ length s
  pub even : field_at s 0 % 2 ≡ 0
  pub small : fine atoms (clause_in (inside s)) ≡ true

pub leads_lem : (atoms : ℕ) (s : List ℕ) → leads atoms s ≡ true → Leads atoms s
unfolding leads
leads_lem atoms s h =
    let x : ℕ = field_at s 0 in
    let c : Bool = fine atoms (clause_in (inside s)) in
    let more = both_right (leb 2 x) (leb (x + 2) (length s) && (eqb (x % 2) 0 && c)) h in
    let last = both_right (leb (x + 2) (length s)) (eqb (x % 2) 0 && c) more in
    record {
      some = leb-true 2 x (both_left (leb 2 x) _ h);
      ends = leb-true (x + 2) (length s) (both_left (leb (x + 2) (length s)) _ more);
      even = eqb-true (x % 2) 0 (both_left (eqb (x % 2) 0) c last);
      small = both_right (eqb (x % 2) 0) c last;
    }

pub lem_leads : (atoms : ℕ) (s : List ℕ) → Leads atoms s → leads atoms s ≡ true
unfolding leads
lem_leads atoms s h =
    both _ _ (le-leb 2 (field_at s 0) h.some) (both _ _ (le-leb _ _ h.ends) (both _ _ (eq-eqb _ _ h.even) h.small))

pub recorded_first : (atoms : ℕ) (s : List ℕ) (n : ℕ) → recorded atoms s n ≡ true → 0 < n → Leads atoms s
unfolding recorded
recorded_first atoms s zero h k = absurd (omega arith)
recorded_first atoms s (suc n) h k = leads_lem atoms s (both_left (leads atoms s) _ h)

pub recorded_next : (atoms : ℕ) (s : List ℕ) (n : ℕ) → recorded atoms s n ≡ true → 0 < n → recorded atoms (behind s) (n - 1) ≡ true
unfolding recorded
recorded_next atoms s zero h k = absurd (omega arith)
recorded_next atoms s (suc n) h k =
    let e : n ≡ suc n - 1 = omega arith in
    subst (λ (m : ℕ). recorded atoms (behind s) m ≡ true) e (both_right (leads atoms s) _ h)

pub clauses_first : (s : List ℕ) (n : ℕ) → 0 < n → clauses_in s n ≡ clause_in (inside s) ∷ clauses_in (behind s) (n - 1)
unfolding clauses_in
clauses_first s zero h = absurd (omega arith)
clauses_first s (suc n) h =
    let e : n ≡ suc n - 1 = omega arith in
    ap (λ (k : ℕ). clause_in (inside s) ∷ clauses_in (behind s) k) e

pub clauses_none : (s : List ℕ) (n : ℕ) → n ≡ 0 → clauses_in s n ≡ []
unfolding clauses_in
clauses_none s n e = ap (clauses_in s) e

-- ---- a part of the image

drop_field : (s : List ℕ) (from at : ℕ) → field_at (drop from s) at ≡ field_at s (from + at)
unfolding field_at
drop_field s from at =
    let on : from + (at + 1) ≡ from + at + 1 = omega arith in
    let low : get_or s (from + (at + 1)) 0 ≡ get_or s (from + at + 1) 0 = ap (λ (j : ℕ). get_or s j 0) on in
    omega (arith, get_or-drop from s at 0, get_or-drop from s (at + 1) 0)

take_field : (s : List ℕ) (k at : ℕ) → at + 2 ≤ k → field_at (take k s) at ≡ field_at s at
unfolding field_at
take_field s k at h =
    let high : get_or (take k s) at 0 ≡ get_or s at 0 = get_or-take k s at 0 (omega arith) in
    let low : get_or (take k s) (at + 1) 0 ≡ get_or s (at + 1) 0 = get_or-take k s (at + 1) 0 (omega arith) in
    omega arith

drop_lits : (s : List ℕ) (from at n : ℕ) → lits_at (drop from s) at n ≡ lits_at s (from + at) n
unfolding lits_at
drop_lits s from at zero = refl
drop_lits s from at (suc n) =
    let on : from + (at + 2) ≡ from + at + 2 = omega arith in
    ap₂ ◌∷◌ (ap lit_of (drop_field s from at)) (drop_lits s from (at + 2) n ∙ ap (λ (j : ℕ). lits_at s j n) on)

take_lits : (s : List ℕ) (k at n : ℕ) → at + 2 * n ≤ k → lits_at (take k s) at n ≡ lits_at s at n
unfolding lits_at
take_lits s k at zero h = refl
take_lits s k at (suc n) h = ap₂ ◌∷◌ (ap lit_of (take_field s k at (omega arith))) (take_lits s k (at + 2) n (omega arith))

lits_long : (s : List ℕ) (at n : ℕ) → length (lits_at s at n) ≡ n
unfolding lits_at
lits_long s at zero = refl
lits_long s at (suc n) = ap suc (lits_long s (at + 2) n)

-- the literals left at a place of a part of n bytes
pub lits_next : (s : List ℕ) (n at : ℕ) → at + 2 ≤ n → lits_at s at ((n - at) / 2) ≡ lit_of (field_at s at) ∷ lits_at s (at + 2) ((n - (at + 2)) / 2)
unfolding lits_at
lits_next s n at h = let e : (n - at) / 2 ≡ suc ((n - (at + 2)) / 2) = omega arith in ap (lits_at s at) e

pub lits_over : (s : List ℕ) (n at : ℕ) → n ≤ at + 1 → lits_at s at ((n - at) / 2) ≡ []
unfolding lits_at
lits_over s n at h = let e : (n - at) / 2 ≡ 0 = omega arith in ap (lits_at s at) e

-- the first literal, and the rest
pub lits_first : (s : List ℕ) → 2 ≤ length s → lits_in s ≡ lit_of (field_at s 0) ∷ lits_in (drop 2 s)
unfolding lits_at
lits_first s h =
    let e : length s / 2 ≡ suc (length (drop 2 s) / 2) = omega (arith, length-drop 2 s) in
    ap (lits_at s 0) e ∙ ap (λ (ls : List Lit). lit_of (field_at s 0) ∷ ls) (sym (drop_lits s 2 0 (length (drop 2 s) / 2)))

pub lits_none : (s : List ℕ) → length s < 2 → lits_in s ≡ []
unfolding lits_at
lits_none s h = let e : length s / 2 ≡ 0 = omega arith in ap (lits_at s 0) e

-- and so in the part of s behind its first two bytes
module _ (s : List ℕ) (some : 2 ≤ length s) where
  abbrev pub after : List ℕ
  after = take (length s - 2) (drop 2 s)

  pub atoms_first : map (λ (l : Lit). l.atom) (lits_in s) ≡ field_at s 0 / 2 ∷ map (λ (l : Lit). l.atom) (lits_in after)
  atoms_first =
      ap (map (λ (l : Lit). l.atom)) (lits_first s some)
      ∙ ap (λ (r : List ℕ). field_at s 0 / 2 ∷ map (λ (l : Lit). l.atom) (lits_in r)) (sym (take_rest s 2))

  pub below_first : (atoms : ℕ) → below_all atoms (lits_in s) ≡ true → (field_at s 0 / 2 < atoms) × (below_all atoms (lits_in after) ≡ true)
  below_first atoms h =
      let all : below_all atoms (lit_of (field_at s 0) ∷ lits_in (drop 2 s)) ≡ true = sym (ap (below_all atoms) (lits_first s some)) ∙ h in (
        ltb-true (field_at s 0 / 2) atoms (both_left _ _ all),
        ap (λ (r : List ℕ). below_all atoms (lits_in r)) (take_rest s 2) ∙ both_right (ltb (field_at s 0 / 2) atoms) _ all,
      )

-- an atom that is the first
pub below_atom : (atoms : ℕ) (s : List ℕ) (a : ℕ) (rest : List ℕ) → below_all atoms (lits_in s) ≡ true
    → map (λ (l : Lit). l.atom) (lits_in s) ≡ a ∷ rest → a < atoms
below_atom atoms s a rest h e = go (lits_in s) h e
  where
    go : (ls : List Lit) → below_all atoms ls ≡ true → map (λ (l : Lit). l.atom) ls ≡ a ∷ rest → a < atoms
    go [] h e = let none : 0 ≡ suc (length rest) = ap length e in absurd (omega arith)
    go (l ∷ ls) h e = let same : l.atom ≡ a = ap (λ (xs : List ℕ). get_or xs 0 0) e in omega (arith, ltb-true l.atom atoms (both_left _ _ h))

-- a last byte that stands alone is no field
pub whole_fields : (part : List ℕ) → 2 ≤ length part → clause_in (take (length part / 2 * 2) part) ≡ clause_in part
whole_fields part some =
    let n : ℕ = length part / 2 * 2 in
    let r : List ℕ = drop 2 part in
    let m : ℕ = length r / 2 * 2 in
    let e : n ≡ 2 + m = omega (arith, length-drop 2 part) in
    let long : length (take m r) / 2 ≡ length r / 2 = omega (arith, length-take m r) in
    let body : lits_in (drop 2 (take n part)) ≡ lits_in r =
    ap lits_in (ap (λ (k : ℕ). drop 2 (take k part)) e ∙ drop-take 2 m part)
    ∙ ap (lits_at (take m r) 0) long
    ∙ take_lits r m 0 (length r / 2) (omega arith) in
    λ i. record { head = take_field part n 0 (omega arith) i; body = body i }

-- how many bytes a clause's record has
pub part_long : (part : List ℕ) → 2 ≤ length part → length part % 2 ≡ 0 → 2 * length (of_clause (clause_in part)) ≡ length part + 2
part_long part some even =
    omega (arith, length_lits (lits_in (drop 2 part)), lits_long (drop 2 part) 0 (length (drop 2 part) / 2), length-drop 2 part)

pub part_bodied : (part : List ℕ) → 2 ≤ length part → length part % 2 ≡ 0 → ltb 2 (length part) ≡ bodied (clause_in part)
part_bodied part some even =
    ⊎_elim (λ h. lt-ltb 2 (length part) h ∙ sym (bodied_long (clause_in part) (omega (arith, long))))
    (λ h. le-ltb 2 (length part) h ∙ sym (bodied_none (clause_in part) (omega (arith, long)))) (cases_lt 2 (length part))
  where
    long : length (clause_in part).body ≡ (length part - 2) / 2
    long = lits_long (drop 2 part) 0 (length (drop 2 part) / 2) ∙ ap (λ (n : ℕ). n / 2) (length-drop 2 part)

pub inside_long : (atoms : ℕ) (s : List ℕ) → Leads atoms s → length (inside s) ≡ field_at s 0
inside_long atoms s h =
    let ends : field_at s 0 + 2 ≤ length s = h.ends in
    omega (arith, length-take (field_at s 0) (drop 2 s), length-drop 2 s)

-- the records stand within what is left
pub records_fit : (atoms : ℕ) (s : List ℕ) (n : ℕ) → recorded atoms s n ≡ true → 2 * length (flat of_clause (clauses_in s n)) ≤ length s
unfolding recorded clauses_in
records_fit atoms s zero h = omega arith
records_fit atoms s (suc n) h =
    let first : Leads atoms s = leads_lem atoms s (both_left (leads atoms s) _ h) in
    let some : 2 ≤ field_at s 0 = first.some in
    let even : field_at s 0 % 2 ≡ 0 = first.even in
    let ends : field_at s 0 + 2 ≤ length s = first.ends in
    let long : length (inside s) ≡ field_at s 0 = inside_long atoms s first in
    let more : 2 * length (flat of_clause (clauses_in (behind s) n)) ≤ length (behind s) = records_fit atoms (behind s) n (both_right (leads atoms s) _ h) in
    omega (
      arith,
      part_long (inside s) (omega arith) (omega arith),
      length-drop (field_at s 0) (drop 2 s),
      length-drop 2 s,
      length-append (of_clause (clause_in (inside s))) (flat of_clause (clauses_in (behind s) n)),
    )

-- ---- a clause that is written in the image

module _ (s : List ℕ) (at : ℕ) (c : Clause) (stands : Stands s at (of_clause c)) where
  abbrev size : ℕ
  size = field_at s at

  is_size : size ≡ 2 * suc (length (of_lits c.body))
  is_size = stands_value stands

  written_size : field_at (drop at s) 0 ≡ size
  written_size = let e : at + 0 ≡ at = omega arith in drop_field s at 0 ∙ ap (field_at s) e

  written_inside : inside (drop at s) ≡ take size (drop (at + 2) s)
  written_inside = ap₂ take written_size (drop-drop 2 at s)

  written_behind : behind (drop at s) ≡ drop (at + 2 * length (of_clause c)) s
  written_behind =
      let e : at + 2 + size ≡ at + 2 * length (of_clause c) = omega (arith, is_size) in
      ap₂ drop written_size (drop-drop 2 at s) ∙ drop-drop size (at + 2) s ∙ ap (λ (k : ℕ). drop k s) e

  written_body : lits_in (drop 2 (take size (drop (at + 2) s))) ≡ c.body
  written_body =
      let n : ℕ = length c.body in
      let lits : length (of_lits c.body) ≡ n = length_lits c.body in
      let two : size ≡ 2 + 2 * n = omega (arith, is_size) in
      let within : at + 2 * length (of_clause c) ≤ length s = stands_within (2 * suc (length (of_lits c.body))) (c.head ∷ of_lits c.body) stands in
      let four : at + 4 + 0 ≡ at + 2 + 2 = omega arith in
      let rest : List ℕ = drop (at + 4) s in
      let part : drop 2 (take size (drop (at + 2) s)) ≡ take (2 * n) rest =
      ap (λ (k : ℕ). drop 2 (take k (drop (at + 2) s))) two ∙ drop-take 2 (2 * n) (drop (at + 2) s)
      ∙ ap (take (2 * n)) (drop-drop 2 (at + 2) s ∙ ap (λ (k : ℕ). drop k s) {x = at + 2 + 2} {y = at + 4} (omega arith)) in
      let long : length (take (2 * n) rest) / 2 ≡ n = omega (arith, length-take (2 * n) rest, length-drop (at + 4) s) in
      ap lits_in part
      ∙ ap (lits_at (take (2 * n) rest) 0) long
      ∙ take_lits rest (2 * n) 0 n (omega arith)
      ∙ drop_lits s (at + 4) 0 n
      ∙ ap (λ (k : ℕ). lits_at s k n) four
      ∙ lits_at_lem s (at + 2 + 2) c.body (stands_rest (stands_rest stands))

  pub written_clause : clause_in (inside (drop at s)) ≡ c
  written_clause =
      let e : at + 2 + 0 ≡ at + 2 = omega arith in
      let head : field_at (take size (drop (at + 2) s)) 0 ≡ c.head =
      take_field (drop (at + 2) s) size 0 (omega (arith, is_size)) ∙ drop_field s (at + 2) 0 ∙ ap (field_at s) e ∙ stands_value (stands_rest stands) in
      ap clause_in written_inside ∙ (λ i. record { head = head i; body = written_body i })

  written_leads : (atoms : ℕ) → fine atoms c ≡ true → Leads atoms (drop at s)
  written_leads atoms h =
      let within : at + 2 * length (of_clause c) ≤ length s = stands_within (2 * suc (length (of_lits c.body))) (c.head ∷ of_lits c.body) stands in
      record {
        some = omega (arith, written_size, is_size);
        ends = omega (arith, written_size, is_size, length-drop at s);
        even = omega (arith, written_size, is_size);
        small = ap (fine atoms) written_clause ∙ h;
      }

module _ (s : List ℕ) where
  pub written_recorded : (atoms at : ℕ) (cs : List Clause) → Stands s at (flat of_clause cs) → Every (λ (c : Clause). fine atoms c ≡ true) cs
      → recorded atoms (drop at s) (length cs) ≡ true
  unfolding recorded
  written_recorded atoms at [] st h = refl
  written_recorded atoms at (c ∷ cs) st h =
      let first : Stands s at (of_clause c) = stands_left (of_clause c) (flat of_clause cs) st in
      both _ _ (lem_leads atoms (drop at s) (written_leads s at c first atoms (every_first h)))
      (ap (λ (l : List ℕ). recorded atoms l (length cs)) (written_behind s at c first)
      ∙ written_recorded atoms (at + 2 * length (of_clause c)) cs (stands_right (of_clause c) st) (every_rest h))

  pub written_clauses : (at : ℕ) (cs : List Clause) → Stands s at (flat of_clause cs) → clauses_in (drop at s) (length cs) ≡ cs
  unfolding clauses_in
  written_clauses at [] st = refl
  written_clauses at (c ∷ cs) st =
      let first : Stands s at (of_clause c) = stands_left (of_clause c) (flat of_clause cs) st in
      ap₂ ◌∷◌ (written_clause s at c first)
      (ap (λ (l : List ℕ). clauses_in l (length cs)) (written_behind s at c first)
      ∙ written_clauses (at + 2 * length (of_clause c)) cs (stands_right (of_clause c) st))

-- ---- what is known of the clauses

-- every head and every atom of a body is one of the atoms, of which there are no more than the limit
pub record Known (atoms : ℕ) (cs : List Clause) : Type 0 where
  pub most : atoms ≤ limits.atoms
  pub heads : (c : Clause) → c ∈ cs → c.head < atoms
  pub bodies : Bodied atoms cs

pub fine_head : (atoms : ℕ) (c : Clause) → fine atoms c ≡ true → c.head < atoms
unfolding fine
fine_head atoms c h = ltb-true c.head atoms (both_left (ltb c.head atoms) _ h)

pub fine_body : (atoms : ℕ) (c : Clause) → fine atoms c ≡ true → below_all atoms c.body ≡ true
unfolding fine
fine_body atoms c h = both_right (ltb c.head atoms) _ h

each_fine : (atoms : ℕ) (s : List ℕ) (n : ℕ) → recorded atoms s n ≡ true → Every (λ (c : Clause). fine atoms c ≡ true) (clauses_in s n)
unfolding recorded clauses_in
each_fine atoms s zero h = every_none (λ (c : Clause). fine atoms c ≡ true)
each_fine atoms s (suc n) h =
    every_more (leads_lem atoms s (both_left (leads atoms s) _ h)).small (each_fine atoms (behind s) n (both_right (leads atoms s) _ h))

pub recorded_known : (atoms : ℕ) (s : List ℕ) (n : ℕ) → atoms ≤ limits.atoms → recorded atoms s n ≡ true → Known atoms (clauses_in s n)
recorded_known atoms s n most h =
    record {
      most = most;
      heads = λ c m. fine_head atoms c (each_fine atoms s n h c m);
      bodies =
          λ c m l k. ltb-true l.atom atoms (all_every (λ (l : Lit). ltb l.atom atoms) c.body (fine_body atoms c (each_fine atoms s n h c m)) l k);
    }

pub small_fine : (c : Clause) → Small c → fine limits.atoms c ≡ true
unfolding fine
small_fine c h =
    both _ _ (lt-ltb _ _ h.head) (every_all (λ (l : Lit). ltb l.atom limits.atoms) c.body (λ l k. lt-ltb l.atom limits.atoms (h.body l k)))

-- what is below a number is below a greater one
pub fine_more : (few more : ℕ) → few ≤ more → (c : Clause) → fine few c ≡ true → fine more c ≡ true
unfolding fine
fine_more few more le c h =
    both _ _ (lt-ltb _ _ (omega (arith, fine_head few c h)))
    (every_all (λ (l : Lit). ltb l.atom more) c.body
    (λ l k. lt-ltb l.atom more (omega (arith, ltb-true l.atom few (all_every (λ (m : Lit). ltb m.atom few) c.body (fine_body few c h) l k)))))

-- ---- the clauses of a book that the walk found

pub record Ready (s : List ℕ) (b : Book) : Type 0 where
  pub shown : Shown s b
  pub within : Within limits b

pub found_ready : (s : List ℕ) (b : Book) (next : ℕ) → whole s limits atoms_at ≡ found b next → Ready s b
found_ready s b next e =
    let w = whole_found s limits atoms_at b next e in
    record { shown = words_shown s b w.0.stands (sym w.1 ∙ w.0.behind); within = w.0.is_fine }

module _ (image : List ℕ) (book : Book) (ready : Ready image book) (at count : ℕ) (is_at : at ≡ clause_count_at image) (is-count : count ≡ field_at image at) where
  pub ready_count : count ≡ length book.clauses
  ready_count = is-count ∙ ap (field_at image) is_at ∙ ready.shown.clauses

module _ (s : List ℕ) (b : Book) (ready : Ready s b) where
  ready_fine : Every (λ (c : Clause). fine b.atoms c ≡ true) b.clauses
  unfolding fine
  ready_fine c m =
      let f = ready.within.clauses_fine c m in
      both _ _ (lt-ltb _ _ f.known) (every_all (λ (l : Lit). ltb l.atom b.atoms) c.body (λ l k. lt-ltb _ _ (f.named l k)))

  pub ready_recorded : recorded b.atoms (drop (clause_count_at s + 2) s) (field_at s (clause_count_at s)) ≡ true
  ready_recorded =
      ap (recorded b.atoms (drop (clause_count_at s + 2) s)) ready.shown.clauses
      ∙ written_recorded s b.atoms (clause_count_at s + 2) b.clauses ready.shown.all_clauses ready_fine

  pub ready_clauses : clauses_in (drop (clause_count_at s + 2) s) (field_at s (clause_count_at s)) ≡ b.clauses
  ready_clauses =
      ap (clauses_in (drop (clause_count_at s + 2) s)) ready.shown.clauses
      ∙ written_clauses s (clause_count_at s + 2) b.clauses ready.shown.all_clauses
