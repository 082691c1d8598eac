-- `Finds w spell Fine`: the walk w finds a thing exactly where its spelling stands and it is fine, with the next place behind
-- it. Both ways, for each walk of `Decode` but the whole book, which is `Written`'s.
-- Assumes nothing.
use Prim.Native.Nat.{ℕ, zero, suc, ◌+◌, ◌-◌, ◌*◌, ◌/◌, ◌%◌, ◌≤◌, ◌<◌}
use Rattle.std.proofs.Math.Path.{◌≡◌, refl, sym, ap, subst}
use Rattle.std.proofs.Common.{◌∙◌, subst₂, ltb-false, lt-ltb, le-ltb, eqb-true, eq-eqb, ne_eqb}
use Rattle.std.specs.Prelude.{Bool, true, false, ltb, eqb}
use mathlib.Core.List.{List, [], ◌∷◌, ◌++◌}
use native.Mathlib.Omega.{arith}
use Rattle.std.proofs.Math.ListN.{length, length-append}
use Rattle.std.proofs.lemmas.List.{length-map}
use Rattle.std.proofs.lemmas.Bool.{eqb-false}
use Rattle.base.specs.paper.Bools.{choose}
use Rattle.base.specs.Bools.{choose_true, choose_false}
use Rattle.base.specs.paper.Lists.{Every, flat, sum}
use Rattle.base.specs.Lists.{every_none, every_more, every_first, every_rest}
use Rattle.image.specs.paper.Book.{Lit, Clause, Constraint, body_count, literal_count}
use Rattle.image.specs.paper.Walk.{Step, found, fault, Walk, after, give, field, running, times, Finding}
use Rattle.image.specs.WalkLaws.{Fielded, field_found, fielded, never}
use Rattle.image.specs.paper.Faults.{Limits, wrong_lit, wrong_head, wrong_size, wrong_clause, wrong_conditions, wrong_alternative, body_of}
use Rattle.image.specs.FaultLaws.{lit_fine, fine_lit, head_fine, fine_head, size_fine, fine_size, clause_fine, fine_clause, conditions_fine, fine_conditions, alternative_fine, fine_alternative}
use Rattle.image.specs.paper.Decode.{lit_of, literal, clause, alternative, alternatives, inside, constraint}
use Rattle.image.specs.Spell.{of_lit, of_lits, of_alternative, of_clause, of_constraint, Stands, none, more}
use Rattle.image.specs.StandsLaws.{stands_at, stands_join, stands_left, stands_right, stands_there, stands_value, stands_rest, stands_within}

-- what was found at a place, with the next place
pub record Read {A : Type 0} (s : List ℕ) (spell : A → List ℕ) (Fine : A → Type 0) (at : ℕ) (x : A) (next : ℕ) : Type 0 where
  pub stands : Stands s at (spell x)
  pub is_fine : Fine x
  pub behind : next ≡ at + 2 * length (spell x)

pub record Finds {A : Type 0} (s : List ℕ) (w : Walk A) (spell : A → List ℕ) (Fine : A → Type 0) : Type 0 where
  pub finds : (at : ℕ) (x : A) (next : ℕ) → w at ≡ found x next → Read s spell Fine at x next
  pub reads : (at : ℕ) (x : A) (next : ℕ) → Read s spell Fine at x next → w at ≡ found x next

-- `do` finds what its parts find
pub after_found : {A B : Type 0} (st : Step A) (k : A → Walk B) (y : B) (next : ℕ) → after st k ≡ found y next
    → (x : A) × (m : ℕ) × (st ≡ found x m) × (k x m ≡ found y next)
after_found (found x m) k y next e = (x, m, refl, e)
after_found (fault n at) k y next e = absurd (never e)

-- ---- a literal

lit_out : (x : ℕ) → of_lit (lit_of x) ≡ x
lit_out x = go (eqb (x % 2) 0) refl
  where
    go : (t : Bool) → eqb (x % 2) 0 ≡ t → 2 * (x / 2) + choose t 0 1 ≡ x
    go true e = let even : x % 2 ≡ 0 = eqb-true (x % 2) 0 e in omega arith
    go false e = let odd : x % 2 ≡ 0 → ⊥ = eqb-false (x % 2) 0 e in omega arith

lit_half : (a : ℕ) (t : Bool) → (2 * a + choose t 0 1) / 2 ≡ a
lit_half a true = omega arith
lit_half a false = omega arith

lit_sign : (a : ℕ) (t : Bool) → eqb ((2 * a + choose t 0 1) % 2) 0 ≡ t
lit_sign a true = let even : (2 * a + 0) % 2 ≡ 0 = omega arith in eq-eqb ((2 * a + 0) % 2) 0 even
lit_sign a false = let odd : (2 * a + 1) % 2 ≡ 1 = omega arith in ne_eqb ((2 * a + 1) % 2) 0 (λ z. omega arith)

pub lit_in_lem : (l : Lit) → lit_of (of_lit l) ≡ l
lit_in_lem l = λ i. record { atom = lit_half l.atom l.sign i; sign = lit_sign l.atom l.sign i }

abbrev pub Named : ℕ → Lit → Type 0
Named atoms l = l.atom < atoms

abbrev one : Lit → List ℕ
one l = of_lit l ∷ []

pub finds_literal : (s : List ℕ) (atoms : ℕ) → Finds s (literal s atoms) one (Named atoms)
unfolding literal
finds_literal s atoms = record { finds = finds; reads = reads }
  where
    finds : (at : ℕ) (l : Lit) (next : ℕ) → after (field s (wrong_lit atoms) at) (λ x. give (lit_of x)) ≡ found l next → Read s one (Named atoms) at l next
    finds at l next e =
        let f = after_found (field s (wrong_lit atoms) at) (λ x. give (lit_of x)) l next e in
        let h = field_found s (wrong_lit atoms) at f.0 f.1 f.2 in
        let is : lit_of f.0 ≡ l = cc f.3 in
        let on : f.1 ≡ next = cc f.3 in
        let b : f.1 ≡ at + 2 = h.behind in
        record {
          stands = more h.there (h.value ∙ sym (lit_out f.0) ∙ ap of_lit is) none;
          is_fine = subst (Named atoms) is (lit_fine atoms f.0 h.is_fine);
          behind = omega arith;
        }

    reads : (at : ℕ) (l : Lit) (next : ℕ) → Read s one (Named atoms) at l next → after (field s (wrong_lit atoms) at) (λ x. give (lit_of x)) ≡ found l next
    reads at l next r =
        let half : of_lit l / 2 ≡ l.atom = lit_half l.atom l.sign in
        let small : l.atom < atoms = r.is_fine in
        let e : field s (wrong_lit atoms) at ≡ found (of_lit l) next =
        fielded s (wrong_lit atoms) at (of_lit l) next
        (record {
          there = stands_there r.stands;
          value = stands_value r.stands;
          is_fine = fine_lit atoms (of_lit l) (omega arith);
          behind = omega arith;
        }) in
        ap (λ (st : Step ℕ). after st (λ x. give (lit_of x))) e ∙ ap (λ (m : Lit). found m next) (lit_in_lem l)

-- ---- a running list

-- n things, each fine at the sum of those before it
pub data Ran {A : Type 0} (Fine : ℕ → A → Type 0) (weight : A → ℕ) : ℕ → ℕ → List A → Type 0 where
  done : {total : ℕ} → Ran Fine weight zero total []
  then : {n total : ℕ} {x : A} {xs : List A} → Fine total x → Ran Fine weight n (total + weight x) xs → Ran Fine weight (suc n) total (x ∷ xs)

module _ {A : Type 0} {Fine : ℕ → A → Type 0} {weight : A → ℕ} where
  pub ran_length : {n total : ℕ} {xs : List A} → Ran Fine weight n total xs → length xs ≡ n
  ran_length done = refl
  ran_length (then h r) = ap suc (ran_length r)

  pub ran_every : {P : A → Type 0} → ((t : ℕ) (x : A) → Fine t x → P x) → {n total : ℕ} {xs : List A} → Ran Fine weight n total xs → Every P xs
  ran_every {P} f done = every_none P
  ran_every {P} f (then {total = t} {x = x} h r) = every_more (f t x h) (ran_every f r)

  pub ran_sum : (most : ℕ) → ((t : ℕ) (x : A) → Fine t x → t + weight x ≤ most) → {n total : ℕ} {xs : List A} → Ran Fine weight n total xs
      → total ≤ most → total + sum weight xs ≤ most
  ran_sum most f {total = t} done h = omega arith
  ran_sum most f {total = t} (then {x = x} {xs = xs} k r) h =
      let b : t + weight x + sum weight xs ≤ most = ran_sum most f r (f t x k) in
      omega arith

pub every_ran : {A : Type 0} (Fine : ℕ → A → Type 0) (weight : A → ℕ) (P : A → Type 0) (most : ℕ)
    → ((t : ℕ) (x : A) → P x → t + weight x ≤ most → Fine t x) → (total : ℕ) (xs : List A) → Every P xs → total + sum weight xs ≤ most
    → Ran Fine weight (length xs) total xs
every_ran Fine weight P most f total [] ps h = done
every_ran Fine weight P most f total (x ∷ xs) ps h =
    then (f total x (every_first ps) (omega arith)) (every_ran Fine weight P most f (total + weight x) xs (every_rest ps) (omega arith))

module _ {A : Type 0} (s : List ℕ) (w : ℕ → Walk A) (weight : A → ℕ) (spell : A → List ℕ) (Fine : ℕ → A → Type 0)
    (one : (t : ℕ) → Finds s (w t) spell (Fine t)) where
  running_finds : (n total at : ℕ) (xs : List A) (next : ℕ) → running w weight n total at ≡ found xs next
      → Read s (flat spell) (Ran Fine weight n total) at xs next
  unfolding running
  running_finds zero total at [] next e = let b : at ≡ next = cc in record { stands = none; is_fine = done; behind = omega arith }
  running_finds zero total at (x ∷ xs) next e = let z : ◌≡◌ {A = ℕ} 0 1 = cc in absurd (omega arith)
  running_finds (suc n) total at xs next e =
      let f = after_found (w total at) (λ x at'. after (running w weight n (total + weight x) at') (λ ys. give (x ∷ ys))) xs next e in
      let g = after_found (running w weight n (total + weight f.0) f.1) (λ ys. give (f.0 ∷ ys)) xs next f.3 in
      let h = (one total).finds at f.0 f.1 f.2 in
      let k = running_finds n (total + weight f.0) f.1 g.0 g.1 g.2 in
      let is : f.0 ∷ g.0 ≡ xs = cc g.3 in
      let on : g.1 ≡ next = cc g.3 in
      let b₁ : f.1 ≡ at + 2 * length (spell f.0) = h.behind in
      let b₂ : g.1 ≡ f.1 + 2 * length (flat spell g.0) = k.behind in
      subst (λ (ys : List A). Read s (flat spell) (Ran Fine weight (suc n) total) at ys next) is
      (record {
        stands = stands_join h.stands (stands_at b₁ k.stands);
        is_fine = then h.is_fine k.is_fine;
        behind = omega (arith, length-append (spell f.0) (flat spell g.0));
      })

  running_reads : (n total at : ℕ) (xs : List A) (next : ℕ) → Read s (flat spell) (Ran Fine weight n total) at xs next
      → running w weight n total at ≡ found xs next
  unfolding running
  running_reads n total at xs next r = go n total at xs next r.stands r.is_fine r.behind
    where
      go : (n total at : ℕ) (xs : List A) (next : ℕ) → Stands s at (flat spell xs) → Ran Fine weight n total xs → next ≡ at + 2 * length (flat spell xs)
          → running w weight n total at ≡ found xs next
      go n total at xs next h done b = let e : at ≡ next = omega arith in ap (found []) e
      go n total at xs next h (then {n = m} {x = x} {xs = ys} k r) b =
          let mid : ℕ = at + 2 * length (spell x) in
          let e₁ : w total at ≡ found x mid =
          (one total).reads at x mid (record { stands = stands_left (spell x) (flat spell ys) h; is_fine = k; behind = refl }) in
          let e₂ : running w weight m (total + weight x) mid ≡ found ys next =
          go m (total + weight x) mid ys next (stands_right (spell x) h) r (omega (arith, length-append (spell x) (flat spell ys))) in
          ap (λ (st : Step A). after st (λ z at'. after (running w weight m (total + weight z) at') (λ zs. give (z ∷ zs)))) e₁
          ∙ ap (λ (st : Step (List A)). after st (λ zs. give (x ∷ zs))) e₂

  pub finds_running : (n total : ℕ) → Finds s (running w weight n total) (flat spell) (Ran Fine weight n total)
  finds_running n total = record { finds = running_finds n total; reads = running_reads n total }

-- ---- literals

flat_one : (ls : List Lit) → flat one ls ≡ of_lits ls
flat_one [] = refl
flat_one (l ∷ ls) = ap (λ (xs : List ℕ). of_lit l ∷ xs) (flat_one ls)

-- n literals, all of atoms that there are
pub record Literals (atoms n : ℕ) (ls : List Lit) : Type 0 where
  pub count : length ls ≡ n
  pub named : Every (Named atoms) ls

pub length_lits : (ls : List Lit) → length (of_lits ls) ≡ length ls
length_lits ls = length-map ls of_lit

pub finds_literals : (s : List ℕ) (atoms n : ℕ) → Finds s (times (literal s atoms) n) of_lits (Literals atoms n)
finds_literals s atoms n = record { finds = finds; reads = reads }
  where
    run : Finds s (times (literal s atoms) n) (flat one) (Ran (λ _. Named atoms) (λ _. 1) n 0)
    run = finds_running s (λ _. literal s atoms) (λ _. 1) one (λ _. Named atoms) (λ _. finds_literal s atoms) n 0

    finds : (at : ℕ) (ls : List Lit) (next : ℕ) → times (literal s atoms) n at ≡ found ls next → Read s of_lits (Literals atoms n) at ls next
    finds at ls next e =
        let r = run.finds at ls next e in
        record {
          stands = subst (Stands s at) (flat_one ls) r.stands;
          is_fine = record { count = ran_length r.is_fine; named = ran_every (λ t x h. h) r.is_fine };
          behind = r.behind ∙ ap (λ (xs : List ℕ). at + 2 * length xs) (flat_one ls);
        }

    reads : (at : ℕ) (ls : List Lit) (next : ℕ) → Read s of_lits (Literals atoms n) at ls next → times (literal s atoms) n at ≡ found ls next
    reads at ls next r =
        run.reads at ls next
        (record {
          stands = subst (Stands s at) (sym (flat_one ls)) r.stands;
          is_fine =
              subst (λ (k : ℕ). Ran (λ _. Named atoms) (λ _. 1) k 0 ls) r.is_fine.count
              (every_ran (λ _. Named atoms) (λ _. 1) (Named atoms) (sum (λ _. 1) ls) (λ t x h b. h) 0 ls r.is_fine.named (omega arith));
          behind = r.behind ∙ ap (λ (xs : List ℕ). at + 2 * length xs) (sym (flat_one ls));
        })

-- ---- a clause

-- its head is a defined atom, and its body's literals are of atoms that there are
pub record ClauseFine (atoms abducibles : ℕ) (c : Clause) : Type 0 where
  pub known : c.head < atoms
  pub defined : abducibles ≤ c.head
  pub named : Every (Named atoms) c.body

-- and it fits behind bodies of `total` literals
pub record ClauseFits (most atoms abducibles total : ℕ) (c : Clause) : Type 0 where
  pub is_fine : ClauseFine atoms abducibles c
  pub fits : total + body_count c ≤ most

pub finds_clause : (s : List ℕ) (most : Limits) (atoms abducibles total : ℕ)
    → Finds s (clause s most atoms abducibles total) of_clause (ClauseFits most.bodies atoms abducibles total)
unfolding clause
finds_clause s most atoms abducibles total = record { finds = finds; reads = reads }
  where
    sizes : ℕ → ℕ → Finding
    sizes at = wrong_clause (length s - (at + 2)) most.bodies total

    made : ℕ → List Lit → Walk Clause
    made h ls = give (record { head = h; body = ls })

    from_body : ℕ → ℕ → Walk Clause
    from_body size h at = after (times (literal s atoms) (body_of size) at) (made h)

    from_head : ℕ → Walk Clause
    from_head size at = after (field s (wrong_head atoms abducibles) at) (from_body size)

    parts : (at size at₁ head at₂ : ℕ) (ls : List Lit) (next : ℕ) → Fielded s (sizes at) at size at₁ → Fielded s (wrong_head atoms abducibles) at₁ head at₂
        → Read s of_lits (Literals atoms (body_of size)) at₂ ls next
        → Read s of_clause (ClauseFits most.bodies atoms abducibles total) at (record { head = head; body = ls }) next
    parts at size at₁ head at₂ ls next size_at headAt body_at =
        let sized = clause_fine (length s - (at + 2)) most.bodies total size size_at.is_fine in
        let headed = head_fine atoms abducibles head headAt.is_fine in
        let even : size % 2 ≡ 0 = sized.sized.even in
        let some : 2 ≤ size = sized.sized.some in
        let count : length ls ≡ size / 2 - 1 = body_at.is_fine.count in
        let lits : length (of_lits ls) ≡ length ls = length_lits ls in
        let b₁ : at₁ ≡ at + 2 = size_at.behind in
        let b₂ : at₂ ≡ at₁ + 2 = headAt.behind in
        let b₃ : next ≡ at₂ + 2 * length (of_lits ls) = body_at.behind in
        let fits : total + (size / 2 - 1) ≤ most.bodies = sized.total in
        let value : size ≡ 2 * suc (length (of_lits ls)) = omega arith in
        record {
          stands =
              more size_at.there (size_at.value ∙ value)
              (stands_at b₁ (more headAt.there headAt.value (stands_at b₂ body_at.stands)));
          is_fine = record { is_fine = record { known = headed.0; defined = headed.1; named = body_at.is_fine.named }; fits = omega arith };
          behind = omega arith;
        }

    finds : (at : ℕ) (c : Clause) (next : ℕ) → after (field s (sizes at) at) from_head ≡ found c next
        → Read s of_clause (ClauseFits most.bodies atoms abducibles total) at c next
    finds at c next e =
        let f = after_found (field s (sizes at) at) from_head c next e in
        let g = after_found (field s (wrong_head atoms abducibles) f.1) (from_body f.0) c next f.3 in
        let h = after_found (times (literal s atoms) (body_of f.0) g.1) (made g.0) c next g.3 in
        subst₂ (λ (d : Clause) (m : ℕ). Read s of_clause (ClauseFits most.bodies atoms abducibles total) at d m) (cc h.3) (cc h.3)
        (parts at f.0 f.1 g.0 g.1 h.0 h.1 (field_found s (sizes at) at f.0 f.1 f.2)
        (field_found s (wrong_head atoms abducibles) f.1 g.0 g.1 g.2)
        ((finds_literals s atoms (body_of f.0)).finds g.1 h.0 h.1 h.2))

    reads : (at : ℕ) (c : Clause) (next : ℕ) → Read s of_clause (ClauseFits most.bodies atoms abducibles total) at c next
        → after (field s (sizes at) at) from_head ≡ found c next
    reads at c next r =
        let size : ℕ = 2 * length (c.head ∷ of_lits c.body) in
        let lits : length (of_lits c.body) ≡ length c.body = length_lits c.body in
        let body : body_of size ≡ length c.body = omega arith in
        let within : at + 2 * length (of_clause c) ≤ length s = stands_within size (c.head ∷ of_lits c.body) r.stands in
        let fits : total + length c.body ≤ most.bodies = r.is_fine.fits in
        let rest = stands_rest r.stands in
        let e₁ : field s (sizes at) at ≡ found size (at + 2) =
        fielded s (sizes at) at size (at + 2)
        (record {
          there = stands_there r.stands;
          value = stands_value r.stands;
          is_fine =
              fine_clause (length s - (at + 2)) most.bodies total size
              (record { sized = record { even = omega arith; some = omega arith; fits = omega arith }; total = omega arith });
          behind = refl;
        }) in
        let e₂ : field s (wrong_head atoms abducibles) (at + 2) ≡ found c.head (at + 2 + 2) =
        fielded s (wrong_head atoms abducibles) (at + 2) c.head (at + 2 + 2)
        (record {
          there = stands_there rest;
          value = stands_value rest;
          is_fine = fine_head atoms abducibles c.head (r.is_fine.is_fine.known, r.is_fine.is_fine.defined);
          behind = refl;
        }) in
        let behind : next ≡ at + 2 * length (of_clause c) = r.behind in
        let e₃ : times (literal s atoms) (body_of size) (at + 2 + 2) ≡ found c.body next =
        (finds_literals s atoms (body_of size)).reads (at + 2 + 2) c.body next
        (record { stands = stands_rest rest; is_fine = record { count = sym body; named = r.is_fine.is_fine.named }; behind = omega arith }) in
        ap (λ (st : Step ℕ). after st from_head) e₁
        ∙ ap (λ (st : Step ℕ). after st (from_body size)) e₂
        ∙ ap (λ (st : Step (List Lit)). after st (made c.head)) e₃

-- ---- an alternative, and all of a record

-- it has a literal, and its literals are of atoms that there are
pub record AlternativeFine (atoms : ℕ) (ls : List Lit) : Type 0 where
  pub some : 1 ≤ length ls
  pub named : Every (Named atoms) ls

module _ (image : List ℕ) (most : Limits) (atoms end : ℕ) where
  -- an alternative that stands within its record, behind constraint literals of `total`
  pub record Alternative (total at : ℕ) (ls : List Lit) (next : ℕ) : Type 0 where
    pub stands : Stands image at (of_alternative ls)
    pub is_fine : AlternativeFine atoms ls
    pub fits : total + length ls ≤ most.literals
    pub behind : next ≡ at + 2 * length (of_alternative ls)
    pub within : next ≤ end

  counts : ℕ → ℕ → ℕ → Finding
  counts total at = wrong_alternative (end - (at + 2)) most.literals total

  pub alternative_finds : (total at : ℕ) (ls : List Lit) (next : ℕ) → alternative image most atoms end total at ≡ found ls next → Alternative total at ls next
  unfolding alternative counts
  alternative_finds total at ls next e =
      let f = after_found (field image (counts total at) at) (λ n. times (literal image atoms) n) ls next e in
      let countAt = field_found image (counts total at) at f.0 f.1 f.2 in
      let lits_at = (finds_literals image atoms f.0).finds f.1 ls next f.3 in
      let counted = alternative_fine (end - (at + 2)) most.literals total f.0 countAt.is_fine in
      let n : length ls ≡ f.0 = lits_at.is_fine.count in
      let lits : length (of_lits ls) ≡ length ls = length_lits ls in
      let b₁ : f.1 ≡ at + 2 = countAt.behind in
      let b₂ : next ≡ f.1 + 2 * length (of_lits ls) = lits_at.behind in
      let h₀ : 1 ≤ f.0 = counted.0 in
      let h₁ : 2 * f.0 ≤ end - (at + 2) = counted.1 in
      let h₂ : total + f.0 ≤ most.literals = counted.2 in
      record {
        stands = more countAt.there (countAt.value ∙ sym n) (stands_at b₁ lits_at.stands);
        is_fine = record { some = omega arith; named = lits_at.is_fine.named };
        fits = omega arith;
        behind = omega arith;
        within = omega arith;
      }

  alternative_reads : (total at : ℕ) (ls : List Lit) (next : ℕ) → Alternative total at ls next → alternative image most atoms end total at ≡ found ls next
  unfolding alternative counts
  alternative_reads total at ls next r =
      let lits : length (of_lits ls) ≡ length ls = length_lits ls in
      let h₀ : 1 ≤ length ls = r.is_fine.some in
      let h₁ : next ≤ end = r.within in
      let h₂ : total + length ls ≤ most.literals = r.fits in
      let b : next ≡ at + 2 * length (of_alternative ls) = r.behind in
      let e₁ : field image (counts total at) at ≡ found (length ls) (at + 2) =
      fielded image (counts total at) at (length ls) (at + 2)
      (record {
        there = stands_there r.stands;
        value = stands_value r.stands;
        is_fine = fine_alternative (end - (at + 2)) most.literals total (length ls) (omega arith);
        behind = refl;
      }) in
      ap (λ (st : Step ℕ). after st (λ n. times (literal image atoms) n)) e₁
      ∙ (finds_literals image atoms (length ls)).reads (at + 2) ls next
      (record { stands = stands_rest r.stands; is_fine = record { count = refl; named = r.is_fine.named }; behind = omega arith })

  -- all alternatives up to the record's end
  record Alternatives (total at : ℕ) (ways : List (List Lit)) : Type 0 where
    stands : Stands image at (flat of_alternative ways)
    is_fine : Every (AlternativeFine atoms) ways
    fits : total + sum length ways ≤ most.literals
    ends : end ≡ at + 2 * length (flat of_alternative ways)

  alternatives_finds : (n total at : ℕ) (ways : List (List Lit)) (next : ℕ) → alternatives image most atoms end n total at ≡ found ways next
      → at ≤ end → end ≤ at + 2 * n → total ≤ most.literals → Alternatives total at ways × (next ≡ end)
  unfolding alternatives
  alternatives_finds zero total at [] next e h k t =
      let on : at ≡ next = cc in
      (record { stands = none; is_fine = every_none (AlternativeFine atoms); fits = omega arith; ends = omega arith }, omega arith)
  alternatives_finds zero total at (ls ∷ ways) next e h k t = let z : ◌≡◌ {A = ℕ} 0 1 = cc in absurd (omega arith)
  alternatives_finds (suc n) total at ways next e h k t = go (ltb at end) refl e (λ m. alternatives_finds n m)
    where
      rest : List Lit → Walk (List (List Lit))
      rest ls at' = after (alternatives image most atoms end n (total + length ls) at') (λ ways'. give (ls ∷ ways'))

      go : (b : Bool) → ltb at end ≡ b → choose b (after (alternative image most atoms end total at) rest) (found [] at) ≡ found ways next
          → ((m at' : ℕ) (ways' : List (List Lit)) (next' : ℕ) → alternatives image most atoms end n m at' ≡ found ways' next'
          → at' ≤ end → end ≤ at' + 2 * n → m ≤ most.literals → Alternatives m at' ways' × (next' ≡ end))
          → Alternatives total at ways × (next ≡ end)
      go false b q again =
          let late : end ≤ at = ltb-false at end b in
          let is : [] ≡ ways = cc (q) in
          let on : at ≡ next = cc (q) in
          subst (λ (xs : List (List Lit)). Alternatives total at xs × (next ≡ end)) is
          (record { stands = none; is_fine = every_none (AlternativeFine atoms); fits = omega arith; ends = omega arith }, omega arith)
      go true b q again =
          let f = after_found (alternative image most atoms end total at) rest ways next q in
          let g = after_found (alternatives image most atoms end n (total + length f.0) f.1) (λ ways'. give (f.0 ∷ ways')) ways next f.3 in
          let first = alternative_finds total at f.0 f.1 f.2 in
          let b₁ : f.1 ≡ at + 2 * length (of_alternative f.0) = first.behind in
          let w₁ : f.1 ≤ end = first.within in
          let more' = again (total + length f.0) f.1 g.0 g.1 g.2 w₁ (omega arith) first.fits in
          let b₂ : end ≡ f.1 + 2 * length (flat of_alternative g.0) = more'.0.ends in
          let t₂ : total + length f.0 + sum length g.0 ≤ most.literals = more'.0.fits in
          let is : f.0 ∷ g.0 ≡ ways = cc g.3 in
          let on : g.1 ≡ next = cc g.3 in
          subst (λ (xs : List (List Lit)). Alternatives total at xs × (next ≡ end)) is (
            record {
              stands = stands_join first.stands (stands_at b₁ more'.0.stands);
              is_fine = every_more first.is_fine more'.0.is_fine;
              fits = omega arith;
              ends = omega (arith, length-append (of_alternative f.0) (flat of_alternative g.0));
            },
            sym on ∙ more'.1,
          )

  alternatives_reads : (n total at : ℕ) (ways : List (List Lit)) → Alternatives total at ways → length (flat of_alternative ways) ≤ n
      → alternatives image most atoms end n total at ≡ found ways end
  unfolding alternatives
  alternatives_reads zero total at [] r h = let e : end ≡ at + 2 * 0 = r.ends in let q : at ≡ end = omega arith in ap (found []) q
  alternatives_reads zero total at (ls ∷ ways) r h = absurd (omega arith)
  alternatives_reads (suc n) total at [] r h =
      let e : end ≡ at + 2 * 0 = r.ends in
      let q : at ≡ end = omega arith in
      choose_false _ _ (le-ltb at end (omega arith)) ∙ ap (found []) q
  alternatives_reads (suc n) total at (ls ∷ ways) r h =
      let long : length (flat of_alternative (ls ∷ ways)) ≡ length (of_alternative ls) + length (flat of_alternative ways) = length-append (of_alternative ls) (flat of_alternative ways) in
      let e : end ≡ at + 2 * length (flat of_alternative (ls ∷ ways)) = r.ends in
      let t : total + (length ls + sum length ways) ≤ most.literals = r.fits in
      let mid : ℕ = at + 2 * length (of_alternative ls) in
      let e₁ : alternative image most atoms end total at ≡ found ls mid =
      alternative_reads total at ls mid
      (record {
        stands = stands_left (of_alternative ls) (flat of_alternative ways) r.stands;
        is_fine = every_first r.is_fine;
        fits = omega arith;
        behind = refl;
        within = omega arith;
      }) in
      let e₂ : alternatives image most atoms end n (total + length ls) mid ≡ found ways end =
      alternatives_reads n (total + length ls) mid ways
      (record {
        stands = stands_right (of_alternative ls) r.stands;
        is_fine = every_rest r.is_fine;
        fits = omega arith;
        ends = omega arith;
      })
      (omega arith) in
      choose_true _ _ (lt-ltb at end (omega arith))
      ∙ ap (λ (st : Step (List Lit)). after st (λ z at'. after (alternatives image most atoms end n (total + length z) at') (λ zs. give (z ∷ zs)))) e₁
      ∙ ap (λ (st : Step (List (List Lit))). after st (λ zs. give (ls ∷ zs))) e₂

-- ---- a constraint

-- its literals are of atoms that there are, and no alternative is empty
pub record ConstraintFine (atoms : ℕ) (k : Constraint) : Type 0 where
  pub named : Every (Named atoms) k.conditions
  pub ways : Every (AlternativeFine atoms) k.alternatives

-- and it fits behind constraints of `total` literals
pub record ConstraintFits (most atoms total : ℕ) (k : Constraint) : Type 0 where
  pub is_fine : ConstraintFine atoms k
  pub fits : total + literal_count k ≤ most

pub finds_constraint : (s : List ℕ) (most : Limits) (atoms total : ℕ)
    → Finds s (constraint s most atoms total) of_constraint (ConstraintFits most.literals atoms total)
unfolding constraint inside
finds_constraint s most atoms total = record { finds = finds; reads = reads }
  where
    sizes : ℕ → ℕ → Finding
    sizes at = wrong_size (length s - (at + 2))

    counts : ℕ → ℕ → ℕ → Finding
    counts size at = wrong_conditions (at + size - (at + 2)) most.literals total

    made : List Lit → List (List Lit) → Walk Constraint
    made ls ways = give (record { conditions = ls; alternatives = ways })

    from_lits : ℕ → ℕ → ℕ → Walk Constraint
    from_lits size end count at =
        after (times (literal s atoms) count at) (λ ls at'. after (alternatives s most atoms end (size / 2) (total + count) at') (made ls))

    from_count : ℕ → Walk Constraint
    from_count size at = after (field s (counts size at) at) (from_lits size (at + size))

    parts : (at size at₁ count at₂ : ℕ) (ls : List Lit) (at₃ : ℕ) (ways : List (List Lit)) (next : ℕ) → Fielded s (sizes at) at size at₁
        → Fielded s (counts size at₁) at₁ count at₂ → Read s of_lits (Literals atoms count) at₂ ls at₃
        → alternatives s most atoms (at₁ + size) (size / 2) (total + count) at₃ ≡ found ways next
        → Read s of_constraint (ConstraintFits most.literals atoms total) at (record { conditions = ls; alternatives = ways }) next
    parts at size at₁ count at₂ ls at₃ ways next size_at countAt lits_at e =
        let sized = size_fine (length s - (at + 2)) size size_at.is_fine in
        let counted = conditions_fine (at₁ + size - (at₁ + 2)) most.literals total count countAt.is_fine in
        let some : 2 ≤ size = sized.some in
        let even : size % 2 ≡ 0 = sized.even in
        let c₁ : 2 * count ≤ at₁ + size - (at₁ + 2) = counted.0 in
        let c₂ : total + count ≤ most.literals = counted.1 in
        let n : length ls ≡ count = lits_at.is_fine.count in
        let lits : length (of_lits ls) ≡ length ls = length_lits ls in
        let b₁ : at₁ ≡ at + 2 = size_at.behind in
        let b₂ : at₂ ≡ at₁ + 2 = countAt.behind in
        let b₃ : at₃ ≡ at₂ + 2 * length (of_lits ls) = lits_at.behind in
        let ways_at = alternatives_finds s most atoms (at₁ + size) (size / 2) (total + count) at₃ ways next e (omega arith) (omega arith) c₂ in
        let b₄ : at₁ + size ≡ at₃ + 2 * length (flat of_alternative ways) = ways_at.0.ends in
        let t : total + count + sum length ways ≤ most.literals = ways_at.0.fits in
        let over : next ≡ at₁ + size = ways_at.1 in
        let inner : List ℕ = of_alternative ls ++ flat of_alternative ways in
        let long : length inner ≡ length (of_alternative ls) + length (flat of_alternative ways) = length-append (of_alternative ls) (flat of_alternative ways) in
        let value : size ≡ 2 * length inner = omega arith in
        record {
          stands =
              more size_at.there (size_at.value ∙ value)
              (stands_join {xs = of_alternative ls}
              (stands_at b₁ (more countAt.there (countAt.value ∙ sym n) (stands_at b₂ lits_at.stands)))
              (stands_at (omega arith) ways_at.0.stands));
          is_fine = record { is_fine = record { named = lits_at.is_fine.named; ways = ways_at.0.is_fine }; fits = omega arith };
          behind = omega arith;
        }

    finds : (at : ℕ) (k : Constraint) (next : ℕ) → after (field s (sizes at) at) from_count ≡ found k next
        → Read s of_constraint (ConstraintFits most.literals atoms total) at k next
    finds at k next e =
        let f = after_found (field s (sizes at) at) from_count k next e in
        let g = after_found (field s (counts f.0 f.1) f.1) (from_lits f.0 (f.1 + f.0)) k next f.3 in
        let h =
        after_found (times (literal s atoms) g.0 g.1)
        (λ ls at'. after (alternatives s most atoms (f.1 + f.0) (f.0 / 2) (total + g.0) at') (made ls)) k next g.3 in
        let j = after_found (alternatives s most atoms (f.1 + f.0) (f.0 / 2) (total + g.0) h.1) (made h.0) k next h.3 in
        subst₂ (λ (k' : Constraint) (m : ℕ). Read s of_constraint (ConstraintFits most.literals atoms total) at k' m) (cc j.3) (cc j.3)
        (parts at f.0 f.1 g.0 g.1 h.0 h.1 j.0 j.1 (field_found s (sizes at) at f.0 f.1 f.2)
        (field_found s (counts f.0 f.1) f.1 g.0 g.1 g.2)
        ((finds_literals s atoms g.0).finds g.1 h.0 h.1 h.2) j.2)

    reads : (at : ℕ) (k : Constraint) (next : ℕ) → Read s of_constraint (ConstraintFits most.literals atoms total) at k next
        → after (field s (sizes at) at) from_count ≡ found k next
    reads at k next r =
        let ls : List Lit = k.conditions in
        let ways : List (List Lit) = k.alternatives in
        let inner : List ℕ = of_alternative ls ++ flat of_alternative ways in
        let size : ℕ = 2 * length inner in
        let long : length inner ≡ length (of_alternative ls) + length (flat of_alternative ways) = length-append (of_alternative ls) (flat of_alternative ways) in
        let lits : length (of_lits ls) ≡ length ls = length_lits ls in
        let within : at + 2 * length (of_constraint k) ≤ length s = stands_within size inner r.stands in
        let fits : total + (length ls + sum length ways) ≤ most.literals = r.is_fine.fits in
        let behind : next ≡ at + 2 * length (of_constraint k) = r.behind in
        let rest : Stands s (at + 2) inner = stands_rest r.stands in
        let front : Stands s (at + 2) (of_alternative ls) = stands_left (of_alternative ls) (flat of_alternative ways) rest in
        let mid : ℕ = at + 2 + 2 * length (of_alternative ls) in
        let e₁ : field s (sizes at) at ≡ found size (at + 2) =
        fielded s (sizes at) at size (at + 2)
        (record {
          there = stands_there r.stands;
          value = stands_value r.stands;
          is_fine = fine_size (length s - (at + 2)) size (record { even = omega arith; some = omega arith; fits = omega arith });
          behind = refl;
        }) in
        let e₂ : field s (counts size (at + 2)) (at + 2) ≡ found (length ls) (at + 2 + 2) =
        fielded s (counts size (at + 2)) (at + 2) (length ls) (at + 2 + 2)
        (record {
          there = stands_there front;
          value = stands_value front;
          is_fine = fine_conditions (at + 2 + size - (at + 2 + 2)) most.literals total (length ls) (omega arith);
          behind = refl;
        }) in
        let e₃ : times (literal s atoms) (length ls) (at + 2 + 2) ≡ found ls mid =
        (finds_literals s atoms (length ls)).reads (at + 2 + 2) ls mid
        (record { stands = stands_rest front; is_fine = record { count = refl; named = r.is_fine.is_fine.named }; behind = omega arith }) in
        let e₄ : alternatives s most atoms (at + 2 + size) (size / 2) (total + length ls) mid ≡ found ways (at + 2 + size) =
        alternatives_reads s most atoms (at + 2 + size) (size / 2) (total + length ls) mid ways
        (record {
          stands = stands_right (of_alternative ls) rest;
          is_fine = r.is_fine.is_fine.ways;
          fits = omega arith;
          ends = omega arith;
        })
        (omega arith) in
        let on : at + 2 + size ≡ next = omega arith in
        ap (λ (st : Step ℕ). after st from_count) e₁
        ∙ ap (λ (st : Step ℕ). after st (from_lits size (at + 2 + size))) e₂
        ∙ ap (λ (st : Step (List Lit)). after st (λ zs at'. after (alternatives s most atoms (at + 2 + size) (size / 2) (total + length ls) at') (made zs))) e₃
        ∙ ap (λ (st : Step (List (List Lit))). after st (made ls)) e₄
        ∙ ap (found k) on
