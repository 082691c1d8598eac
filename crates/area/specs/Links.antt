-- The links of the clauses by head: each clause's way and record lead to those of the next clause with its head.
-- Assumes nothing.
use Rattle.std.specs.Prelude.{ℕ, zero, suc, ◌+◌, ◌-◌, ◌≤◌, ◌<◌, ◌≡◌, refl, Bool, true, false, List, eqb, length, get_or, set}
use Rattle.std.proofs.Common.{arith, sym, ap, subst, ◌∙◌, eqb-true, length-set}
use Rattle.std.proofs.lemmas.Bool.{eqb-false}
use Rattle.base.specs.paper.Bools.{choose}
use Rattle.image.specs.paper.Faults.{limits}
use Rattle.area.specs.Area.{joins, no_link, literals, clause_records, wanted_true, wanted_false, clause_record, clause_way, Long}
use Rattle.area.specs.Lay.{set_here, set_there}

-- the head of clause i, while it stands in the clause's way
abbrev pub head_in : List ℕ → ℕ → ℕ
head_in work i = get_or work (clause_way i + 1) 0

-- of n clauses from c on the first with head p, by its entry; e where there is none
abbrev pub next : (ℕ → ℕ) → (ℕ → ℕ) → ℕ → ℕ → ℕ → ℕ → ℕ
next heads entry e p c zero = e
next heads entry e p c (suc n) = choose (eqb (heads c) p) (entry c) (next heads entry e p (suc c) n)

-- a record's link, of what an atom's opposite has: none, where that joins, as it does with no record
abbrev pub shut : ℕ → ℕ
shut r = choose (eqb r joins) no_link r

pub record Unlinked (work : List ℕ) (count : ℕ) : Type 0 where
  pub few : count ≤ limits.clauses
  pub long : Long work
  pub heads : (i : ℕ) → i < count → head_in work i < limits.atoms

-- Those from c on are linked.
pub record Linked (work : List ℕ) (count : ℕ) (after : List ℕ) (c : ℕ) : Type 0 where
  pub left : ℕ
  pub sum : c + left ≡ count
  pub size : length after ≡ length work
  pub ways : (p : ℕ) → p < limits.atoms → get_or after (wanted_true p) 0 ≡ next (head_in work) clause_way (get_or work (wanted_true p) 0) p c left
  pub records : (p : ℕ) → p < limits.atoms → get_or after (wanted_false p) 0 ≡ next (head_in work) clause_record (get_or work (wanted_false p) 0) p c left
  pub way : (i m : ℕ) → c ≤ i → i + suc m ≡ count → get_or after (clause_way i + 1) 0 ≡ next (head_in work) clause_way (get_or work (wanted_true (head_in work i)) 0) (head_in work i) (suc i) m
  pub recorded : (i m : ℕ) → c ≤ i → i + suc m ≡ count
      → get_or after (clause_record i + 1) 0 ≡ shut (next (head_in work) clause_record (get_or work (wanted_false (head_in work i)) 0) (head_in work i) (suc i) m)
  pub heads : (i : ℕ) → i < c → get_or after (clause_way i + 1) 0 ≡ head_in work i
  pub stays : (j : ℕ) → (literals ≤ j → j < clause_records → ⊥) → ((i : ℕ) → i < count → j ≡ clause_way i + 1 → ⊥) → ((i : ℕ) → i < count → j ≡ clause_record i + 1 → ⊥) → get_or after j 0 ≡ get_or work j 0

-- clause c is the next to be linked
pub record LinkDue (work : List ℕ) (c : ℕ) : Type 0 where
  pub few : c < limits.clauses
  pub long : Long work
  pub small : head_in work c < limits.atoms

-- and is linked, where y is the entry of its head
abbrev pub linking : List ℕ → ℕ → ℕ → List ℕ
linking after c y =
    set (set (set (set after (clause_way c + 1) (get_or after y 0)) (clause_record c + 1) (shut (get_or after (y + 1) 0))) y (clause_way c)) (y + 1) (clause_record c)

module _ (after : List ℕ) (clause entry : ℕ) where
  linking_length : length (linking after clause entry) ≡ length after
  linking_length = simp length-set

  linking_other : (j : ℕ) → (j ≡ clause_way clause + 1 → ⊥) → (j ≡ clause_record clause + 1 → ⊥) → (j ≡ entry → ⊥) → (j ≡ entry + 1 → ⊥) → get_or (linking after clause entry) j 0 ≡ get_or after j 0
  linking_other j p q r t =
      set_there (set (set (set after (clause_way clause + 1) (get_or after entry 0)) (clause_record clause + 1) (shut (get_or after (entry + 1) 0))) entry (clause_way clause)) (entry + 1) (clause_record clause) j t
      ∙ set_there (set (set after (clause_way clause + 1) (get_or after entry 0)) (clause_record clause + 1) (shut (get_or after (entry + 1) 0))) entry (clause_way clause) j r
      ∙ set_there (set after (clause_way clause + 1) (get_or after entry 0)) (clause_record clause + 1) (shut (get_or after (entry + 1) 0)) j q
      ∙ set_there after (clause_way clause + 1) (get_or after entry 0) j p

  module _ (low : entry < clause_records) (few : clause < limits.clauses) (long : Long after) where
    l1 : length (set after (clause_way clause + 1) (get_or after entry 0)) ≡ length after
    l1 = length-set after (clause_way clause + 1) (get_or after entry 0)

    l2 : length (set (set after (clause_way clause + 1) (get_or after entry 0)) (clause_record clause + 1) (shut (get_or after (entry + 1) 0))) ≡ length after
    l2 = simp length-set

    l3 : length (set (set (set after (clause_way clause + 1) (get_or after entry 0)) (clause_record clause + 1) (shut (get_or after (entry + 1) 0))) entry (clause_way clause)) ≡ length after
    l3 = simp length-set

    linking_way : entry + 1 < clause_records → get_or (linking after clause entry) (clause_way clause + 1) 0 ≡ get_or after entry 0
    linking_way h =
        set_there (set (set (set after (clause_way clause + 1) (get_or after entry 0)) (clause_record clause + 1) (shut (get_or after (entry + 1) 0))) entry (clause_way clause)) (entry + 1) (clause_record clause) (clause_way clause + 1) (λ z. omega (arith, z))
        ∙ set_there (set (set after (clause_way clause + 1) (get_or after entry 0)) (clause_record clause + 1) (shut (get_or after (entry + 1) 0))) entry (clause_way clause) (clause_way clause + 1) (λ z. omega (arith, z))
        ∙ set_there (set after (clause_way clause + 1) (get_or after entry 0)) (clause_record clause + 1) (shut (get_or after (entry + 1) 0)) (clause_way clause + 1) (λ z. omega (arith, z))
        ∙ set_here after (clause_way clause + 1) (get_or after entry 0) (omega arith)

    linking_record : entry + 1 < clause_records → get_or (linking after clause entry) (clause_record clause + 1) 0 ≡ shut (get_or after (entry + 1) 0)
    linking_record h =
        set_there (set (set (set after (clause_way clause + 1) (get_or after entry 0)) (clause_record clause + 1) (shut (get_or after (entry + 1) 0))) entry (clause_way clause)) (entry + 1) (clause_record clause) (clause_record clause + 1) (λ z. omega (arith, z))
        ∙ set_there (set (set after (clause_way clause + 1) (get_or after entry 0)) (clause_record clause + 1) (shut (get_or after (entry + 1) 0))) entry (clause_way clause) (clause_record clause + 1) (λ z. omega (arith, z))
        ∙ set_here (set after (clause_way clause + 1) (get_or after entry 0)) (clause_record clause + 1) (shut (get_or after (entry + 1) 0)) (omega (arith, l1))

    linking_first : get_or (linking after clause entry) entry 0 ≡ clause_way clause
    linking_first =
        set_there (set (set (set after (clause_way clause + 1) (get_or after entry 0)) (clause_record clause + 1) (shut (get_or after (entry + 1) 0))) entry (clause_way clause)) (entry + 1) (clause_record clause) entry (λ z. omega (arith, z))
        ∙ set_here (set (set after (clause_way clause + 1) (get_or after entry 0)) (clause_record clause + 1) (shut (get_or after (entry + 1) 0))) entry (clause_way clause) (omega (arith, l2))

    linking_second : get_or (linking after clause entry) (entry + 1) 0 ≡ clause_record clause
    linking_second =
        set_here (set (set (set after (clause_way clause + 1) (get_or after entry 0)) (clause_record clause + 1) (shut (get_or after (entry + 1) 0))) entry (clause_way clause)) (entry + 1) (clause_record clause) (omega (arith, l3))

module _ (work : List ℕ) (count : ℕ) (pre : Unlinked work count) where
  pub linked_start : Linked work count work count
  linked_start = record {
    left = 0;
    sum = omega arith;
    size = refl;
    ways = λ p q. refl;
    records = λ p q. refl;
    way = λ i m p q. absurd (omega arith);
    recorded = λ i m p q. absurd (omega arith);
    heads = λ i h. refl;
    stays = λ j p q r. refl;
  }

  pub link_due : (after : List ℕ) (c : ℕ) → 1 ≤ c → Linked work count after c → LinkDue after (c - 1)
  link_due after c h l =
      let sum : c + l.left ≡ count = l.sum in
      record {
        few = omega (arith, pre.few);
        long = omega (arith, l.size, pre.long);
        small = omega (arith, l.heads (c - 1) (omega arith), pre.heads (c - 1) (omega arith));
      }

  pub linked_step : (after : List ℕ) (d y : ℕ) → Linked work count after (d + 1) → y ≡ wanted_true (head_in work d) → Linked work count (linking after d y) d
  linked_step after d y l e = record {
    left = suc l.left;
    sum = omega (arith, sum);
    size = linking_length after d y ∙ l.size;
    ways = λ p q. first p q (eqb (head_in work d) p) refl;
    records = λ p q. second p q (eqb (head_in work d) p) refl;
    way = λ i m p q. way i m p q (eqb i d) refl;
    recorded = λ i m p q. recorded i m p q (eqb i d) refl;
    heads = λ i h. linking_other after d y (clause_way i + 1) (λ z. omega (arith, z)) (λ z. omega (arith, z, few)) (λ z. omega (arith, z, low)) (λ z. omega (arith, z, low)) ∙ l.heads i (omega arith);
    stays =
        λ j p q r.
        linking_other after d y j (q d (omega (arith, sum))) (r d (omega (arith, sum))) (λ z. p (omega (arith, z, low)) (omega (arith, z, low))) (λ z. p (omega (arith, z, low)) (omega (arith, z, low)))
        ∙ l.stays j p q r;
  }
    where
      sum : d + 1 + l.left ≡ count
      sum = l.sum

      up : d + 1 ≡ suc d
      up = omega arith

      few : d < limits.clauses
      few = omega (arith, sum, pre.few)

      small : head_in work d < limits.atoms
      small = pre.heads d (omega (arith, sum))

      low : (literals ≤ y) × (y + 1 < clause_records)
      low = (omega (arith, e), omega (arith, e, small))

      long : Long after
      long = omega (arith, l.size, pre.long)

      old_first : (p : ℕ) → p < limits.atoms → get_or after (wanted_true p) 0 ≡ next (head_in work) clause_way (get_or work (wanted_true p) 0) p (suc d) l.left
      old_first p q = subst (λ (c : ℕ). get_or after (wanted_true p) 0 ≡ next (head_in work) clause_way (get_or work (wanted_true p) 0) p c l.left) up (l.ways p q)

      old_second : (p : ℕ) → p < limits.atoms → get_or after (wanted_false p) 0 ≡ next (head_in work) clause_record (get_or work (wanted_false p) 0) p (suc d) l.left
      old_second p q = subst (λ (c : ℕ). get_or after (wanted_false p) 0 ≡ next (head_in work) clause_record (get_or work (wanted_false p) 0) p c l.left) up (l.records p q)

      first : (p : ℕ) → p < limits.atoms → (t : Bool) → eqb (head_in work d) p ≡ t
          → get_or (linking after d y) (wanted_true p) 0 ≡ choose t (clause_way d) (next (head_in work) clause_way (get_or work (wanted_true p) 0) p (suc d) l.left)
      first p q true t =
          let same : wanted_true p ≡ y = omega (arith, e, eqb-true (head_in work d) p t) in
          ap (λ (j : ℕ). get_or (linking after d y) j 0) same ∙ linking_first after d y (omega (arith, low)) few long
      first p q false t =
          let differs : head_in work d ≡ p → ⊥ = eqb-false (head_in work d) p t in
          linking_other after d y (wanted_true p) (λ z. omega (arith, z)) (λ z. omega (arith, z)) (λ z. differs (omega (arith, z, e))) (λ z. omega (arith, z, e)) ∙ old_first p q

      second : (p : ℕ) → p < limits.atoms → (t : Bool) → eqb (head_in work d) p ≡ t
          → get_or (linking after d y) (wanted_false p) 0 ≡ choose t (clause_record d) (next (head_in work) clause_record (get_or work (wanted_false p) 0) p (suc d) l.left)
      second p q true t =
          let same : wanted_false p ≡ y + 1 = omega (arith, e, eqb-true (head_in work d) p t) in
          ap (λ (j : ℕ). get_or (linking after d y) j 0) same ∙ linking_second after d y (omega (arith, low)) few long
      second p q false t =
          let differs : head_in work d ≡ p → ⊥ = eqb-false (head_in work d) p t in
          linking_other after d y (wanted_false p) (λ z. omega (arith, z)) (λ z. omega (arith, z)) (λ z. omega (arith, z, e)) (λ z. differs (omega (arith, z, e))) ∙ old_second p q

      way : (i m : ℕ) → d ≤ i → i + suc m ≡ count → (t : Bool) → eqb i d ≡ t
          → get_or (linking after d y) (clause_way i + 1) 0 ≡ next (head_in work) clause_way (get_or work (wanted_true (head_in work i)) 0) (head_in work i) (suc i) m
      way i m p q true t =
          let same : i ≡ d = eqb-true i d t in
          let n : m ≡ l.left = omega (arith, sum) in
          subst (λ (k : ℕ). get_or (linking after d y) (clause_way k + 1) 0 ≡ next (head_in work) clause_way (get_or work (wanted_true (head_in work k)) 0) (head_in work k) (suc k) m) (sym same)
          (subst (λ (k : ℕ). get_or (linking after d y) (clause_way d + 1) 0 ≡ next (head_in work) clause_way (get_or work (wanted_true (head_in work d)) 0) (head_in work d) (suc d) k) (sym n)
          (linking_way after d y (omega (arith, low)) few long low.1 ∙ ap (λ (j : ℕ). get_or after j 0) e ∙ old_first (head_in work d) small))
      way i m p q false t =
          let differs : i ≡ d → ⊥ = eqb-false i d t in
          linking_other after d y (clause_way i + 1) (λ z. differs (omega (arith, z))) (λ z. omega (arith, z, few)) (λ z. omega (arith, z, low)) (λ z. omega (arith, z, low))
          ∙ l.way i m (omega (arith, differs)) q

      recorded : (i m : ℕ) → d ≤ i → i + suc m ≡ count → (t : Bool) → eqb i d ≡ t
          → get_or (linking after d y) (clause_record i + 1) 0 ≡ shut (next (head_in work) clause_record (get_or work (wanted_false (head_in work i)) 0) (head_in work i) (suc i) m)
      recorded i m p q true t =
          let same : i ≡ d = eqb-true i d t in
          let n : m ≡ l.left = omega (arith, sum) in
          let one : y + 1 ≡ wanted_false (head_in work d) = omega (arith, e) in
          subst (λ (k : ℕ). get_or (linking after d y) (clause_record k + 1) 0 ≡ shut (next (head_in work) clause_record (get_or work (wanted_false (head_in work k)) 0) (head_in work k) (suc k) m)) (sym same)
          (subst (λ (k : ℕ). get_or (linking after d y) (clause_record d + 1) 0 ≡ shut (next (head_in work) clause_record (get_or work (wanted_false (head_in work d)) 0) (head_in work d) (suc d) k)) (sym n)
          (linking_record after d y (omega (arith, low)) few long low.1 ∙ ap shut (ap (λ (j : ℕ). get_or after j 0) one ∙ old_second (head_in work d) small)))
      recorded i m p q false t =
          let differs : i ≡ d → ⊥ = eqb-false i d t in
          linking_other after d y (clause_record i + 1) (λ z. omega (arith, z, pre.few, q)) (λ z. differs (omega (arith, z))) (λ z. omega (arith, z, low)) (λ z. omega (arith, z, low))
          ∙ l.recorded i m (omega (arith, differs)) q

  -- the same as the code does it
  pub linked_next : (after : List ℕ) (c : ℕ) (after' : List ℕ) → 1 ≤ c → Linked work count after c → after' ≡ linking after (c - 1) (wanted_true (head_in after (c - 1)))
      → Linked work count after' (c - 1)
  linked_next after c after' h l e =
      let up : c ≡ c - 1 + 1 = omega arith in
      subst (λ (u : List ℕ). Linked work count u (c - 1)) (sym e)
      (linked_step after (c - 1) (wanted_true (head_in after (c - 1))) (subst (Linked work count after) up l) (ap (λ (p : ℕ). wanted_true p) (l.heads (c - 1) (omega arith))))
