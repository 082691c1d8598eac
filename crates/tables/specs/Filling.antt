-- The tables are filled: the literals, the clauses and the constraints, and what then stands in the work area.
-- Assumes nothing.
use Rattle.std.specs.Prelude.{ℕ, zero, suc, ◌+◌, ◌≤◌, ◌<◌, ◌≡◌, Bool, true, false, List, [], ◌∷◌, ◌++◌, map, eqb, length, get_or, take, drop}
use Rattle.std.proofs.Common.{arith, sym, ap₂, subst, subst₂, ◌∙◌, inl, inr, eqb-true, ne_eqb, drop_of_length-le, drop-cons}
use Rattle.std.proofs.Math.Path.{refl, ap}
use Rattle.std.proofs.Math.Seq.{drop-nil}
use Rattle.base.specs.paper.Bools.{choose}
use Rattle.base.specs.Bools.{choose_false}
use Rattle.base.specs.paper.Lists.{Every, sum, filter, put}
use Rattle.base.specs.Lists.{every_none, every_more}
use Rattle.image.specs.paper.Book.{Lit, Clause, Constraint, Book, body_count, literal_count}
use Rattle.image.specs.Encode.{longest_image_lem}
use Rattle.image.specs.paper.Walk.{field_at}
use Rattle.image.specs.paper.Decode.{decode, accepted}
use Rattle.image.specs.Written.{Within}
use Rattle.image.specs.paper.Faults.{limits}
use Rattle.image.specs.Shown.{skip, clause_count_at, constraint_count_at, clause_place, no_clause, no_constraint, Shown, shown, abducibles_at}
use Rattle.image.specs.Accepted.{within, book_in}
use Rattle.image.specs.Places.{clauses_fit}
use Rattle.sets.specs.paper.Kept.{zeros}
use Rattle.meaning.specs.paper.Meaning.{clauses_for}
use Rattle.searching.specs.paper.Rules.{Task, break, keep, opposites, on}
use Rattle.area.specs.Ground.{Listed, Chain, Records, Wanting, Denied, undefined, broken, Ground, Tabled}
use Rattle.area.specs.Area.{fails, joins, joins_set, no_mark, no_link, literals, clause_records, constraint_records, ways, trail, wanted_true, wanted_false, clause_record, constraint_record, clause_way, Long}
use Rattle.area.specs.Lay.{of, Short, listed_same, row_same, row_chain, LiteralsLaid, wiped_zero, wiped_length, wiped_stays}
use Rattle.area.specs.Links.{head_in, next, shut, Unlinked, Linked}
use Rattle.tables.specs.Clauses.{clause_of, sum_none, sum_all, sum_rises, get_or_∈, break_ways, clause_at_lem, ClausesDue, ClausesLaid}
use Rattle.tables.specs.Constraints.{constraint_ways, ConstraintsDue, ConstraintsLaid}
use Rattle.image.specs.paper.Front.{atoms_at}

-- ---- what wanting each literal does

-- What stands before the tables of clauses and constraints are filled: no mark, and each atom's literals.
pub record Ready (image after : List ℕ) : Type 0 where
  pub book : decode image ≡ accepted (book_in image)
  pub long : Long after
  pub unmarked : (p : ℕ) → p < limits.atoms → get_or after p 0 ≡ no_mark
  pub assumable : (p : ℕ) → p < (book_in image).abducibles → Wanting (of after) p joins_set joins
  pub defined : (p : ℕ) → (book_in image).abducibles ≤ p → p < (book_in image).atoms → Wanting (of after) p fails joins

pub record AtomsLaid (image work after : List ℕ) : Type 0 where
  pub size : length after ≡ length work
  pub ready : Ready image after
  pub stays : (j : ℕ) → clause_records ≤ j → get_or after j 0 ≡ get_or work j 0

-- the counts in front of the image
pub record Front (image : List ℕ) : Type 0 where
  pub atoms : field_at image atoms_at ≡ (book_in image).atoms
  pub abducibles : field_at image abducibles_at ≡ (book_in image).abducibles
  pub most : (book_in image).atoms ≤ limits.atoms
  pub among : (book_in image).abducibles ≤ (book_in image).atoms
  pub short : Short image

pub front : (image : List ℕ) → decode image ≡ accepted (book_in image) → Front image
front image e =
    let sh : Shown image (book_in image) = shown image (book_in image) e in
    let fine : Within limits (book_in image) = within image (book_in image) e in
    record {
      atoms = sh.atoms;
      abducibles = sh.abducibles;
      most = fine.atoms;
      among = fine.among;
      short = longest_image_lem image (book_in image) e;
    }

pub atoms_laid : (image work after₀ after₁ after₂ : List ℕ) (atoms abducibles : ℕ) → decode image ≡ accepted (book_in image) → Long work → atoms ≡ field_at image atoms_at → abducibles ≡ field_at image abducibles_at
    → after₀ ≡ zeros literals ++ drop literals work → LiteralsLaid after₀ 0 abducibles joins_set after₁ → LiteralsLaid after₁ abducibles atoms fails after₂ → AtomsLaid image work after₂
atoms_laid image work after₀ after₁ after₂ atoms abducibles e long p q z l₁ l₂ =
    let f = front image e in
    let a : atoms ≡ (book_in image).atoms = p ∙ f.atoms in
    let b : abducibles ≡ (book_in image).abducibles = q ∙ f.abducibles in
    let among = f.among in
    let most = f.most in
    let size₀ : length after₀ ≡ length work = ap length z ∙ wiped_length work literals (omega arith) in
    let size : length after₂ ≡ length work = l₂.size ∙ l₁.size ∙ size₀ in
    record {
      size = size;
      ready =
          record {
            book = e;
            long = omega arith;
            unmarked = λ j h. l₂.stays j (λ x y. omega arith) ∙ l₁.stays j (λ x y. omega arith) ∙ ap (λ (u : List ℕ). get_or u j 0) z ∙ wiped_zero work literals j h;
            assumable = λ j h. (l₂.stays (wanted_true j) (λ x y. omega arith) ∙ (l₁.written j (omega arith) (omega arith)).0, l₂.stays (wanted_false j) (λ x y. omega arith) ∙ (l₁.written j (omega arith) (omega arith)).1);
            defined = λ j g h. l₂.written j (omega arith) (omega arith);
          };
      stays = λ j h. l₂.stays j (λ x y. omega arith) ∙ l₁.stays j (λ x y. omega arith) ∙ ap (λ (u : List ℕ). get_or u j 0) z ∙ wiped_stays work literals j (omega arith);
    }

-- ---- the tables

-- They are filled.
pub record Filled (image work after : List ℕ) : Type 0 where
  pub size : length after ≡ length work
  pub grounded : Ground image (book_in image) (of after)
  pub area : Tabled (of after) after []
  pub stays : (j : ℕ) → trail ≤ j → get_or after j 0 ≡ get_or work j 0

pub opposites_single : (ls : List Lit) → Every (λ (ks : List Lit). length ks ≤ 1) (opposites ls)
opposites_single [] = every_none (λ (ks : List Lit). length ks ≤ 1)
opposites_single (l ∷ ls) = every_more (omega arith) (opposites_single ls)

shut_next : (heads : ℕ → ℕ) (p c n : ℕ) → shut (next heads clause_record joins p c n) ≡ next heads clause_record no_link p c n
shut_next heads p c zero = refl
shut_next heads p c (suc n) = go (eqb (heads c) p) (shut_next heads p (suc c) n)
  where
    go : (t : Bool) → shut (next heads clause_record joins p (suc c) n) ≡ next heads clause_record no_link p (suc c) n → shut (choose t (clause_record c) (next heads clause_record 1 p (suc c) n)) ≡ choose t (clause_record c) (next heads clause_record no_link p (suc c) n)
    go true r = choose_false no_link (clause_record c) (ne_eqb (clause_record c) joins (λ z. omega (arith, z)))
    go false r = r

-- where no clause has head p, its literal's number stays
next_none : (heads entry : ℕ → ℕ) (e p c n : ℕ) → ((i : ℕ) → c ≤ i → i < c + n → heads i ≡ p → ⊥) → next heads entry e p c n ≡ e
next_none heads entry e p c zero h = refl
next_none heads entry e p c (suc n) h = go (eqb (heads c) p) refl (next_none heads entry e p (suc c) n (λ i a b. h i (omega arith) (omega arith)))
  where
    go : (t : Bool) → eqb (heads c) p ≡ t → next heads entry e p (suc c) n ≡ e → choose t (entry c) (next heads entry e p (suc c) n) ≡ e
    go true z r = absurd (h c (omega arith) (omega arith) (eqb-true (heads c) p z))
    go false z r = r

at_drop : {A : Type 0} (l : List A) (k : ℕ) (d a : A) (later : List A) → drop k l ≡ a ∷ later → (k < length l) × (get_or l k d ≡ a)
at_drop [] k d a later e = let f : a ∷ later ≡ [] = sym e ∙ drop-nil k in let z : ◌≡◌ {A = ℕ} 0 1 = cc in absurd (omega arith)
at_drop (x ∷ l) zero d a later e = (omega arith, cc)
at_drop (x ∷ l) (suc k) d a later e = let r = at_drop l k d a later e in (omega (arith, r.0), r.1)

module _ (image work after₁ after₂ after : List ℕ) (ready : Ready image work) (at way : ℕ) (laid : ClausesLaid image work after₁ (length (book_in image).clauses) at way)
    (linked : Linked after₁ (length (book_in image).clauses) after₂ 0) (base : ℕ) (first : base ≡ constraint_ways (book_in image) 0) (constrained : ConstraintsLaid image after₂ base after) where
  abbrev b : Book
  b = book_in image

  abbrev tab : ℕ → ℕ
  tab = of after

  fine : Within limits b
  fine = within image b ready.book

  few : length b.clauses ≤ limits.clauses
  few = fine.clauses

  base_is : base ≡ break_ways b (length b.clauses)
  base_is = omega (arith, first, sum_all body_count b.clauses)

  base_low : clause_way (length b.clauses) ≤ base
  base_low = omega (arith, first)

  count : linked.left ≡ length b.clauses
  count = omega (arith, linked.sum)

  abbrev clause : ℕ → Clause
  clause i = clause_of b i

  -- below the records of the constraints only the linking writes
  low : (j : ℕ) → j < constraint_records → get_or after j 0 ≡ get_or after₂ j 0
  low j h = constrained.stays j (λ x y. omega arith) (λ x y. omega (arith, base_low))

  in_ways : (j : ℕ) → ways ≤ j → j < base → get_or after j 0 ≡ get_or after₂ j 0
  in_ways j p q = constrained.stays j (λ x y. omega arith) (λ x y. omega arith)

  heads_are : (i : ℕ) → i < length b.clauses → head_in after₁ i ≡ (clause i).head
  heads_are i h = (laid.tables i h).head

  literals_stay : (j : ℕ) → j < clause_records → get_or after₁ j 0 ≡ get_or work j 0
  literals_stay j h = laid.stays j (λ x y. omega arith) (λ x y. omega arith)

  -- what wanting an atom does, and what wanting its opposite does
  way_of : (p : ℕ) → p < limits.atoms → tab (wanted_true p) ≡ next (head_in after₁) clause_way (get_or work (wanted_true p) 0) p 0 (length b.clauses)
  way_of p h =
      low (wanted_true p) (omega arith) ∙ linked.ways p h
      ∙ ap₂ (λ (e n : ℕ). next (head_in after₁) clause_way e p 0 n) (literals_stay (wanted_true p) (omega arith)) count

  record_of : (p : ℕ) → p < limits.atoms → tab (wanted_false p) ≡ next (head_in after₁) clause_record (get_or work (wanted_false p) 0) p 0 (length b.clauses)
  record_of p h =
      low (wanted_false p) (omega arith) ∙ linked.records p h
      ∙ ap₂ (λ (e n : ℕ). next (head_in after₁) clause_record e p 0 n) (literals_stay (wanted_false p) (omega arith)) count

  -- a head is a defined atom
  head_fine : (i : ℕ) → i < length b.clauses → (b.abducibles ≤ head_in after₁ i) × (head_in after₁ i < b.atoms)
  head_fine i h =
      let f = fine.clauses_fine (clause i) (get_or_∈ b.clauses i no_clause h) in
      (omega (arith, heads_are i h, f.defined), omega (arith, heads_are i h, f.known))

  -- clause i in the tables
  listed : (i : ℕ) → i < length b.clauses → Listed image tab (tab (clause_way i)) (clause i).body
  listed i h =
      let f = few in
      subst (λ (n : ℕ). Listed image tab n (clause i).body)
      (sym (in_ways (clause_way i) (omega arith) (omega (arith, base_low)) ∙ linked.stays (clause_way i) (λ x y. omega arith) (λ k x y. omega (arith, y)) (λ k x y. omega (arith, y))))
      (listed_same image (λ j. 0) tab (laid.tables i h).listed)

  next_way : (i n : ℕ) → i + suc n ≡ length b.clauses → tab (clause_way i + 1) ≡ next (head_in after₁) clause_way no_link (head_in after₁ i) (suc i) n
  next_way i n e =
      let f = head_fine i (omega arith) in
      in_ways (clause_way i + 1) (omega arith) (omega (arith, base_low)) ∙ linked.way i n (omega arith) e
      ∙ ap (λ (k : ℕ). next (head_in after₁) clause_way k (head_in after₁ i) (suc i) n)
      (literals_stay (wanted_true (head_in after₁ i)) (omega (arith, f.1, fine.atoms)) ∙ (ready.defined (head_in after₁ i) f.0 f.1).0)

  next_record : (i n : ℕ) → i + suc n ≡ length b.clauses → tab (clause_record i + 1) ≡ next (head_in after₁) clause_record no_link (head_in after₁ i) (suc i) n
  next_record i n e =
      let f = head_fine i (omega arith) in
      let all = few in
      low (clause_record i + 1) (omega arith) ∙ linked.recorded i n (omega arith) e
      ∙ ap (λ (k : ℕ). shut (next (head_in after₁) clause_record k (head_in after₁ i) (suc i) n))
      (literals_stay (wanted_false (head_in after₁ i)) (omega (arith, f.1, fine.atoms)) ∙ (ready.defined (head_in after₁ i) f.0 f.1).1)
      ∙ shut_next (head_in after₁) (head_in after₁ i) (suc i) n

  broken_chain : (i : ℕ) → i < length b.clauses → Chain image tab (tab (clause_record i)) (opposites (clause i).body)
  broken_chain i h =
      let all = few in
      let rises : sum body_count (take (i + 1) b.clauses) ≤ sum body_count (take (length b.clauses) b.clauses) = sum_rises body_count b.clauses (i + 1) (length b.clauses) (omega arith) in
      let end : break_ways b (i + 1) ≤ base = omega (arith, base_is) in
      let k = clause_at_lem image b ready.book i h in
      let room : break_ways b (i + 1) ≤ trail = k.room in
      subst (λ (n : ℕ). Chain image tab n (opposites (clause i).body))
      (sym (low (clause_record i) (omega arith) ∙ linked.stays (clause_record i) (λ x y. omega arith) (λ m x y. omega (arith, y)) (λ m x y. omega (arith, y))))
      (row_chain image tab (break_ways b i) (break_ways b (i + 1)) (omega arith) room
      (row_same image (of after₁) tab (break_ways b i) (break_ways b (i + 1)) (break_ways b i) (break_ways b (i + 1)) (omega arith) (omega arith)
      (λ j x y. in_ways j (omega arith) (omega arith) ∙ linked.stays j (λ a c. omega arith) (λ m a c. omega (arith, c)) (λ m a c. omega (arith, c)))
      (laid.tables i h).broken))

  abbrev for : ℕ → ℕ → List Clause
  for p c = filter (λ (k : Clause). eqb k.head p) (drop c b.clauses)

  none_from : (p c : ℕ) → c + 0 ≡ length b.clauses → for p c ≡ []
  none_from p c e = ap (filter (λ (k : Clause). eqb k.head p)) (drop_of_length-le b.clauses {i = c} (omega arith))

  some_from : (p c n : ℕ) → c + suc n ≡ length b.clauses → for p c ≡ put (eqb (head_in after₁ c) p) (clause c) (for p (suc c))
  some_from p c n e =
      ap (filter (λ (k : Clause). eqb k.head p)) (drop-cons b.clauses c no_clause (omega arith))
      ∙ ap (λ (h : ℕ). put (eqb h p) (clause c) (for p (suc c))) (sym (heads_are c (omega arith)))

  -- the ways to p through its clauses from c on
  ways_from : (p c n : ℕ) → c + n ≡ length b.clauses → Chain image tab (next (head_in after₁) clause_way no_link p c n) (map (λ (k : Clause). k.body) (for p c))
  ways_from p c zero e = subst (λ (ks : List Clause). Chain image tab no_link (map (λ (k : Clause). k.body) ks)) (sym (none_from p c e)) Chain.end
  ways_from p c (suc n) e =
      subst (λ (ks : List Clause). Chain image tab (next (head_in after₁) clause_way no_link p c (suc n)) (map (λ (k : Clause). k.body) ks)) (sym (some_from p c n e))
      (go (eqb (head_in after₁ c) p) refl (ways_from p (suc c) n (omega arith)))
    where
      go : (t : Bool) → eqb (head_in after₁ c) p ≡ t → Chain image tab (next (head_in after₁) clause_way no_link p (suc c) n) (map (λ (k : Clause). k.body) (for p (suc c)))
          → Chain image tab (choose t (clause_way c) (next (head_in after₁) clause_way no_link p (suc c) n)) (map (λ (k : Clause). k.body) (put t (clause c) (for p (suc c))))
      go true t r =
          let f = few in
          Chain.way {w = clause_way c} (omega arith) (omega arith) (listed c (omega arith))
          (subst (λ (m : ℕ). Chain image tab m (map (λ (k : Clause). k.body) (for p (suc c))))
          (sym (next_way c n e ∙ ap (λ (h : ℕ). next (head_in after₁) clause_way no_link h (suc c) n) (eqb-true (head_in after₁ c) p t))) r)
      go false t r = r

  one_record : (p c n : ℕ) → c + suc n ≡ length b.clauses → head_in after₁ c ≡ p → {ts : List Task} → Records image tab (next (head_in after₁) clause_record no_link p (suc c) n) ts → Records image tab (clause_record c) (break (clause c) ∷ ts)
  one_record p c n e t {ts} r =
      let f = few in
      Records.record_at {e = clause_record c} (omega arith) (omega arith) (broken_chain c (omega arith)) (inl (opposites_single (clause c).body))
      (subst (λ (m : ℕ). Records image tab m ts) (sym (next_record c n e ∙ ap (λ (h : ℕ). next (head_in after₁) clause_record no_link h (suc c) n) t)) r)

  records_from : (p c n : ℕ) → c + n ≡ length b.clauses → Records image tab (next (head_in after₁) clause_record no_link p c n) (map break (for p c))
  records_from p c zero e = subst (λ (ks : List Clause). Records image tab no_link (map break ks)) (sym (none_from p c e)) Records.end
  records_from p c (suc n) e =
      subst (λ (ks : List Clause). Records image tab (next (head_in after₁) clause_record no_link p c (suc n)) (map break ks)) (sym (some_from p c n e))
      (go (eqb (head_in after₁ c) p) refl (records_from p (suc c) n (omega arith)))
    where
      go : (t : Bool) → eqb (head_in after₁ c) p ≡ t → Records image tab (next (head_in after₁) clause_record no_link p (suc c) n) (map break (for p (suc c)))
          → Records image tab (choose t (clause_record c) (next (head_in after₁) clause_record no_link p (suc c) n)) (map break (put t (clause c) (for p (suc c))))
      go true t r = one_record p c n e (eqb-true (head_in after₁ c) p t) r
      go false t r = r

  denied_from : (p c n : ℕ) → c + n ≡ length b.clauses → Denied image tab (next (head_in after₁) clause_record joins p c n) (map break (for p c))
  denied_from p c zero e = subst (λ (ks : List Clause). Denied image tab joins (map break ks)) (sym (none_from p c e)) undefined
  denied_from p c (suc n) e =
      subst (λ (ks : List Clause). Denied image tab (next (head_in after₁) clause_record joins p c (suc n)) (map break ks)) (sym (some_from p c n e))
      (go (eqb (head_in after₁ c) p) refl (denied_from p (suc c) n (omega arith)))
    where
      go : (t : Bool) → eqb (head_in after₁ c) p ≡ t → Denied image tab (next (head_in after₁) clause_record joins p (suc c) n) (map break (for p (suc c)))
          → Denied image tab (choose t (clause_record c) (next (head_in after₁) clause_record joins p (suc c) n)) (map break (put t (clause c) (for p (suc c))))
      go true t r = broken (one_record p c n e (eqb-true (head_in after₁ c) p t) (records_from p (suc c) n (omega arith)))
      go false t r = r

  all_for : (p : ℕ) → clauses_for b p ≡ for p 0
  unfolding clauses_for
  all_for p = refl

  constraint_record_lem : (k : ℕ) (c : Constraint) (cs : List Constraint) → drop k b.constraints ≡ c ∷ cs → Records image tab (constraint_record k) (keep c ∷ [])
  constraint_record_lem k c cs e =
      let d = at_drop b.constraints k no_constraint c cs e in
      let less : k < length b.constraints = d.0 in
      let all : length b.constraints ≤ limits.constraints = fine.constraints in
      subst (λ (x : Constraint). Records image tab (constraint_record k) (keep x ∷ [])) d.1
      (Records.record_at {e = constraint_record k} (omega arith) (omega arith) (row_chain image tab base trail (omega (arith, base_low)) (omega arith) (constrained.rows k less)) (inr (constrained.links k less))
      (subst (λ (m : ℕ). Records image tab m []) (sym (constrained.links k less)) Records.end))

  grounded : Ground image b tab
  grounded = record {
    book = ready.book;
    assumable =
        λ p h.
        let a : p < limits.atoms = omega (arith, fine.among, fine.atoms) in
        let none : (i : ℕ) → 0 ≤ i → i < 0 + length b.clauses → head_in after₁ i ≡ p → ⊥ = λ i x y z. omega (arith, z, (head_fine i (omega arith)).0) in (
          way_of p a ∙ next_none (head_in after₁) clause_way (get_or work (wanted_true p) 0) p 0 (length b.clauses) none ∙ (ready.assumable p h).0,
          record_of p a ∙ next_none (head_in after₁) clause_record (get_or work (wanted_false p) 0) p 0 (length b.clauses) none ∙ (ready.assumable p h).1,
        );
    reached =
        λ p g h.
        let a : p < limits.atoms = omega (arith, fine.atoms) in
        subst₂ (λ (m : ℕ) (ks : List Clause). Chain image tab m (map (λ (k : Clause). k.body) ks))
        (sym (way_of p a ∙ ap (λ (e : ℕ). next (head_in after₁) clause_way e p 0 (length b.clauses)) (ready.defined p g h).0)) (sym (all_for p))
        (ways_from p 0 (length b.clauses) (omega arith));
    denied =
        λ p g h.
        let a : p < limits.atoms = omega (arith, fine.atoms) in
        subst₂ (λ (m : ℕ) (ks : List Clause). Denied image tab m (map break ks))
        (sym (record_of p a ∙ ap (λ (e : ℕ). next (head_in after₁) clause_record e p 0 (length b.clauses)) (ready.defined p g h).1)) (sym (all_for p))
        (denied_from p 0 (length b.clauses) (omega arith));
    constraint = constraint_record_lem;
    last = constrained.last;
    cell = constrained.cells;
  }

  zero_marks : (p : ℕ) → p < limits.atoms → get_or after p 0 ≡ no_mark
  zero_marks p h =
      low p (omega arith) ∙ linked.stays p (λ x y. omega arith) (λ i x y. omega (arith, y)) (λ i x y. omega (arith, y)) ∙ literals_stay p (omega arith) ∙ ready.unmarked p h

  all_size : length after ≡ length work
  all_size = constrained.size ∙ linked.size ∙ laid.size

  pub filled : Filled image work after
  unfolding on
  filled = record {
    size = all_size;
    grounded = grounded;
    area = record { long = omega (arith, all_size, ready.long); tabled = λ j p q. refl; marked = zero_marks };
    stays =
        λ j h.
        let f = few in
        constrained.stays j (λ x y. omega arith) (λ x y. omega arith)
        ∙ linked.stays j (λ x y. omega arith) (λ i x y. omega (arith, y)) (λ i x y. omega (arith, y))
        ∙ laid.stays j (λ x y. omega arith) (λ x y. omega arith);
  }

-- ---- the tables, as the code fills them

module _ (image work : List ℕ) (ready : Ready image work) (clauses : ℕ) (is-clauses : clauses ≡ clause_count_at image) where
  pub tables_front : (clauses + 2 ≤ length image) × Short image
  tables_front = (omega (arith, is-clauses, clauses_fit image ready.book), (front image ready.book).short)

  module _ (count : ℕ) (is-count : count ≡ field_at image clauses) where
    counted : count ≡ length (book_in image).clauses
    counted = is-count ∙ ap (field_at image) is-clauses ∙ (shown image (book_in image) ready.book).clauses

    pub clauses_asked : ClausesDue image work (clauses + 2) count
    unfolding skip
    clauses_asked = record { book = ready.book; place = ap (λ (k : ℕ). k + 2) is-clauses; counted = counted; long = ready.long }

    module _ (after₁ : List ℕ) (at way : ℕ) (laid : ClausesLaid image work after₁ count at way) where
      pub links_asked : Unlinked after₁ count
      links_asked =
          let fine : Within limits (book_in image) = within image (book_in image) ready.book in
          record {
            few = omega (arith, counted, fine.clauses);
            long = omega (arith, laid.size, ready.long);
            heads =
                λ i h.
                let less : i < length (book_in image).clauses = omega (arith, counted) in
                omega (arith, (laid.tables i h).head, (clause_at_lem image (book_in image) ready.book i less).known);
          }

      constraints_place : at ≡ constraint_count_at image
      unfolding constraint_count_at
      constraints_place = laid.place ∙ ap (clause_place image) (is-count ∙ ap (field_at image) is-clauses)

      pub constraints_front : (at + 2 ≤ length image) × Short image
      constraints_front = (omega (arith, constraints_place, (shown image (book_in image) ready.book).fits), (front image ready.book).short)

      module _ (after₂ : List ℕ) (linked : Linked after₁ count after₂ 0) (many : ℕ) (is-many : many ≡ field_at image at) where
        way_is : way ≡ constraint_ways (book_in image) 0
        way_is =
            let from : way ≡ break_ways (book_in image) (length (book_in image).clauses) = laid.way_is ∙ ap (break_ways (book_in image)) counted in
            omega (arith, sum_all body_count (book_in image).clauses, sum_none literal_count (book_in image).constraints)

        pub constraints_asked : ConstraintsDue image after₂ (at + 2) way many
        unfolding skip
        constraints_asked = record {
          book = ready.book;
          place = ap (λ (k : ℕ). k + 2) constraints_place;
          way_is = way_is;
          counted = is-many ∙ ap (field_at image) constraints_place ∙ (shown image (book_in image) ready.book).constraints;
          long = omega (arith, linked.size, laid.size, ready.long);
        }

        pub tables_filled : (after : List ℕ) → ConstraintsLaid image after₂ way after → Filled image work after
        tables_filled after constrained =
            filled image work after₁ after₂ after ready at way (subst (λ (k : ℕ). ClausesLaid image work after₁ k at way) counted laid) (subst (λ (k : ℕ). Linked after₁ k after₂ 0) counted linked) way way_is constrained

-- ---- atoms and tables

pub all_filled : (image u work after : List ℕ) → AtomsLaid image u work → Filled image work after → Filled image u after
all_filled image u work after a f = record {
  size = f.size ∙ a.size;
  grounded = f.grounded;
  area = f.area;
  stays = λ j h. f.stays j h ∙ a.stays j (omega arith);
}
