-- An image is accepted as the book b exactly if b is written in it: version, length, b's words from byte 5 on and nothing
-- behind them; and b is within the limits and without loops.
-- Assumes nothing.
use Rattle.std.specs.Prelude.{ℕ, ◌+◌, ◌-◌, ◌*◌, ◌≤◌, ◌≡◌, refl, Bool, true, false, List, ◌∷◌, ◌++◌, length, get_or, leb, eqb}
use Rattle.std.proofs.Common.{sym, ap, ap₂, ◌∙◌, subst, subst₂, arith, length-append, leb-true, le-leb, eqb-true, eq-eqb}
use Rattle.base.specs.paper.Bools.{choose}
use Rattle.base.specs.Bools.{choose_true}
use Rattle.base.specs.paper.Lists.{Every, flat, sum}
use Rattle.image.specs.paper.Book.{Lit, Clause, Constraint, Book, body_count, literal_count}
use Rattle.image.specs.paper.Walk.{Step, found, fault, Walk, after, give, field, running, times, Finding, fine, wrong, unless}
use Rattle.image.specs.WalkLaws.{Fielded, field_found, fielded, never}
use Rattle.image.specs.paper.Faults.{Limits, limits, wrong_atoms, wrong_abducibles, wrong_count}
use Rattle.image.specs.FaultLaws.{atoms_fine, fine_atoms, abducibles_fine, fine_abducibles, count_fine, fine_count, unless_held, unless_next}
use Rattle.image.specs.paper.Loops.{loop_free}
use Rattle.image.specs.paper.Decode.{literal, clause, constraint, counted, clauses_and_constraints, book, ends, whole, length_field, wrong_front, loop_place, Decoded, accepted, refused, in_order, decode}
use Rattle.image.specs.Spell.{of_lits, of_alternative, of_clause, of_constraint, of_both, words, Stands, more}
use Rattle.image.specs.StandsLaws.{stands_at, stands_join, stands_left, stands_right, stands_there, stands_value, stands_rest}
use Rattle.image.specs.Finds.{Read, Finds, after_found, Named, finds_literals, Ran, ran_length, ran_every, ran_sum, every_ran, finds_running, ClauseFine, ClauseFits, finds_clause, ConstraintFine, ConstraintFits, finds_constraint}
use Rattle.image.specs.paper.Front.{atoms_at, version, version_at}

-- every limit of paper 01, 3.4, and what the walk asks of each literal, head and alternative
pub record Within (most : Limits) (b : Book) : Type 0 where
  pub some : 1 ≤ b.atoms
  pub atoms : b.atoms ≤ most.atoms
  pub abducibles : b.abducibles ≤ most.abducibles
  pub among : b.abducibles ≤ b.atoms
  pub goal : length b.goal ≤ most.goal
  pub goal_named : Every (Named b.atoms) b.goal
  pub clauses : length b.clauses ≤ most.clauses
  pub clauses_fine : Every (ClauseFine b.atoms b.abducibles) b.clauses
  pub bodies : sum body_count b.clauses ≤ most.bodies
  pub constraints : length b.constraints ≤ most.constraints
  pub constraints_fine : Every (ConstraintFine b.atoms) b.constraints
  pub literals : sum literal_count b.constraints ≤ most.literals

-- ---- a count and its things

-- at most so many, and fine
pub record Counted {A : Type 0} (most : ℕ) (Fine : List A → Type 0) (xs : List A) : Type 0 where
  pub few : length xs ≤ most
  pub is_fine : Fine xs

-- as many as were counted, and fine
pub record AsMany {A : Type 0} (Fine : List A → Type 0) (n : ℕ) (xs : List A) : Type 0 where
  pub count : length xs ≡ n
  pub is_fine : Fine xs

pub finds_counted : {A : Type 0} (s : List ℕ) (most : ℕ) (w : ℕ → Walk (List A)) (spell : List A → List ℕ) (Fine : List A → Type 0)
    → ((n : ℕ) → Finds s (w n) spell (AsMany Fine n)) → Finds s (counted s most w) (λ xs. length xs ∷ spell xs) (Counted most Fine)
unfolding counted
finds_counted {A} s most w spell Fine things = record { finds = finds; reads = reads }
  where
    finds : (at : ℕ) (xs : List A) (next : ℕ) → after (field s (wrong_count most) at) (λ n. w n) ≡ found xs next
        → Read s (λ ys. length ys ∷ spell ys) (Counted most Fine) at xs next
    finds at xs next e =
        let f = after_found (field s (wrong_count most) at) (λ n. w n) xs next e in
        let countAt = field_found s (wrong_count most) at f.0 f.1 f.2 in
        let thingsAt = (things f.0).finds f.1 xs next f.3 in
        let n : length xs ≡ f.0 = thingsAt.is_fine.count in
        let few : f.0 ≤ most = count_fine most f.0 countAt.is_fine in
        let b₁ : f.1 ≡ at + 2 = countAt.behind in
        let b₂ : next ≡ f.1 + 2 * length (spell xs) = thingsAt.behind in
        record {
          stands = more countAt.there (countAt.value ∙ sym n) (stands_at b₁ thingsAt.stands);
          is_fine = record { few = omega arith; is_fine = thingsAt.is_fine.is_fine };
          behind = omega arith;
        }

    reads : (at : ℕ) (xs : List A) (next : ℕ) → Read s (λ ys. length ys ∷ spell ys) (Counted most Fine) at xs next
        → after (field s (wrong_count most) at) (λ n. w n) ≡ found xs next
    reads at xs next r =
        let b : next ≡ at + 2 * length (length xs ∷ spell xs) = r.behind in
        let e₁ : field s (wrong_count most) at ≡ found (length xs) (at + 2) =
        fielded s (wrong_count most) at (length xs) (at + 2)
        (record {
          there = stands_there r.stands;
          value = stands_value r.stands;
          is_fine = fine_count most (length xs) r.is_fine.few;
          behind = refl;
        }) in
        ap (λ (st : Step ℕ). after st (λ n. w n)) e₁
        ∙ (things (length xs)).reads (at + 2) xs next
        (record { stands = stands_rest r.stands; is_fine = record { count = refl; is_fine = r.is_fine.is_fine }; behind = omega arith })

-- ---- goal, clauses and constraints

-- things that are all fine and weigh at most so much together
pub record Lot {A : Type 0} (P : A → Type 0) (weight : A → ℕ) (most : ℕ) (xs : List A) : Type 0 where
  pub each : Every P xs
  pub total : sum weight xs ≤ most

-- a running list whose things are fine by themselves and as long as the sum stays within the limit
pub finds_lot : {A : Type 0} (s : List ℕ) (w : ℕ → Walk A) (weight : A → ℕ) (spell : A → List ℕ) (P : A → Type 0) (most : ℕ) (Fine : ℕ → A → Type 0)
    → ((t : ℕ) (x : A) → Fine t x → P x) → ((t : ℕ) (x : A) → Fine t x → t + weight x ≤ most)
    → ((t : ℕ) (x : A) → P x → t + weight x ≤ most → Fine t x) → ((t : ℕ) → Finds s (w t) spell (Fine t))
    → (n : ℕ) → Finds s (running w weight n 0) (flat spell) (AsMany (Lot P weight most) n)
finds_lot {A} s w weight spell P most Fine fine→P fine→fits P→fine one n = record { finds = finds; reads = reads }
  where
    run : Finds s (running w weight n 0) (flat spell) (Ran Fine weight n 0)
    run = finds_running s w weight spell Fine one n 0

    finds : (at : ℕ) (xs : List A) (next : ℕ) → running w weight n 0 at ≡ found xs next → Read s (flat spell) (AsMany (Lot P weight most) n) at xs next
    finds at xs next e =
        let r = run.finds at xs next e in
        let t : 0 + sum weight xs ≤ most = ran_sum most fine→fits r.is_fine (omega arith) in
        record {
          stands = r.stands;
          is_fine = record { count = ran_length r.is_fine; is_fine = record { each = ran_every fine→P r.is_fine; total = omega arith } };
          behind = r.behind;
        }

    reads : (at : ℕ) (xs : List A) (next : ℕ) → Read s (flat spell) (AsMany (Lot P weight most) n) at xs next → running w weight n 0 at ≡ found xs next
    reads at xs next r =
        let t : sum weight xs ≤ most = r.is_fine.is_fine.total in
        run.reads at xs next
        (record {
          stands = r.stands;
          is_fine =
              subst (λ (k : ℕ). Ran Fine weight k 0 xs) r.is_fine.count
              (every_ran Fine weight P most P→fine 0 xs r.is_fine.is_fine.each (omega arith));
          behind = r.behind;
        })

finds_clauses : (s : List ℕ) (most : Limits) (atoms abducibles : ℕ)
    → Finds s (counted s most.clauses (λ n. running (clause s most atoms abducibles) body_count n 0)) (λ cs. length cs ∷ flat of_clause cs)
    (Counted most.clauses (Lot (ClauseFine atoms abducibles) body_count most.bodies))
finds_clauses s most atoms abducibles =
    finds_counted s most.clauses (λ n. running (clause s most atoms abducibles) body_count n 0) (flat of_clause)
    (Lot (ClauseFine atoms abducibles) body_count most.bodies)
    (finds_lot s (clause s most atoms abducibles) body_count of_clause (ClauseFine atoms abducibles) most.bodies (ClauseFits most.bodies atoms abducibles)
    (λ t c h. h.is_fine) (λ t c h. h.fits) (λ t c h k. record { is_fine = h; fits = k }) (finds_clause s most atoms abducibles))

finds_constraints : (s : List ℕ) (most : Limits) (atoms : ℕ)
    → Finds s (counted s most.constraints (λ n. running (constraint s most atoms) literal_count n 0)) (λ ks. length ks ∷ flat of_constraint ks)
    (Counted most.constraints (Lot (ConstraintFine atoms) literal_count most.literals))
finds_constraints s most atoms =
    finds_counted s most.constraints (λ n. running (constraint s most atoms) literal_count n 0) (flat of_constraint)
    (Lot (ConstraintFine atoms) literal_count most.literals)
    (finds_lot s (constraint s most atoms) literal_count of_constraint (ConstraintFine atoms) most.literals (ConstraintFits most.literals atoms)
    (λ t k h. h.is_fine) (λ t k h. h.fits) (λ t k h j. record { is_fine = h; fits = j }) (finds_constraint s most atoms))

finds_goal : (s : List ℕ) (most : Limits) (atoms : ℕ)
    → Finds s (counted s most.goal (times (literal s atoms))) of_alternative (Counted most.goal (Every (Named atoms)))
finds_goal s most atoms =
    finds_counted s most.goal (times (literal s atoms)) of_lits (Every (Named atoms)) (λ n. record { finds = finds n; reads = reads n })
  where
    finds : (n at : ℕ) (ls : List Lit) (next : ℕ) → times (literal s atoms) n at ≡ found ls next → Read s of_lits (AsMany (Every (Named atoms)) n) at ls next
    finds n at ls next e =
        let r = (finds_literals s atoms n).finds at ls next e in
        record { stands = r.stands; is_fine = record { count = r.is_fine.count; is_fine = r.is_fine.named }; behind = r.behind }

    reads : (n at : ℕ) (ls : List Lit) (next : ℕ) → Read s of_lits (AsMany (Every (Named atoms)) n) at ls next → times (literal s atoms) n at ≡ found ls next
    reads n at ls next r =
        (finds_literals s atoms n).reads at ls next
        (record { stands = r.stands; is_fine = record { count = r.is_fine.count; named = r.is_fine.is_fine }; behind = r.behind })

abbrev Both : Type 0
Both = List Clause × List Constraint

abbrev spelled : Both → List ℕ
spelled r = of_both r.0 r.1

record BothFine (most : Limits) (atoms abducibles : ℕ) (r : Both) : Type 0 where
  clauses : Counted most.clauses (Lot (ClauseFine atoms abducibles) body_count most.bodies) r.0
  constraints : Counted most.constraints (Lot (ConstraintFine atoms) literal_count most.literals) r.1

finds_both : (s : List ℕ) (most : Limits) (atoms abducibles : ℕ) → Finds s (clauses_and_constraints s most atoms abducibles) spelled (BothFine most atoms abducibles)
unfolding clauses_and_constraints
finds_both s most atoms abducibles = record { finds = finds; reads = reads }
  where
    cs : Walk (List Clause)
    cs = counted s most.clauses (λ n. running (clause s most atoms abducibles) body_count n 0)

    ks : Walk (List Constraint)
    ks = counted s most.constraints (λ n. running (constraint s most atoms) literal_count n 0)

    from : List Clause → Walk Both
    from x at = after (ks at) (λ y. give (x, y))

    finds : (at : ℕ) (r : Both) (next : ℕ) → after (cs at) from ≡ found r next → Read s spelled (BothFine most atoms abducibles) at r next
    finds at r next e =
        let f = after_found (cs at) from r next e in
        let g = after_found (ks f.1) (λ y. give (f.0, y)) r next f.3 in
        let csAt = (finds_clauses s most atoms abducibles).finds at f.0 f.1 f.2 in
        let ksAt = (finds_constraints s most atoms).finds f.1 g.0 g.1 g.2 in
        let b₁ : f.1 ≡ at + 2 * length (length f.0 ∷ flat of_clause f.0) = csAt.behind in
        let b₂ : g.1 ≡ f.1 + 2 * length (length g.0 ∷ flat of_constraint g.0) = ksAt.behind in
        let is : ◌≡◌ {A = Both} (f.0, g.0) r = cc g.3 in
        let on : g.1 ≡ next = cc g.3 in
        subst (λ (q : Both). Read s spelled (BothFine most atoms abducibles) at q next) is
        (record {
          stands = stands_join csAt.stands (stands_at b₁ ksAt.stands);
          is_fine = record { clauses = csAt.is_fine; constraints = ksAt.is_fine };
          behind = omega (arith, length-append (length f.0 ∷ flat of_clause f.0) (length g.0 ∷ flat of_constraint g.0));
        })

    reads : (at : ℕ) (r : Both) (next : ℕ) → Read s spelled (BothFine most atoms abducibles) at r next → after (cs at) from ≡ found r next
    reads at r next h =
        let front : List ℕ = length r.0 ∷ flat of_clause r.0 in
        let back : List ℕ = length r.1 ∷ flat of_constraint r.1 in
        let mid : ℕ = at + 2 * length front in
        let e₁ : cs at ≡ found r.0 mid =
        (finds_clauses s most atoms abducibles).reads at r.0 mid
        (record { stands = stands_left front back h.stands; is_fine = h.is_fine.clauses; behind = refl }) in
        let b : next ≡ at + 2 * length (front ++ back) = h.behind in
        let e₂ : ks mid ≡ found r.1 next =
        (finds_constraints s most atoms).reads mid r.1 next
        (record { stands = stands_right front h.stands; is_fine = h.is_fine.constraints; behind = omega (arith, length-append front back) }) in
        ap (λ (st : Step (List Clause)). after st from) e₁ ∙ ap (λ (st : Step (List Constraint)). after st (λ y. give (r.0, y))) e₂

abbrev make : ℕ → ℕ → List Lit → Both → Book
make a b g r = record { atoms = a; abducibles = b; goal = g; clauses = r.0; constraints = r.1 }

pub finds_book : (s : List ℕ) (most : Limits) → Finds s (book s most) words (Within most)
unfolding book words
finds_book s most = record { finds = finds; reads = reads }
  where
    goals : ℕ → Walk (List Lit)
    goals a = counted s most.goal (times (literal s a))

    from_both : ℕ → ℕ → List Lit → Walk Book
    from_both a b g at = after (clauses_and_constraints s most a b at) (λ r. give (make a b g r))

    from_goal : ℕ → ℕ → Walk Book
    from_goal a b at = after (goals a at) (from_both a b)

    from_abducibles : ℕ → Walk Book
    from_abducibles a at = after (field s (wrong_abducibles most.abducibles a) at) (from_goal a)

    parts : (at a at₁ b at₂ : ℕ) (g : List Lit) (at₃ : ℕ) (r : Both) (next : ℕ)
        → Fielded s (wrong_atoms most.atoms) at a at₁
        → Fielded s (wrong_abducibles most.abducibles a) at₁ b at₂
        → Read s of_alternative (Counted most.goal (Every (Named a))) at₂ g at₃
        → Read s spelled (BothFine most a b) at₃ r next
        → Read s words (Within most) at (make a b g r) next
    parts at a at₁ b at₂ g at₃ r next atoms_at abducAt goal_at rulesAt =
        let atomsFine = atoms_fine most.atoms a atoms_at.is_fine in
        let abducFine = abducibles_fine most.abducibles a b abducAt.is_fine in
        let b₁ : at₁ ≡ at + 2 = atoms_at.behind in
        let b₂ : at₂ ≡ at₁ + 2 = abducAt.behind in
        let b₃ : at₃ ≡ at₂ + 2 * length (of_alternative g) = goal_at.behind in
        let b₄ : next ≡ at₃ + 2 * length (spelled r) = rulesAt.behind in
        record {
          stands =
              more atoms_at.there atoms_at.value
              (stands_at b₁
              (more abducAt.there abducAt.value (stands_at b₂ (stands_join goal_at.stands (stands_at b₃ rulesAt.stands)))));
          is_fine =
              record {
                some = atomsFine.0;
                atoms = atomsFine.1;
                abducibles = abducFine.0;
                among = abducFine.1;
                goal = goal_at.is_fine.few;
                goal_named = goal_at.is_fine.is_fine;
                clauses = rulesAt.is_fine.clauses.few;
                clauses_fine = rulesAt.is_fine.clauses.is_fine.each;
                bodies = rulesAt.is_fine.clauses.is_fine.total;
                constraints = rulesAt.is_fine.constraints.few;
                constraints_fine = rulesAt.is_fine.constraints.is_fine.each;
                literals = rulesAt.is_fine.constraints.is_fine.total;
              };
          behind = omega (arith, length-append (of_alternative g) (spelled r));
        }

    finds : (at : ℕ) (b : Book) (next : ℕ) → after (field s (wrong_atoms most.atoms) at) from_abducibles ≡ found b next → Read s words (Within most) at b next
    finds at b next e =
        let f = after_found (field s (wrong_atoms most.atoms) at) from_abducibles b next e in
        let g = after_found (field s (wrong_abducibles most.abducibles f.0) f.1) (from_goal f.0) b next f.3 in
        let h = after_found (goals f.0 g.1) (from_both f.0 g.0) b next g.3 in
        let j = after_found (clauses_and_constraints s most f.0 g.0 h.1) (λ r. give (make f.0 g.0 h.0 r)) b next h.3 in
        subst₂ (λ (q : Book) (m : ℕ). Read s words (Within most) at q m) (cc j.3) (cc j.3)
        (parts at f.0 f.1 g.0 g.1 h.0 h.1 j.0 j.1
        (field_found s (wrong_atoms most.atoms) at f.0 f.1 f.2)
        (field_found s (wrong_abducibles most.abducibles f.0) f.1 g.0 g.1 g.2)
        ((finds_goal s most f.0).finds g.1 h.0 h.1 h.2)
        ((finds_both s most f.0 g.0).finds h.1 j.0 j.1 j.2))

    reads : (at : ℕ) (b : Book) (next : ℕ) → Read s words (Within most) at b next → after (field s (wrong_atoms most.atoms) at) from_abducibles ≡ found b next
    reads at b next r =
        let w = r.is_fine in
        let goal : List ℕ = of_alternative b.goal in
        let rest : List ℕ = of_both b.clauses b.constraints in
        let behind : next ≡ at + 2 * length (words b) = r.behind in
        let st₁ = stands_rest r.stands in
        let st₂ : Stands s (at + 2 + 2) (goal ++ rest) = stands_rest st₁ in
        let mid : ℕ = at + 2 + 2 + 2 * length goal in
        let e₁ : field s (wrong_atoms most.atoms) at ≡ found b.atoms (at + 2) =
        fielded s (wrong_atoms most.atoms) at b.atoms (at + 2)
        (record {
          there = stands_there r.stands;
          value = stands_value r.stands;
          is_fine = fine_atoms most.atoms b.atoms (w.some, w.atoms);
          behind = refl;
        }) in
        let e₂ : field s (wrong_abducibles most.abducibles b.atoms) (at + 2) ≡ found b.abducibles (at + 2 + 2) =
        fielded s (wrong_abducibles most.abducibles b.atoms) (at + 2) b.abducibles (at + 2 + 2)
        (record {
          there = stands_there st₁;
          value = stands_value st₁;
          is_fine = fine_abducibles most.abducibles b.atoms b.abducibles (w.abducibles, w.among);
          behind = refl;
        }) in
        let e₃ : goals b.atoms (at + 2 + 2) ≡ found b.goal mid =
        (finds_goal s most b.atoms).reads (at + 2 + 2) b.goal mid
        (record { stands = stands_left goal rest st₂; is_fine = record { few = w.goal; is_fine = w.goal_named }; behind = refl }) in
        let e₄ : clauses_and_constraints s most b.atoms b.abducibles mid ≡ found (b.clauses, b.constraints) next =
        (finds_both s most b.atoms b.abducibles).reads mid (b.clauses, b.constraints) next
        (record {
          stands = stands_right goal st₂;
          is_fine =
              record {
                clauses = record { few = w.clauses; is_fine = record { each = w.clauses_fine; total = w.bodies } };
                constraints = record { few = w.constraints; is_fine = record { each = w.constraints_fine; total = w.literals } };
              };
          behind = omega (arith, length-append goal rest);
        }) in
        ap (λ (st : Step ℕ). after st from_abducibles) e₁
        ∙ ap (λ (st : Step ℕ). after st (from_goal b.atoms)) e₂
        ∙ ap (λ (st : Step (List Lit)). after st (from_both b.atoms b.abducibles)) e₃
        ∙ ap (λ (st : Step Both). after st (λ q. give (make b.atoms b.abducibles b.goal q))) e₄

-- ---- the image

-- version and length are right
pub record Front (s : List ℕ) : Type 0 where
  pub long : atoms_at ≤ length s
  pub version : get_or s version_at 0 ≡ version
  pub size : length_field s ≡ length s - atoms_at

front_fine : (s : List ℕ) → wrong_front s ≡ fine → Front s
unfolding wrong_front
front_fine s e =
    let third : Finding = unless (eqb (length_field s) (length s - atoms_at)) 3 fine in
    let second : Finding = unless (eqb (get_or s version_at 0) version) 2 third in
    let e₁ = unless_next (leb atoms_at (length s)) 1 second e in
    let e₂ = unless_next (eqb (get_or s version_at 0) version) 2 third e₁ in
    record {
      long = leb-true atoms_at (length s) (unless_held (leb atoms_at (length s)) 1 second e);
      version = eqb-true (get_or s version_at 0) version (unless_held (eqb (get_or s version_at 0) version) 2 third e₁);
      size = eqb-true (length_field s) (length s - atoms_at) (unless_held (eqb (length_field s) (length s - atoms_at)) 3 fine e₂);
    }

pub fine_front : (s : List ℕ) → Front s → wrong_front s ≡ fine
unfolding wrong_front
fine_front s h = simp (le-leb _ _ h.long, eq-eqb _ _ h.version, eq-eqb _ _ h.size)

pub record Written (s : List ℕ) (b : Book) : Type 0 where
  pub front : Front s
  pub stands : Stands s atoms_at (words b)
  pub over : length s ≡ atoms_at + 2 * length (words b)
  pub within : Within limits b
  pub free : loop_free b ≡ true

ends_found : (s : List ℕ) (at : ℕ) (u : Unit {0}) (next : ℕ) → ends s at ≡ found u next → (at ≡ length s) × (at ≡ next)
unfolding ends
ends_found s at u next e = go (eqb at (length s)) refl e
  where
    go : (t : Bool) → eqb at (length s) ≡ t → choose t (found tt at) (fault 4 at) ≡ found u next → (at ≡ length s) × (at ≡ next)
    go true t q = (eqb-true at (length s) t, cc (q))
    go false t q = absurd (never q)

pub whole_found : (s : List ℕ) (most : Limits) (at : ℕ) (b : Book) (next : ℕ) → whole s most at ≡ found b next
    → Read s words (Within most) at b next × (next ≡ length s)
unfolding whole
whole_found s most at b next e =
    let over : Book → Walk Book = λ c at'. after (ends s at') (λ _. give c) in
    let f = after_found (book s most at) over b next e in
    let g = after_found (ends s f.1) (λ _. give f.0) b next f.3 in
    let h = ends_found s f.1 g.0 g.1 g.2 in
    let is : f.0 ≡ b = cc g.3 in
    let on : g.1 ≡ next = cc g.3 in
    let same : f.1 ≡ next = h.1 ∙ on in
    (subst₂ (λ (c : Book) (m : ℕ). Read s words (Within most) at c m) is same ((finds_book s most).finds at f.0 f.1 f.2), sym same ∙ h.0)

pub found_whole : (s : List ℕ) (most : Limits) (at : ℕ) (b : Book) → Read s words (Within most) at b (length s) → whole s most at ≡ found b (length s)
unfolding whole ends
found_whole s most at b r =
    ap (λ (st : Step Book). after st (λ c at'. after (ends s at') (λ _. give c))) ((finds_book s most).reads at b (length s) r)
    ∙ ap (λ (st : Step (Unit {0})). after st (λ _. give b)) (choose_true (found tt (length s)) (fault 4 (length s)) (eq-eqb (length s) (length s) refl))

is_accepted : Decoded → Type 0
is_accepted (accepted b) = Unit {0}
is_accepted (refused n p) = ⊥

not_refused : {n p : ℕ} {b : Book} → refused n p ≡ accepted b → ⊥
unfolding is_accepted
not_refused e = subst is_accepted (sym e) tt

pub decode_written : (s : List ℕ) (b : Book) → decode s ≡ accepted b → Written s b
unfolding decode in_order
decode_written s b e = go (wrong_front s) (whole s limits atoms_at) refl refl e
  where
    free : (c : Book) (t : Bool) → loop_free c ≡ t → choose t (accepted c) (refused 9 (loop_place c)) ≡ accepted b → (c ≡ b) × (loop_free c ≡ true)
    free c true t q = (cc (q), t)
    free c false t q = absurd (not_refused q)

    go : (f : Finding) (st : Step Book) → wrong_front s ≡ f → whole s limits atoms_at ≡ st → in_order s f st ≡ accepted b → Written s b
    go (wrong n) st p q r = absurd (not_refused r)
    go fine (fault n at) p q r = absurd (not_refused r)
    go fine (found c next) p q r =
        let w = whole_found s limits atoms_at c next q in
        let f = free c (loop_free c) refl r in
        subst (Written s) f.0
        (record {
          front = front_fine s p;
          stands = w.0.stands;
          over = sym w.1 ∙ w.0.behind;
          within = w.0.is_fine;
          free = f.1;
        })

pub written_decode : (s : List ℕ) (b : Book) → Written s b → decode s ≡ accepted b
unfolding decode in_order
written_decode s b w =
    ap₂ (in_order s) (fine_front s w.front) (found_whole s limits atoms_at b (record { stands = w.stands; is_fine = w.within; behind = w.over }))
    ∙ choose_true (accepted b) (refused 9 (loop_place b)) w.free
