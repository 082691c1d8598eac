-- Where the fields of a book stand whose numbers are its own atoms, the walk of paper 01, 4 finds that book, or ends with 5 where some
-- count does not keep its limit, or with 7 where some head is an abducible: nothing else can be wrong.
-- Assumes nothing.
use Prim.Native.Nat.{ℕ, zero, suc, ◌+◌, ◌-◌, ◌*◌, ◌/◌, ◌≤◌, ◌<◌}
use native.Mathlib.Omega.{arith}
use Rattle.std.specs.Prelude.{◌≡◌, Bool, true, false, leb, ltb}
use Rattle.std.proofs.Math.Path.{refl, subst}
use Rattle.std.proofs.Common.{sym, ap, ◌∙◌, leb-false, le-leb, lt-ltb, le-ltb, eq-eqb}
use mathlib.Core.List.{List, [], ◌∷◌, ◌++◌}
use Rattle.std.proofs.Math.ListN.{length, length-append}
use Rattle.base.specs.paper.Bools.{choose}
use Rattle.base.specs.Bools.{clash, choose_true, choose_false}
use Rattle.base.specs.paper.Lists.{Every, flat, sum}
use Rattle.base.specs.Lists.{Some, every_first, every_rest}
use Rattle.image.specs.paper.Front.{atoms_at}
use Rattle.image.specs.paper.Book.{Lit, Clause, Constraint, Book, body_count, literal_count}
use Rattle.image.specs.paper.Walk.{Step, found, fault, Walk, after, give, Finding, fine, wrong, unless, and_then, tested, field, running, times}
use Rattle.image.specs.WalkLaws.{field_there}
use Rattle.image.specs.paper.Faults.{Limits, wrong_atoms, wrong_abducibles, wrong_count, wrong_head, wrong_size, wrong_clause, wrong_conditions, wrong_alternative, body_of}
use Rattle.image.specs.FaultLaws.{fine_size}
use Rattle.image.specs.paper.Decode.{literal, clause, alternative, alternatives, inside, constraint, counted, clauses_and_constraints, book, ends, whole}
use Rattle.image.specs.paper.Spell.{of_lits, of_alternative, of_clause, of_constraint, of_both, words}
use Rattle.image.specs.Spell.{Stands}
use Rattle.image.specs.StandsLaws.{stands_at, stands_left, stands_right, stands_there, stands_value, stands_rest, stands_within}
use Rattle.image.specs.Finds.{Named, AlternativeFine, ConstraintFine, length_lits, finds_literals}

-- a walk finds x, or ends with 5 where the limits L are not kept, or with 7 where H holds
pub data Fair (L H : Type 0) {A : Type 0} (x : A) (next : ℕ) : Step A → Type 0 where
  same : Fair L H x next (found x next)
  five : {at : ℕ} → (L → ⊥) → Fair L H x next (fault 5 at)
  seven : {at : ℕ} → H → Fair L H x next (fault 7 at)

-- a test finds nothing, or one of the two under the same condition
data Mild (L H : Type 0) : Finding → Type 0 where
  none : Mild L H fine
  five : (L → ⊥) → Mild L H (wrong 5)
  seven : H → Mild L H (wrong 7)

mild_held : {L H : Type 0} (t : Bool) (n : ℕ) {f : Finding} → t ≡ true → Mild L H f → Mild L H (unless t n f)
mild_held true n e m = m
mild_held false n e m = clash e refl

mild_limit : {L H : Type 0} (x most : ℕ) {f : Finding} → (L → x ≤ most) → Mild L H f → Mild L H (unless (leb x most) 5 f)
mild_limit {L} {H} x most {f} h m = go (leb x most) refl
  where
    go : (t : Bool) → leb x most ≡ t → Mild L H (unless t 5 f)
    go true e = m
    go false e = Mild.five (λ l. omega (arith, h l, leb-false x most e))

mild_seven : {L H : Type 0} (t : Bool) {f : Finding} → (t ≡ false → H) → Mild L H f → Mild L H (unless t 7 f)
mild_seven true h m = m
mild_seven false h m = Mild.seven (h refl)

fair_after : {L H A B : Type 0} {x : A} {m : ℕ} {y : B} {next : ℕ} (st : Step A) (k : A → Walk B) → Fair L H x m st → Fair L H y next (k x m) → Fair L H y next (after st k)
fair_after st k same f = f
fair_after st k (five h) f = five h
fair_after st k (seven h) f = seven h

fair_to : {L H A : Type 0} {x : A} {m n : ℕ} {st : Step A} → m ≡ n → Fair L H x m st → Fair L H x n st
fair_to {L} {H} {x = x} {st = st} e f = subst (λ (k : ℕ). Fair L H x k st) e f

fair_found : {L H A : Type 0} {x : A} {next : ℕ} {st : Step A} → st ≡ found x next → Fair L H x next st
fair_found {L} {H} {x = x} {next = next} e = subst (Fair L H x next) (sym e) same

fair_tested : {L H : Type 0} (v at : ℕ) (f : Finding) → Mild L H f → Fair L H v (at + 2) (tested f v at)
fair_tested v at f none = same
fair_tested v at f (five h) = five h
fair_tested v at f (seven h) = seven h

abbrev pub Body : ℕ → Clause → Type 0
Body atoms c = (c.head < atoms) × Every (Named atoms) c.body

-- a book whose numbers are its own atoms, and whose alternatives have literals
pub record Told (b : Book) : Type 0 where
  pub among : b.abducibles ≤ b.atoms
  pub goal : Every (Named b.atoms) b.goal
  pub clauses : Every (Body b.atoms) b.clauses
  pub constraints : Every (ConstraintFine b.atoms) b.constraints

module _ {L H : Type 0} (s : List ℕ) where
  fair_field : (faults : ℕ → Finding) (at v : ℕ) (xs : List ℕ) → Stands s at (v ∷ xs) → Mild L H (faults v) → Fair L H v (at + 2) (field s faults at)
  fair_field faults at v xs h m =
      subst (Fair L H v (at + 2))
      (sym (field_there s faults at (le-leb (at + 2) (length s) (stands_there h)) ∙ ap (λ (y : ℕ). tested (faults y) y at) (stands_value h)))
      (fair_tested v at (faults v) m)

  fair_literals : (atoms n at : ℕ) (ls : List Lit) → length ls ≡ n → Every (Named atoms) ls → Stands s at (of_lits ls)
      → Fair L H ls (at + 2 * length ls) (times (literal s atoms) n at)
  fair_literals atoms n at ls e named h =
      fair_found
      ((finds_literals s atoms n).reads at ls (at + 2 * length ls) (record { stands = h; is_fine = record { count = e; named = named }; behind = omega (arith, length_lits ls) }))

  fair_running : {A : Type 0} (w : ℕ → Walk A) (weight : A → ℕ) (spell : A → List ℕ) (F : A → Type 0)
      → (most : ℕ) → ((total at : ℕ) (x : A) → F x → (L → total + weight x ≤ most) → Stands s at (spell x) → Fair L H x (at + 2 * length (spell x)) (w total at))
      → (xs : List A) (total at : ℕ) → Every F xs → (L → total + sum weight xs ≤ most) → Stands s at (flat spell xs) → Fair L H xs (at + 2 * length (flat spell xs)) (running w weight (length xs) total at)
  unfolding running
  fair_running w weight spell F most item [] total at f g h = fair_to (omega arith) same
  fair_running w weight spell F most item (x ∷ xs) total at f g h =
      fair_after (w total at) _ (item total at x (every_first f) (λ l. omega (arith, g l)) (stands_left (spell x) (flat spell xs) h))
      (fair_after (running w weight (length xs) (total + weight x) (at + 2 * length (spell x))) _
      (fair_running w weight spell F most item xs (total + weight x) (at + 2 * length (spell x)) (every_rest f) (λ l. omega (arith, g l)) (stands_right (spell x) h))
      (fair_to (omega (arith, length-append (spell x) (flat spell xs))) same))

  module _ (most : Limits) (atoms : ℕ) where
    fair_clause : (abducibles total at : ℕ) (c : Clause) → Body atoms c × (c.head < abducibles → H) → (L → total + body_count c ≤ most.bodies) → Stands s at (of_clause c)
        → Fair L H c (at + 2 * length (of_clause c)) (clause s most atoms abducibles total at)
    unfolding clause wrong_clause wrong_head
    fair_clause abducibles total at c f g h =
        let n : length (of_lits c.body) ≡ length c.body = length_lits c.body in
        let size : ℕ = 2 * length (c.head ∷ of_lits c.body) in
        let fit : at + 2 * length (of_clause c) ≤ length s = stands_within size (c.head ∷ of_lits c.body) h in
        let sized : wrong_size (length s - (at + 2)) size ≡ fine = fine_size (length s - (at + 2)) size (record { even = omega arith; some = omega arith; fits = omega arith }) in
        fair_after (field s (wrong_clause (length s - (at + 2)) most.bodies total) at) _
        (fair_field (wrong_clause (length s - (at + 2)) most.bodies total) at size (c.head ∷ of_lits c.body) h
        (subst (λ (g : Finding). Mild L H (and_then g (unless (leb (total + body_of size) most.bodies) 5 fine))) (sym sized)
        (mild_limit (total + body_of size) most.bodies (λ l. omega (arith, g l)) none)))
        (fair_after (field s (wrong_head atoms abducibles) (at + 2)) _
        (fair_field (wrong_head atoms abducibles) (at + 2) c.head (of_lits c.body) (stands_rest h)
        (mild_held (ltb c.head atoms) 6 (lt-ltb _ _ f.0.0) (mild_seven (leb abducibles c.head) (λ e. f.1 (leb-false abducibles c.head e)) none)))
        (fair_after (times (literal s atoms) (body_of size) (at + 2 + 2)) _
        (fair_literals atoms (body_of size) (at + 2 + 2) c.body (omega arith) f.0.1 (stands_rest (stands_rest h)))
        (fair_to (omega arith) same)))

    fair_ways : (end n total at : ℕ) (ways : List (List Lit)) → Every (AlternativeFine atoms) ways → (L → total + sum length ways ≤ most.literals) → Stands s at (flat of_alternative ways)
        → at + 2 * length (flat of_alternative ways) ≡ end → length (flat of_alternative ways) ≤ n
        → Fair L H ways end (alternatives s most atoms end n total at)
    unfolding alternatives alternative wrong_alternative wrong_conditions
    fair_ways end zero total at [] f g h e fuel = fair_to (omega arith) same
    fair_ways end (suc n) total at [] f g h e fuel =
        let past : end ≤ at = omega arith in
        let on : at ≡ end = omega arith in
        fair_to on (fair_found (choose_false _ _ (le-ltb at end past)))
    fair_ways end zero total at (ls ∷ ways) f g h e fuel = absurd (omega arith)
    fair_ways end (suc n) total at (ls ∷ ways) f g h e fuel =
        let m : length (of_lits ls) ≡ length ls = length_lits ls in
        let long : length (of_alternative ls ++ flat of_alternative ways) ≡ suc (length (of_lits ls)) + length (flat of_alternative ways) = length-append (of_alternative ls) (flat of_alternative ways) in
        let left : ℕ = end - (at + 2) in
        let some : 1 ≤ length ls = (every_first f).some in
        let own : Stands s at (of_alternative ls) = stands_left (of_alternative ls) (flat of_alternative ways) h in
        subst (λ (t : Bool). Fair L H (ls ∷ ways) end (choose t (after (alternative s most atoms end total at) (behind n)) (found [] at))) (sym (lt-ltb at end (omega arith)))
        (fair_after (alternative s most atoms end total at) (behind n)
        (fair_after (field s (wrong_alternative left most.literals total) at) _
        (fair_field (wrong_alternative left most.literals total) at (length ls) (of_lits ls) own
        (mild_held (leb 1 (length ls)) 8 (le-leb _ _ some)
        (mild_held (leb (2 * length ls) left) 4 (le-leb (2 * length ls) left (omega arith)) (mild_limit (total + length ls) most.literals (λ l. omega (arith, g l)) none))))
        (fair_literals atoms (length ls) (at + 2) ls refl (every_first f).named (stands_rest own)))
        (fair_after (alternatives s most atoms end n (total + length ls) (at + 2 + 2 * length ls)) _
        (fair_ways end n (total + length ls) (at + 2 + 2 * length ls) ways (every_rest f) (λ l. omega (arith, g l)) (stands_at (omega arith) (stands_right (of_alternative ls) h)) (omega arith) (omega arith))
        same))
      where
        behind : ℕ → List Lit → Walk (List (List Lit))
        behind n ls at = after (alternatives s most atoms end n (total + length ls) at) (λ rest. give (ls ∷ rest))

    fair_constraint : (total at : ℕ) (k : Constraint) → ConstraintFine atoms k → (L → total + literal_count k ≤ most.literals) → Stands s at (of_constraint k)
        → Fair L H k (at + 2 * length (of_constraint k)) (constraint s most atoms total at)
    unfolding constraint inside wrong_conditions
    fair_constraint total at k f g h =
        let ls : List Lit = k.conditions in
        let ways : List (List Lit) = k.alternatives in
        let inner : List ℕ = of_alternative ls ++ flat of_alternative ways in
        let size : ℕ = 2 * length inner in
        let end : ℕ = at + 2 + size in
        let long : length inner ≡ suc (length (of_lits ls)) + length (flat of_alternative ways) = length-append (of_alternative ls) (flat of_alternative ways) in
        let m : length (of_lits ls) ≡ length ls = length_lits ls in
        let fit : at + 2 * length (of_constraint k) ≤ length s = stands_within size inner h in
        let own : Stands s (at + 2) (of_alternative ls) = stands_left (of_alternative ls) (flat of_alternative ways) (stands_rest h) in
        let left : ℕ = end - (at + 2 + 2) in
        fair_after (field s (wrong_size (length s - (at + 2))) at) _
        (fair_field (wrong_size (length s - (at + 2))) at size inner h
        (subst (Mild L H) (sym (fine_size (length s - (at + 2)) size (record { even = omega arith; some = omega arith; fits = omega arith }))) none))
        (fair_after (field s (wrong_conditions left most.literals total) (at + 2)) _
        (fair_field (wrong_conditions left most.literals total) (at + 2) (length ls) (of_lits ls) own
        (mild_held (leb (2 * length ls) left) 4 (le-leb (2 * length ls) left (omega arith)) (mild_limit (total + length ls) most.literals (λ l. omega (arith, g l)) none)))
        (fair_after (times (literal s atoms) (length ls) (at + 2 + 2)) _
        (fair_literals atoms (length ls) (at + 2 + 2) ls refl f.named (stands_rest own))
        (fair_after (alternatives s most atoms end (size / 2) (total + length ls) (at + 2 + 2 + 2 * length ls)) _
        (fair_ways end (size / 2) (total + length ls) (at + 2 + 2 + 2 * length ls) ways f.ways (λ l. omega (arith, g l)) (stands_at (omega arith) (stands_right (of_alternative ls) (stands_rest h))) (omega arith) (omega arith))
        (fair_to (omega arith) same))))

  -- a count that may be too large, then the things
  fair_counted : {A : Type 0} (most : ℕ) (w : ℕ → Walk (List A)) (spell : List A → List ℕ) (xs : List A) (at : ℕ) → (L → length xs ≤ most) → Stands s at (length xs ∷ spell xs)
      → Fair L H xs (at + 2 + 2 * length (spell xs)) (w (length xs) (at + 2)) → Fair L H xs (at + 2 * length (length xs ∷ spell xs)) (counted s most w at)
  unfolding counted wrong_count
  fair_counted most w spell xs at g h f =
      fair_after (field s (wrong_count most) at) _ (fair_field (wrong_count most) at (length xs) (spell xs) h (mild_limit (length xs) most g none))
      (fair_to (omega arith) f)

-- every count keeps its limit
pub record Few (most : Limits) (b : Book) : Type 0 where
  pub some : 1 ≤ b.atoms
  pub atoms : b.atoms ≤ most.atoms
  pub abducibles : b.abducibles ≤ most.abducibles
  pub goal : length b.goal ≤ most.goal
  pub clauses : length b.clauses ≤ most.clauses
  pub bodies : sum body_count b.clauses ≤ most.bodies
  pub constraints : length b.constraints ≤ most.constraints
  pub literals : sum literal_count b.constraints ≤ most.literals

-- some head is an abducible
abbrev pub MarkedHead : Book → Type 0
MarkedHead b = Some (λ (c : Clause). c.head < b.abducibles) b.clauses

module _ (s : List ℕ) (most : Limits) (b : Book) (t : Told b) where
  abbrev Headed : Clause → Type 0
  Headed c = Body b.atoms c × (c.head < b.abducibles → MarkedHead b)

  fair_both : (at : ℕ) → Stands s at (of_both b.clauses b.constraints)
      → Fair (Few most b) (MarkedHead b) (b.clauses, b.constraints) (at + 2 * length (of_both b.clauses b.constraints))
      (clauses_and_constraints s most b.atoms b.abducibles at)
  unfolding clauses_and_constraints
  fair_both at h =
      let cs : List Clause = b.clauses in
      let ks : List Constraint = b.constraints in
      let front : List ℕ = length cs ∷ flat of_clause cs in
      let back : List ℕ = length ks ∷ flat of_constraint ks in
      let own : Stands s at front = stands_left front back h in
      let mid : ℕ = at + 2 * length front in
      let rest : Stands s mid back = stands_right front h in
      let one : ℕ → Walk Clause = clause s most b.atoms b.abducibles in
      let two : ℕ → Walk Constraint = constraint s most b.atoms in
      fair_after (counted s most.clauses (λ n. running one body_count n 0) at) _
      (fair_counted s most.clauses (λ n. running one body_count n 0) (flat of_clause) cs at (λ l. l.clauses) own
      (fair_running s one body_count of_clause Headed most.bodies (fair_clause s most b.atoms b.abducibles) cs 0 (at + 2)
      (λ c i. (t.clauses c i, λ h. (c, i, h))) (λ l. omega (arith, l.bodies)) (stands_rest own)))
      (fair_after (counted s most.constraints (λ n. running two literal_count n 0) mid) _
      (fair_counted s most.constraints (λ n. running two literal_count n 0) (flat of_constraint) ks mid (λ l. l.constraints) rest
      (fair_running s two literal_count of_constraint (ConstraintFine b.atoms) most.literals (fair_constraint s most b.atoms) ks 0 (mid + 2)
      t.constraints (λ l. omega (arith, l.literals)) (stands_rest rest)))
      (fair_to (omega (arith, length-append front back)) same))

  fair_book : (at : ℕ) → Stands s at (words b) → Fair (Few most b) (MarkedHead b) b (at + 2 * length (words b)) (book s most at)
  unfolding book words wrong_atoms wrong_abducibles
  fair_book at h =
      let goal : List ℕ = of_alternative b.goal in
      let rest : List ℕ = of_both b.clauses b.constraints in
      let all : Stands s (at + 2 + 2) (goal ++ rest) = stands_rest (stands_rest h) in
      let own : Stands s (at + 2 + 2) goal = stands_left goal rest all in
      let mid : ℕ = at + 2 + 2 + 2 * length goal in
      fair_after (field s (wrong_atoms most.atoms) at) _
      (fair_field s (wrong_atoms most.atoms) at b.atoms (b.abducibles ∷ (goal ++ rest)) h
      (mild_limit 1 b.atoms (λ l. l.some) (mild_limit b.atoms most.atoms (λ l. l.atoms) none)))
      (fair_after (field s (wrong_abducibles most.abducibles b.atoms) (at + 2)) _
      (fair_field s (wrong_abducibles most.abducibles b.atoms) (at + 2) b.abducibles (goal ++ rest) (stands_rest h)
      (mild_limit b.abducibles most.abducibles (λ l. l.abducibles) (mild_limit b.abducibles b.atoms (λ l. t.among) none)))
      (fair_after (counted s most.goal (times (literal s b.atoms)) (at + 2 + 2)) _
      (fair_counted s most.goal (times (literal s b.atoms)) of_lits b.goal (at + 2 + 2) (λ l. l.goal) own
      (fair_to (omega (arith, length_lits b.goal)) (fair_literals s b.atoms (length b.goal) (at + 2 + 2 + 2) b.goal refl t.goal (stands_rest own))))
      (fair_after (clauses_and_constraints s most b.atoms b.abducibles mid) _ (fair_both mid (stands_right goal all))
      (fair_to (omega (arith, length-append goal rest)) same))))

  pub fair_whole : Stands s atoms_at (words b) → length s ≡ atoms_at + 2 * length (words b)
      → Fair (Few most b) (MarkedHead b) b (length s) (whole s most atoms_at)
  unfolding whole ends
  fair_whole h e =
      fair_after (book s most atoms_at) _ (fair_to (sym e) (fair_book atoms_at h))
      (fair_after (ends s (length s)) _ (fair_found (choose_true (found tt (length s)) (fault 4 (length s)) (eq-eqb (length s) (length s) refl))) same)
