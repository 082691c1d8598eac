-- The tables of the constraints, as the loop fills them.
-- Assumes nothing.
use Rattle.std.specs.Prelude.{ℕ, zero, suc, ◌+◌, ◌*◌, ◌≤◌, ◌<◌, ◌≡◌, refl, Bool, true, false, List, [], ◌∷◌, ◌++◌, eqb, length, get_or, take}
use Rattle.std.proofs.Common.{arith, sym, ap, ap₂, subst, subst₂, ◌∙◌, eqb-true, length-append}
use Rattle.std.proofs.lemmas.Bool.{eqb-false}
use Rattle.base.specs.paper.Lists.{Every, sum, flat}
use Rattle.base.specs.Lists.{every_first, every_rest}
use Rattle.image.specs.paper.Book.{Lit, Constraint, Book, body_count, literal_count}
use Rattle.image.specs.Encode.{longest_image_lem}
use Rattle.image.specs.paper.Walk.{field_at}
use Rattle.image.specs.paper.Decode.{accepted, decode}
use Rattle.image.specs.Spell.{of_lits, of_constraint, of_alternative, Stands}
use Rattle.image.specs.StandsLaws.{stands_at, stands_left, stands_right, stands_value, stands_rest, stands_within}
use Rattle.image.specs.Finds.{length_lits}
use Rattle.image.specs.Shown.{lits_at, lits_at_lem, skip, constraint_place, no_constraint, Shown, shown}
use Rattle.image.specs.Written.{Within}
use Rattle.image.specs.paper.Faults.{limits}
use Rattle.image.specs.Accepted.{within, book_in}
use Rattle.searching.specs.paper.Rules.{opposites}
use Rattle.area.specs.Area.{no_task, no_link, constraint_records, record_width, cell_width, ways, way_width, trail, constraint_record, cell_from, Long}
use Rattle.area.specs.Ground.{CellLaid}
use Rattle.area.specs.Cells.{RecordLaid}
use Rattle.area.specs.Lay.{of, Short, Literals, lits_fit, Row, row_same, OppositesLaid, Alternatives, AlternativesDue, AlternativesLaid, link_to}
use Rattle.tables.specs.Clauses.{sum_next, sum_rises, sum_all, get_or_∈}

-- ---- constraints

-- where the ways of constraint i begin, at most
abbrev pub constraint_ways : Book → ℕ → ℕ
constraint_ways b i = ways + way_width * (length b.clauses + sum body_count b.clauses + sum literal_count (take i b.constraints))

abbrev pub constraint_of : Book → ℕ → Constraint
constraint_of b i = get_or b.constraints i no_constraint

-- the ways of a constraint
abbrev pub ways_of : Constraint → List (List Lit)
ways_of k = opposites k.conditions ++ k.alternatives

-- constraint i in the image
pub record ConstraintAt (image : List ℕ) (b : Book) (i : ℕ) : Type 0 where
  pub count : field_at image (constraint_place image i + 2) ≡ length (constraint_of b i).conditions
  pub literals : Literals image (constraint_place image i + 4) (length (constraint_of b i).conditions)
  pub conditions : lits_at image (constraint_place image i + 4) (length (constraint_of b i).conditions) ≡ (constraint_of b i).conditions
  pub alternatives : Alternatives image (constraint_place image i + 4 + 2 * length (constraint_of b i).conditions) (constraint_place image i + 2 + field_at image (constraint_place image i)) (constraint_of b i).alternatives
  pub next : constraint_place image i + 2 + field_at image (constraint_place image i) ≡ constraint_place image (i + 1)
  pub fits : constraint_place image i + 2 + field_at image (constraint_place image i) ≤ length image
  pub short : Short image
  pub ways : constraint_ways b i + way_width * (length (constraint_of b i).conditions + length (constraint_of b i).alternatives) ≤ constraint_ways b (i + 1)
  pub room : constraint_ways b (i + 1) ≤ trail
  pub few : length b.constraints ≤ limits.constraints

some_each : (lss : List (List Lit)) → Every (λ (ls : List Lit). 1 ≤ length ls) lss → length lss ≤ sum length lss
some_each [] h = omega arith
some_each (ls ∷ lss) h = let one : 1 ≤ length ls = every_first h in omega (arith, some_each lss (every_rest h))

pub constraint_at : (image : List ℕ) (b : Book) → decode image ≡ accepted b → (i : ℕ) → i < length b.constraints → ConstraintAt image b i
unfolding skip
constraint_at image b e i h =
    let sh : Shown image b = shown image b e in
    let fine : Within limits b = within image b e in
    let at : ℕ = constraint_place image i in
    let k : Constraint = constraint_of b i in
    let front : List ℕ = of_alternative k.conditions in
    let back : List ℕ = flat of_alternative k.alternatives in
    let st : Stands image at (of_constraint k) = sh.constraint i h in
    let inner : Stands image (at + 2) (front ++ back) = stands_rest st in
    let many : length (of_lits k.conditions) ≡ length k.conditions = length_lits k.conditions in
    let sum₂ : length (front ++ back) ≡ length front + length back = length-append front back in
    let size : field_at image at ≡ 2 * length (front ++ back) = stands_value st in
    let whole : at + 2 * length (of_constraint k) ≤ length image = stands_within (2 * length (front ++ back)) (front ++ back) st in
    let conds : Stands image (at + 2) front = stands_left front back inner in
    let count : field_at image (at + 2) ≡ length k.conditions = stands_value conds in
    let four : at + 2 + 2 ≡ at + 4 = omega arith in
    let behind : at + 2 + 2 * length front ≡ at + 4 + 2 * length k.conditions = omega arith in
    let body : Stands image (at + 4) (of_lits k.conditions) = stands_at four (stands_rest conds) in
    let is_fine = fine.constraints_fine k (get_or_∈ b.constraints i no_constraint h) in
    let up : i + 1 ≡ suc i = omega arith in
    let some : Every (λ (ls : List Lit). 1 ≤ length ls) k.alternatives = λ ls m. (is_fine.ways ls m).some in
    let sums : sum literal_count (take (i + 1) b.constraints) ≡ sum literal_count (take i b.constraints) + literal_count k =
    ap (λ (n : ℕ). sum literal_count (take n b.constraints)) up ∙ sum_next literal_count b.constraints i no_constraint h in
    let most : sum literal_count (take (i + 1) b.constraints) ≤ sum literal_count b.constraints =
    subst (λ (n : ℕ). sum literal_count (take (i + 1) b.constraints) ≤ n) (sum_all literal_count b.constraints) (sum_rises literal_count b.constraints (i + 1) (length b.constraints) (omega arith)) in
    record {
      count = count;
      literals = lits_fit image (at + 4) k.conditions body (longest_image_lem image b e) (omega arith) (λ l m. let n = is_fine.named l m in omega (arith, n, fine.atoms));
      conditions = lits_at_lem image (at + 4) k.conditions body;
      alternatives =
          record {
            stands = stands_at behind (stands_right front inner);
            size = omega arith;
            some = some;
            small = λ ls m l n. let z = (is_fine.ways ls m).named l n in omega (arith, z, fine.atoms);
          };
      next = subst (λ (n : ℕ). at + 2 + field_at image at ≡ constraint_place image n) (sym up) refl;
      fits = omega arith;
      short = longest_image_lem image b e;
      ways = omega (arith, some_each k.alternatives some);
      room = omega (arith, fine.clauses, fine.bodies, fine.literals);
      few = fine.constraints;
    }

-- constraint k is the next
pub record ConstraintDue (image work : List ℕ) (k at way : ℕ) : Type 0 where
  pub book : decode image ≡ accepted (book_in image)
  pub less : k < length (book_in image).constraints
  pub place : at ≡ constraint_place image k
  pub low : ways ≤ way
  pub way_most : way ≤ constraint_ways (book_in image) k
  pub long : Long work

-- and is laid
pub record ConstraintLaid (image work : List ℕ) (k way : ℕ) (after : List ℕ) (at' way' : ℕ) : Type 0 where
  pub place : at' ≡ constraint_place image (k + 1)
  pub low : way ≤ way'
  pub way_most : way' ≤ constraint_ways (book_in image) (k + 1)
  pub size : length after ≡ length work
  pub row : Row image (of after) way way' (get_or after (constraint_record k) 0) (ways_of (constraint_of (book_in image) k))
  pub link : get_or after (constraint_record k + 1) 0 ≡ no_link
  pub cell : CellLaid (of after) k
  pub stays : (j : ℕ) → (way ≤ j → j < way' → ⊥) → (constraint_record k ≤ j → j < constraint_record k + record_width → ⊥) → (cell_from k ≤ j → j < cell_from k + cell_width → ⊥) → get_or after j 0 ≡ get_or work j 0

module _ (image work : List ℕ) (constraint at way : ℕ) (due : ConstraintDue image work constraint at way) where
  abbrev said : Constraint
  said = constraint_of (book_in image) constraint

  -- it stands there
  pub record There : Type 0 where
    pub few : constraint < limits.constraints
    pub there : at + 4 ≤ length image
    pub short : Short image
    pub fits : at + 2 + field_at image at ≤ length image

  pub constraint_there : There
  constraint_there =
      let r = constraint_at image (book_in image) due.book constraint due.less in
      let fits : at + 2 + field_at image at ≤ length image = subst (λ (p : ℕ). p + 2 + field_at image p ≤ length image) (sym due.place) r.fits in
      record {
        few = omega (arith, r.few, due.less);
        there = omega (arith, due.place, r.literals.there);
        short = r.short;
        fits = fits;
      }

  -- with n conditions, and there is place for its ways
  pub record Counted (n : ℕ) : Type 0 where
    pub literals : Literals image (at + 4) n
    pub room : way + way_width * n ≤ trail
    pub alternatives_due : (u : List ℕ) → length u ≡ length work → AlternativesDue image u (way + way_width * n) (at + 4 + 2 * n) (at + 2 + field_at image at)

  module _ (count : ℕ) (counted : count ≡ field_at image (at + 2)) where
    count_is : count ≡ length said.conditions
    count_is = counted ∙ ap (λ (p : ℕ). field_at image (p + 2)) due.place ∙ (constraint_at image (book_in image) due.book constraint due.less).count

    alternatives_are : Alternatives image (at + 4 + 2 * count) (at + 2 + field_at image at) said.alternatives
    alternatives_are =
        subst₂ (λ (p m : ℕ). Alternatives image (p + 4 + 2 * m) (p + 2 + field_at image p) said.alternatives) (sym due.place) (sym count_is)
        (constraint_at image (book_in image) due.book constraint due.less).alternatives

    pub constraint_counted : Counted count
    constraint_counted =
        let r = constraint_at image (book_in image) due.book constraint due.less in
        let is = count_is in
        let ways = r.ways in
        let room = r.room in
        let first = due.way_most in
        record {
          literals = subst₂ (λ (p m : ℕ). Literals image (p + 4) m) (sym due.place) (sym is) r.literals;
          room = omega arith;
          alternatives_due =
              λ u q.
              record {
                lists = said.alternatives;
                alternatives = alternatives_are;
                room = omega arith;
                short = r.short;
                long = omega (arith, due.long);
              };
        }

    pub constraint_laid : (u₁ u₂ after : List ℕ) (way' next link : ℕ) → AlternativesLaid image work (way + way_width * count) (at + 4 + 2 * count) (at + 2 + field_at image at) u₁ way'
        → next ≡ link_to (way + way_width * count) (at + 4 + 2 * count) (at + 2 + field_at image at)
        → OppositesLaid image u₁ way (at + 4) count next u₂ link → RecordLaid u₂ constraint link after → ConstraintLaid image work constraint way after (at + 2 + field_at image at) way'
    constraint_laid u₁ u₂ after way' next link a i o c =
        let r = constraint_at image (book_in image) due.book constraint due.less in
        let is = count_is in
        let last : way' ≡ way + way_width * count + way_width * length said.alternatives = a.ways said.alternatives alternatives_are in
        let ways = r.ways in
        let first = due.way_most in
        let less = due.less in
        let few = r.few in
        let low = due.low in
        let lits : lits_at image (at + 4) count ≡ said.conditions = ap₂ (λ (p m : ℕ). lits_at image (p + 4) m) due.place is ∙ r.conditions in
        let row₁ : Row image (of u₁) (way + way_width * count) way' next said.alternatives =
        subst (λ (m : ℕ). Row image (of u₁) (way + way_width * count) way' m said.alternatives) (sym i) (a.row said.alternatives alternatives_are) in
        let row₂ : Row image (of u₂) way way' link (opposites said.conditions ++ said.alternatives) =
        subst (λ (ls : List Lit). Row image (of u₂) way way' link (opposites ls ++ said.alternatives)) lits (o.row way' said.alternatives (omega arith) row₁) in
        let row₃ : Row image (of after) way way' link (opposites said.conditions ++ said.alternatives) =
        row_same image (of u₂) (of after) way way' way way' (omega arith) (omega arith) (λ j p q. c.stays j (λ x y. omega arith) (λ x y. omega arith)) row₂ in
        record {
          place = ap (λ (p : ℕ). p + 2 + field_at image p) due.place ∙ r.next;
          low = omega arith;
          way_most = omega arith;
          size = c.size ∙ o.size ∙ a.size;
          row = subst (λ (m : ℕ). Row image (of after) way way' m (opposites said.conditions ++ said.alternatives)) (sym c.number) row₃;
          link = c.link;
          cell = c.cell;
          stays =
              λ j p q t.
              c.stays j q t ∙ o.stays j (λ x y. p x (omega arith)) ∙ a.stays j (λ x y. p (omega arith) y);
        }

  -- the same as the code does it, where `size` is the record's length
  module _ (size count : ℕ) (sized : size ≡ field_at image at) (counted : count ≡ field_at image (at + 2)) where
    pub alternatives_due : (u : List ℕ) → length u ≡ length work → AlternativesDue image u (way + way_width * count) (at + 4 + 2 * count) (at + 2 + size)
    alternatives_due u q = subst (λ (y : ℕ). AlternativesDue image u (way + way_width * count) (at + 4 + 2 * count) (at + 2 + y)) (sym sized) ((constraint_counted count counted).alternatives_due u q)

    pub constraint_done : (u₁ u₂ after : List ℕ) (way' next link : ℕ) → AlternativesLaid image work (way + way_width * count) (at + 4 + 2 * count) (at + 2 + size) u₁ way' → next ≡ link_to (way + way_width * count) (at + 4 + 2 * count) (at + 2 + size)
        → OppositesLaid image u₁ way (at + 4) count next u₂ link → RecordLaid u₂ constraint link after → ConstraintLaid image work constraint way after (at + 2 + size) way'
    constraint_done u₁ u₂ after way' next link =
        subst
        (λ (y : ℕ). AlternativesLaid image work (way + way_width * count) (at + 4 + 2 * count) (at + 2 + y) u₁ way' → next ≡ link_to (way + way_width * count) (at + 4 + 2 * count) (at + 2 + y)
        → OppositesLaid image u₁ way (at + 4) count next u₂ link → RecordLaid u₂ constraint link after → ConstraintLaid image work constraint way after (at + 2 + y) way')
        (sym sized) (constraint_laid count counted u₁ u₂ after way' next link)

-- ---- all constraints

pub record ConstraintsDue (image work : List ℕ) (at way many : ℕ) : Type 0 where
  pub book : decode image ≡ accepted (book_in image)
  pub place : at ≡ constraint_place image 0
  pub way_is : way ≡ constraint_ways (book_in image) 0
  pub counted : many ≡ length (book_in image).constraints
  pub long : Long work

-- the first k of them are laid
pub record ConstraintsLaying (image work : List ℕ) (base : ℕ) (after : List ℕ) (k at way : ℕ) : Type 0 where
  pub place : at ≡ constraint_place image k
  pub low : base ≤ way
  pub way_most : way ≤ constraint_ways (book_in image) k
  pub most : k ≤ length (book_in image).constraints
  pub size : length after ≡ length work
  pub rows : (i : ℕ) → i < k → Row image (of after) base way (get_or after (constraint_record i) 0) (ways_of (constraint_of (book_in image) i))
  pub links : (i : ℕ) → i < k → get_or after (constraint_record i + 1) 0 ≡ no_link
  pub cells : (i : ℕ) → i < k → CellLaid (of after) i
  pub stays : (j : ℕ) → (constraint_records ≤ j → j < ways → ⊥) → (base ≤ j → j < way → ⊥) → get_or after j 0 ≡ get_or work j 0

-- all are, and the end behind them
pub record ConstraintsLaid (image work : List ℕ) (base : ℕ) (after : List ℕ) : Type 0 where
  pub size : length after ≡ length work
  pub rows : (i : ℕ) → i < length (book_in image).constraints → Row image (of after) base trail (get_or after (constraint_record i) 0) (ways_of (constraint_of (book_in image) i))
  pub links : (i : ℕ) → i < length (book_in image).constraints → get_or after (constraint_record i + 1) 0 ≡ no_link
  pub last : get_or after (constraint_record (length (book_in image).constraints)) 0 ≡ no_task
  pub cells : (i : ℕ) → i ≤ length (book_in image).constraints
      → CellLaid (of after) i
  pub stays : (j : ℕ) → (constraint_records ≤ j → j < ways → ⊥) → (base ≤ j → j < trail → ⊥) → get_or after j 0 ≡ get_or work j 0

module _ (image work : List ℕ) (start base many : ℕ) (due : ConstraintsDue image work start base many) where
  few : length (book_in image).constraints ≤ limits.constraints
  few = (within image (book_in image) due.book).constraints

  pub many_few : many ≤ limits.constraints
  many_few = omega (arith, few, due.counted)

  above : ways ≤ base
  above = omega (arith, due.way_is)

  pub constraints_start : ConstraintsLaying image work base work 0 start base
  constraints_start = record {
    place = due.place;
    low = omega arith;
    way_most = omega (arith, due.way_is);
    most = omega arith;
    size = refl;
    rows = λ i h. absurd (omega arith);
    links = λ i h. absurd (omega arith);
    cells = λ i h. absurd (omega arith);
    stays = λ j p q. refl;
  }

  pub constraints_due : (after : List ℕ) (k at way : ℕ) → k < many → ConstraintsLaying image work base after k at way → ConstraintDue image after k at way
  constraints_due after k at way h l = record {
    book = due.book;
    less = omega (arith, due.counted);
    place = l.place;
    low = omega (arith, l.low, above);
    way_most = l.way_most;
    long = omega (arith, l.size, due.long);
  }

  -- constraint i keeps its ways where constraint k is laid, or the end
  rows_same : (after after' : List ℕ) (i k way way' : ℕ) → i < k → k ≤ limits.constraints → base ≤ way → way ≤ way' → ((j : ℕ) → (way ≤ j → j < way' → ⊥) → (constraint_record k ≤ j → j < constraint_record k + record_width → ⊥) → (cell_from k ≤ j → j < cell_from k + cell_width → ⊥) → get_or after' j 0 ≡ get_or after j 0)
      → (hi : ℕ) → way' ≤ hi → Row image (of after) base way (get_or after (constraint_record i) 0) (ways_of (constraint_of (book_in image) i))
      → Row image (of after') base hi (get_or after' (constraint_record i) 0) (ways_of (constraint_of (book_in image) i))
  rows_same after after' i k way way' h f b p stays hi q r =
      let a = above in
      subst (λ (m : ℕ). Row image (of after') base hi m (ways_of (constraint_of (book_in image) i))) (sym (stays (constraint_record i) (λ x y. omega arith) (λ x y. omega arith) (λ x y. omega arith)))
      (row_same image (of after) (of after') base way base hi (omega arith) (omega arith) (λ j x y. stays j (λ z o. omega arith) (λ z o. omega arith) (λ z o. omega arith)) r)

  pub constraints_step : (after : List ℕ) (k at way : ℕ) → k < many → ConstraintsLaying image work base after k at way → (after' : List ℕ) (at' way' : ℕ) → ConstraintLaid image after k way after' at' way' → ConstraintsLaying image work base after' (k + 1) at' way'
  constraints_step after k at way h l after' at' way' n =
      let less : k < length (book_in image).constraints = omega (arith, due.counted) in
      let all = few in
      let a = above in
      let low = l.low in
      let rises = n.low in
      record {
        place = n.place;
        low = omega arith;
        way_most = n.way_most;
        most = omega arith;
        size = n.size ∙ l.size;
        rows = λ i q. rows i q (omega arith) (eqb i k) refl;
        links = λ i q. links i q (omega arith) (eqb i k) refl;
        cells = λ i q. cells i q (omega arith) (eqb i k) refl;
        stays = λ j p q. n.stays j (λ x y. q (omega arith) y) (λ x y. p (omega arith) (omega arith)) (λ x y. p (omega arith) (omega arith)) ∙ l.stays j p (λ x y. q x (omega arith));
      }
    where
      rows : (i : ℕ) → i < k + 1 → k < limits.constraints → (t : Bool) → eqb i k ≡ t → Row image (of after') base way' (get_or after' (constraint_record i) 0) (ways_of (constraint_of (book_in image) i))
      rows i q f true e =
          subst (λ (m : ℕ). Row image (of after') base way' (get_or after' (constraint_record m) 0) (ways_of (constraint_of (book_in image) m))) (sym (eqb-true i k e))
          (row_same image (of after') (of after') way way' base way' l.low (omega arith) (λ j x y. refl) n.row)
      rows i q f false e =
          let d : i ≡ k → ⊥ = eqb-false i k e in
          rows_same after after' i k way way' (omega (arith, d)) (omega arith) l.low n.low n.stays way' (omega arith) (l.rows i (omega (arith, d)))

      links : (i : ℕ) → i < k + 1 → k < limits.constraints → (t : Bool) → eqb i k ≡ t → get_or after' (constraint_record i + 1) 0 ≡ no_link
      links i q f true e = subst (λ (m : ℕ). get_or after' (constraint_record m + 1) 0 ≡ no_link) (sym (eqb-true i k e)) n.link
      links i q f false e =
          let d : i ≡ k → ⊥ = eqb-false i k e in
          let a = above in
          let low = l.low in
          n.stays (constraint_record i + 1) (λ x y. omega arith) (λ x y. omega (arith, d)) (λ x y. omega arith) ∙ l.links i (omega (arith, d))

      cells : (i : ℕ) → i < k + 1 → k < limits.constraints → (t : Bool) → eqb i k ≡ t
          → CellLaid (of after') i
      cells i q f true e =
          subst (λ (m : ℕ). CellLaid (of after') m) (sym (eqb-true i k e)) n.cell
      cells i q f false e =
          let d : i ≡ k → ⊥ = eqb-false i k e in
          let less : i < k = omega (arith, d) in
          let a = above in
          let low = l.low in
          let old = l.cells i less in (
            n.stays (cell_from i) (λ x y. omega arith) (λ x y. omega arith) (λ x y. omega arith) ∙ old.0,
            n.stays (cell_from i + 1) (λ x y. omega arith) (λ x y. omega arith) (λ x y. omega arith) ∙ old.1,
            n.stays (cell_from i + 2) (λ x y. omega arith) (λ x y. omega arith) (λ x y. omega arith) ∙ old.2,
          )

  constraints_end : (after : List ℕ) (k at way : ℕ) → k ≡ many → ConstraintsLaying image work base after k at way → (after' : List ℕ) → RecordLaid after k no_task after' → ConstraintsLaid image work base after'
  constraints_end after k at way z l after' n =
      let all : k ≡ length (book_in image).constraints = z ∙ due.counted in
      let f = few in
      let a = above in
      let low = l.low in
      let room : way ≤ trail = omega (arith, l.way_most, rise k, whole) in
      record {
        size = n.size ∙ l.size;
        rows = λ i q. rows_same after after' i k way way (omega arith) (omega arith) l.low (omega arith) (λ j x y o. n.stays j y o) trail room (l.rows i (omega arith));
        links = λ i q. n.stays (constraint_record i + 1) (λ x y. omega arith) (λ x y. omega arith) ∙ l.links i (omega arith);
        last = subst (λ (m : ℕ). get_or after' (constraint_record m) 0 ≡ no_task) all n.number;
        cells = λ i q. cells i (omega arith) (omega arith) (eqb i k) refl;
        stays = λ j p q. n.stays j (λ x y. p (omega arith) (omega arith)) (λ x y. p (omega arith) (omega arith)) ∙ l.stays j p (λ x y. q x (omega arith));
      }
    where
      rise : (k : ℕ) → sum literal_count (take k (book_in image).constraints) ≤ sum literal_count (book_in image).constraints
      rise k = up (book_in image).constraints k
        where
          up : (xs : List Constraint) (k : ℕ) → sum literal_count (take k xs) ≤ sum literal_count xs
          up [] zero = omega arith
          up [] (suc k) = omega arith
          up (x ∷ xs) zero = omega arith
          up (x ∷ xs) (suc k) = omega (arith, up xs k)

      whole : ways + way_width * (length (book_in image).clauses + sum body_count (book_in image).clauses + sum literal_count (book_in image).constraints) ≤ trail
      whole = let fine : Within limits (book_in image) = within image (book_in image) due.book in omega (arith, fine.clauses, fine.bodies, fine.literals)

      cells : (i : ℕ) → i ≤ k → k ≤ limits.constraints → (t : Bool) → eqb i k ≡ t
          → CellLaid (of after') i
      cells i q f true e =
          subst (λ (m : ℕ). CellLaid (of after') m) (sym (eqb-true i k e)) n.cell
      cells i q f false e =
          let d : i ≡ k → ⊥ = eqb-false i k e in
          let less : i < k = omega (arith, d) in
          let old = l.cells i less in (
            n.stays (cell_from i) (λ x y. omega arith) (λ x y. omega arith) ∙ old.0,
            n.stays (cell_from i + 1) (λ x y. omega arith) (λ x y. omega arith) ∙ old.1,
            n.stays (cell_from i + 2) (λ x y. omega arith) (λ x y. omega arith) ∙ old.2,
          )

  pub constraints_done : (after : List ℕ) (k at way : ℕ) → k ≡ many → ConstraintsLaying image work base after k at way → (after' : List ℕ) → RecordLaid after many no_task after' → ConstraintsLaid image work base after'
  constraints_done after k at way z l after' n = constraints_end after k at way z l after' (subst (λ (m : ℕ). RecordLaid after m no_task after') (sym z) n)
