-- The tables of the book's clauses, as the loop fills them.
-- Assumes nothing.
use Rattle.std.specs.Prelude.{ℕ, zero, suc, ◌+◌, ◌-◌, ◌*◌, ◌/◌, ◌≤◌, ◌<◌, ◌≡◌, refl, Bool, true, false, List, [], ◌∷◌, eqb, length, get_or, set, take}
use Rattle.std.proofs.Common.{arith, sym, ap, ap₂, subst, subst₂, ◌∙◌, append-nil, eqb-true, length-set}
use Rattle.std.proofs.lemmas.Bool.{eqb-false}
use Rattle.base.specs.paper.Lists.{◌∈◌, sum}
use Rattle.base.specs.Lists.{here, there}
use Rattle.image.specs.paper.Book.{Lit, Clause, Book, body_count}
use Rattle.image.specs.Encode.{longest_image_lem}
use Rattle.image.specs.paper.Walk.{field_at}
use Rattle.image.specs.paper.Decode.{accepted, decode}
use Rattle.image.specs.Spell.{of_lits, of_clause, Stands}
use Rattle.image.specs.StandsLaws.{stands_at, stands_value, stands_rest, stands_within}
use Rattle.image.specs.Finds.{length_lits}
use Rattle.image.specs.Shown.{lits_at, lits_at_lem, skip, clause_place, no_clause, Shown, shown}
use Rattle.image.specs.Written.{Within}
use Rattle.image.specs.paper.Faults.{limits}
use Rattle.image.specs.Accepted.{within, book_in}
use Rattle.searching.specs.paper.Rules.{opposites}
use Rattle.area.specs.Area.{no_link, clause_records, constraint_records, ways, way_width, trail, clause_record, clause_way, Long}
use Rattle.area.specs.Ground.{Listed}
use Rattle.area.specs.Lay.{of, Short, Literals, lits_fit, Row, stop, row_same, set_here, set_there, pair_stays, pair_first, pair_second, pair_length, OppositesLaid}

-- ---- sums up to a place

module _ {A : Type 0} (f : A → ℕ) where
  pub sum_none : (xs : List A) → sum f (take 0 xs) ≡ 0
  sum_none xs = refl

  pub sum_next : (xs : List A) (i : ℕ) (d : A) → i < length xs → sum f (take (suc i) xs) ≡ sum f (take i xs) + f (get_or xs i d)
  sum_next [] i d h = absurd (omega arith)
  sum_next (x ∷ xs) zero d h = omega arith
  sum_next (x ∷ xs) (suc i) d h = omega (arith, sum_next xs i d (omega arith))

  pub sum_rises : (xs : List A) (i j : ℕ) → i ≤ j → sum f (take i xs) ≤ sum f (take j xs)
  sum_rises [] zero j h = omega arith
  sum_rises [] (suc i) j h = omega arith
  sum_rises (x ∷ xs) zero j h = omega arith
  sum_rises (x ∷ xs) (suc i) zero h = absurd (omega arith)
  sum_rises (x ∷ xs) (suc i) (suc j) h = omega (arith, sum_rises xs i j (omega arith))

  pub sum_all : (xs : List A) → sum f (take (length xs) xs) ≡ sum f xs
  sum_all [] = refl
  sum_all (x ∷ xs) = ap (λ (n : ℕ). f x + n) (sum_all xs)

pub get_or_∈ : {A : Type 0} (l : List A) (i : ℕ) (d : A) → i < length l → get_or l i d ∈ l
get_or_∈ [] i d h = absurd (omega arith)
get_or_∈ (a ∷ l) zero d h = here
get_or_∈ (a ∷ l) (suc i) d h = there (get_or_∈ l i d (omega arith))

-- ---- clauses

-- where the ways that break clause i begin
abbrev pub break_ways : Book → ℕ → ℕ
break_ways b i = ways + way_width * (length b.clauses + sum body_count (take i b.clauses))

abbrev pub clause_of : Book → ℕ → Clause
clause_of b i = get_or b.clauses i no_clause

-- clause i in the image
pub record ClauseAt (image : List ℕ) (b : Book) (i : ℕ) : Type 0 where
  pub size : field_at image (clause_place image i) ≡ 2 * suc (length (clause_of b i).body)
  pub head : field_at image (clause_place image i + 2) ≡ (clause_of b i).head
  pub known : (clause_of b i).head < limits.atoms
  pub literals : Literals image (clause_place image i + 4) (length (clause_of b i).body)
  pub body : lits_at image (clause_place image i + 4) (length (clause_of b i).body) ≡ (clause_of b i).body
  pub next : clause_place image i + 4 + 2 * length (clause_of b i).body ≡ clause_place image (i + 1)
  pub ways : break_ways b i + way_width * length (clause_of b i).body ≡ break_ways b (i + 1)
  pub room : break_ways b (i + 1) ≤ trail
  pub few : length b.clauses ≤ limits.clauses

pub clause_at_lem : (image : List ℕ) (b : Book) → decode image ≡ accepted b → (i : ℕ) → i < length b.clauses → ClauseAt image b i
unfolding skip
clause_at_lem image b e i h =
    let sh : Shown image b = shown image b e in
    let fine : Within limits b = within image b e in
    let c : Clause = clause_of b i in
    let at : ℕ = clause_place image i in
    let st : Stands image at (of_clause c) = sh.clause i h in
    let many : length (of_lits c.body) ≡ length c.body = length_lits c.body in
    let size : field_at image at ≡ 2 * suc (length (of_lits c.body)) = stands_value st in
    let whole : at + 2 * length (of_clause c) ≤ length image = stands_within (2 * length (c.head ∷ of_lits c.body)) (c.head ∷ of_lits c.body) st in
    let four : at + 2 + 2 ≡ at + 4 = omega arith in
    let body : Stands image (at + 4) (of_lits c.body) = stands_at four (stands_rest (stands_rest st)) in
    let is_fine = fine.clauses_fine c (get_or_∈ b.clauses i no_clause h) in
    let up : i + 1 ≡ suc i = omega arith in
    let sums : sum body_count (take (i + 1) b.clauses) ≡ sum body_count (take i b.clauses) + length c.body =
    ap (λ (n : ℕ). sum body_count (take n b.clauses)) up ∙ sum_next body_count b.clauses i no_clause h in
    let most : sum body_count (take (i + 1) b.clauses) ≤ sum body_count b.clauses =
    subst (λ (n : ℕ). sum body_count (take (i + 1) b.clauses) ≤ n) (sum_all body_count b.clauses) (sum_rises body_count b.clauses (i + 1) (length b.clauses) (omega arith)) in
    record {
      size = omega arith;
      head = stands_value (stands_rest st);
      known = omega (arith, is_fine.known, fine.atoms);
      literals = lits_fit image (at + 4) c.body body (longest_image_lem image b e) (omega arith) (λ l m. let n = is_fine.named l m in omega (arith, n, fine.atoms));
      body = lits_at_lem image (at + 4) c.body body;
      next = subst (λ (n : ℕ). at + 4 + 2 * length c.body ≡ clause_place image n) (sym up) (omega arith);
      ways = omega arith;
      room = omega (arith, fine.clauses, fine.bodies);
      few = fine.clauses;
    }

-- What the tables have of clause i before the clauses are linked.
pub record ClauseTable (image : List ℕ) (b : Book) (after : List ℕ) (i : ℕ) : Type 0 where
  pub listed : Listed image (λ j. 0) (get_or after (clause_way i) 0) (clause_of b i).body
  pub head : get_or after (clause_way i + 1) 0 ≡ (clause_of b i).head
  pub broken : Row image (of after) (break_ways b i) (break_ways b (i + 1)) (get_or after (clause_record i) 0) (opposites (clause_of b i).body)

-- clause c is the next
pub record ClauseDue (image work : List ℕ) (c at way : ℕ) : Type 0 where
  pub book : decode image ≡ accepted (book_in image)
  pub less : c < length (book_in image).clauses
  pub place : at ≡ clause_place image c
  pub way_is : way ≡ break_ways (book_in image) c
  pub long : Long work

-- and is laid
pub record ClauseLaid (image work : List ℕ) (c : ℕ) (after : List ℕ) (at way : ℕ) : Type 0 where
  pub place : at ≡ clause_place image (c + 1)
  pub way_is : way ≡ break_ways (book_in image) (c + 1)
  pub size : length after ≡ length work
  pub table : ClauseTable image (book_in image) after c
  pub stays : (j : ℕ) → (j ≡ clause_record c → ⊥) → (clause_way c ≤ j → j < clause_way c + way_width → ⊥) → (break_ways (book_in image) c ≤ j → j < break_ways (book_in image) (c + 1) → ⊥)
      → get_or after j 0 ≡ get_or work j 0

module _ (image work : List ℕ) (clause at way : ℕ) (due : ClauseDue image work clause at way) where
  -- it stands there, with n body literals, and there is place for its ways
  pub record ClauseThere (n : ℕ) : Type 0 where
    pub few : clause < limits.clauses
    pub there : at + 4 ≤ length image
    pub short : Short image
    pub literals : Literals image (at + 4) n
    pub behind : clause_way clause + way_width ≤ way
    pub room : way + way_width * n ≤ trail

  count_is : (n : ℕ) → n ≡ field_at image at / 2 - 1 → n ≡ length (clause_of (book_in image) clause).body
  count_is n e =
      let k = clause_at_lem image (book_in image) due.book clause due.less in
      let z : field_at image at ≡ 2 * suc (length (clause_of (book_in image) clause).body) = ap (field_at image) due.place ∙ k.size in
      omega arith

  pub clause_there : (at + 4 ≤ length image) × Short image × (2 ≤ field_at image at)
  clause_there =
      let k = clause_at_lem image (book_in image) due.book clause due.less in
      let z : field_at image at ≡ 2 * suc (length (clause_of (book_in image) clause).body) = ap (field_at image) due.place ∙ k.size in
      (omega (arith, due.place, k.literals.there), k.literals.short, omega arith)

  pub clause_record_lem : (n : ℕ) → n ≡ field_at image at / 2 - 1 → ClauseThere n
  clause_record_lem n e =
      let k = clause_at_lem image (book_in image) due.book clause due.less in
      let is = count_is n e in
      let less = due.less in
      let few = k.few in
      let first = due.way_is in
      record {
        few = omega arith;
        there = clause_there.0;
        short = clause_there.1;
        literals = subst₂ (λ (p m : ℕ). Literals image (p + 4) m) (sym due.place) (sym is) k.literals;
        behind = omega arith;
        room = omega (arith, k.ways, k.room);
      }

  -- the same by the record's length, as the code counts
  pub clause_counted : (n : ℕ) → n ≡ field_at image at → ClauseThere (n / 2 - 1)
  clause_counted n e = clause_record_lem (n / 2 - 1) (ap (λ (k : ℕ). k / 2 - 1) e)

  pub clause_laid : (n x h link : ℕ) (after : List ℕ) → n ≡ field_at image at / 2 - 1 → Listed image (λ j. 0) x (lits_at image (at + 4) n) → h ≡ field_at image (at + 2)
      → OppositesLaid image (set (set work (clause_way clause) x) (clause_way clause + 1) h) way (at + 4) n no_link after link
      → ClauseLaid image work clause (set after (clause_record clause) link) (at + 4 + 2 * n) (way + way_width * n)
  clause_laid n x h link after e l i o =
      let b : Book = book_in image in
      let k = clause_at_lem image b due.book clause due.less in
      let r = clause_record_lem n e in
      let ls : List Lit = (clause_of b clause).body in
      let is : n ≡ length ls = count_is n e in
      let low : clause_way clause + way_width ≤ way = r.behind in
      let first : way ≡ break_ways b clause = due.way_is in
      let last : way + way_width * n ≡ break_ways b (clause + 1) = omega (arith, k.ways) in
      let old : List ℕ = set (set work (clause_way clause) x) (clause_way clause + 1) h in
      let fits : clause_way clause + way_width ≤ length work = omega (arith, due.long, r.room) in
      let size : length after ≡ length work = o.size ∙ pair_length work (clause_way clause) x h in
      let lits : lits_at image (at + 4) n ≡ ls = ap₂ (λ (p m : ℕ). lits_at image (p + 4) m) due.place is ∙ k.body in
      let row : Row image (of after) way (way + way_width * n) link (opposites (lits_at image (at + 4) n)) =
      subst (Row image (of after) way (way + way_width * n) link) (append-nil (opposites (lits_at image (at + 4) n))) (o.row (way + way_width * n) [] (omega arith) stop) in
      let row' : Row image (of (set after (clause_record clause) link)) (break_ways b clause) (break_ways b (clause + 1)) link (opposites ls) =
      subst (λ (ks : List Lit). Row image (of (set after (clause_record clause) link)) (break_ways b clause) (break_ways b (clause + 1)) link (opposites ks)) lits
      (row_same image (of after) (of (set after (clause_record clause) link)) way (way + way_width * n) (break_ways b clause) (break_ways b (clause + 1)) (omega arith) (omega arith)
      (λ j p q. set_there after (clause_record clause) link j (λ z. omega (arith, z, r.few, low))) row) in
      record {
        place = ap₂ (λ (p m : ℕ). p + 4 + 2 * m) due.place is ∙ k.next;
        way_is = last;
        size = length-set after (clause_record clause) link ∙ size;
        table =
            record {
              listed =
                  subst₂ (Listed image (λ j. 0))
                  (sym (set_there after (clause_record clause) link (clause_way clause) (λ z. omega (arith, z, r.few)) ∙ o.stays (clause_way clause) (λ p q. omega arith) ∙ pair_first work (clause_way clause) x h fits)) lits l;
              head =
                  set_there after (clause_record clause) link (clause_way clause + 1) (λ z. omega (arith, z, r.few)) ∙ o.stays (clause_way clause + 1) (λ p q. omega arith)
                  ∙ pair_second work (clause_way clause) x h fits ∙ i ∙ ap (λ (p : ℕ). field_at image (p + 2)) due.place ∙ k.head;
              broken =
                  subst (λ (m : ℕ). Row image (of (set after (clause_record clause) link)) (break_ways b clause) (break_ways b (clause + 1)) m (opposites ls))
                  (sym (set_here after (clause_record clause) link (omega (arith, size, due.long, r.few)))) row';
            };
        stays =
            λ j p q u.
            set_there after (clause_record clause) link j p ∙ o.stays j (λ y z. u (omega arith) (omega arith)) ∙ pair_stays work (clause_way clause) x h j q;
      }

-- ---- all clauses

pub record ClausesDue (image work : List ℕ) (start count : ℕ) : Type 0 where
  pub book : decode image ≡ accepted (book_in image)
  pub place : start ≡ clause_place image 0
  pub counted : count ≡ length (book_in image).clauses
  pub long : Long work

-- the first c of them are laid
pub record ClausesLaid (image work : List ℕ) (after : List ℕ) (c at way : ℕ) : Type 0 where
  pub place : at ≡ clause_place image c
  pub way_is : way ≡ break_ways (book_in image) c
  pub most : c ≤ length (book_in image).clauses
  pub size : length after ≡ length work
  pub tables : (i : ℕ) → i < c → ClauseTable image (book_in image) after i
  pub stays : (j : ℕ) → (clause_records ≤ j → j < constraint_records → ⊥) → (ways ≤ j → j < trail → ⊥) → get_or after j 0 ≡ get_or work j 0

table_same : (image : List ℕ) (b : Book) (work after : List ℕ) (i : ℕ) → ClauseTable image b work i → get_or after (clause_way i) 0 ≡ get_or work (clause_way i) 0 → get_or after (clause_way i + 1) 0 ≡ get_or work (clause_way i + 1) 0
    → get_or after (clause_record i) 0 ≡ get_or work (clause_record i) 0 → ((j : ℕ) → break_ways b i ≤ j → j < break_ways b (i + 1) → get_or after j 0 ≡ get_or work j 0) → ClauseTable image b after i
table_same image b work after i t p q r f = record {
  listed = subst (λ (n : ℕ). Listed image (λ j. 0) n (clause_of b i).body) (sym p) t.listed;
  head = q ∙ t.head;
  broken =
      subst (λ (n : ℕ). Row image (of after) (break_ways b i) (break_ways b (i + 1)) n (opposites (clause_of b i).body)) (sym r)
      (row_same image (of work) (of after) (break_ways b i) (break_ways b (i + 1)) (break_ways b i) (break_ways b (i + 1)) (omega arith) (omega arith) f t.broken);
}

module _ (image work : List ℕ) (start count : ℕ) (due : ClausesDue image work start count) where
  pub clauses_start : ClausesLaid image work work 0 start (clause_way count)
  clauses_start = record {
    place = due.place;
    way_is = omega (arith, due.counted, sum_none body_count (book_in image).clauses);
    most = omega arith;
    size = refl;
    tables = λ i h. absurd (omega arith);
    stays = λ j p q. refl;
  }

  pub clauses_due : (after : List ℕ) (c at way : ℕ) → c < count → ClausesLaid image work after c at way → ClauseDue image after c at way
  clauses_due after c at way h l = record {
    book = due.book;
    less = omega (arith, due.counted);
    place = l.place;
    way_is = l.way_is;
    long = omega (arith, l.size, due.long);
  }

  pub clauses_step : (after : List ℕ) (c at way : ℕ) → c < count → ClausesLaid image work after c at way → (after' : List ℕ) (at' way' : ℕ) → ClauseLaid image after c after' at' way' → ClausesLaid image work after' (c + 1) at' way'
  clauses_step after c at way h l after' at' way' n =
      let b : Book = book_in image in
      let less : c < length b.clauses = omega (arith, due.counted) in
      let k = clause_at_lem image b due.book c less in
      let few : length b.clauses ≤ limits.clauses = k.few in
      let room : break_ways b (c + 1) ≤ trail = k.room in
      record {
        place = n.place;
        way_is = n.way_is;
        most = omega arith;
        size = n.size ∙ l.size;
        tables = λ i q. go i q (eqb i c) refl;
        stays = λ j p q. n.stays j (λ z. p (omega arith) (omega arith)) (λ y z. q (omega arith) (omega arith)) (λ y z. q (omega arith) (omega arith)) ∙ l.stays j p q;
      }
    where
      go : (i : ℕ) → i < c + 1 → (t : Bool) → eqb i c ≡ t → ClauseTable image (book_in image) after' i
      go i q true e = subst (ClauseTable image (book_in image) after') (sym (eqb-true i c e)) n.table
      go i q false e =
          let d : i ≡ c → ⊥ = eqb-false i c e in
          let less : i < c = omega (arith, d) in
          let most : c ≤ length (book_in image).clauses = l.most in
          let few : length (book_in image).clauses ≤ limits.clauses = (within image (book_in image) due.book).clauses in
          let rises : sum body_count (take (i + 1) (book_in image).clauses) ≤ sum body_count (take c (book_in image).clauses) = sum_rises body_count (book_in image).clauses (i + 1) c (omega arith) in
          table_same image (book_in image) after after' i (l.tables i less)
          (n.stays (clause_way i) (λ z. omega (arith, z)) (λ y z. omega arith) (λ y z. omega arith))
          (n.stays (clause_way i + 1) (λ z. omega (arith, z)) (λ y z. omega arith) (λ y z. omega arith))
          (n.stays (clause_record i) (λ z. omega (arith, z)) (λ y z. omega arith) (λ y z. omega arith))
          (λ j x y. n.stays j (λ z. omega arith) (λ z o. omega arith) (λ z o. omega arith))
