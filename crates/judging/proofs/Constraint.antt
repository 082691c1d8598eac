-- A constraint where it stands: its conditions, and its alternatives one behind the other.
-- Assumes nothing.
use Prim.Native.Nat.{ℕ, suc, ◌+◌, ◌*◌, ◌≤◌, ◌<◌}
use mathlib.Core.Path.{◌≡◌, refl, sym, ap, subst, ◌∙◌}
use mathlib.Core.Bool.{Bool, true, false, ◌||◌}
use mathlib.Core.List.{List, [], ◌∷◌, ◌++◌}
use Rattle.std.specs.Prelude.{Some, None}
use native.Mathlib.Omega.{arith}
use native.Mathlib.Numerals.{add-one}
use lib.ListN.{length, get_or, drop, length-append}
use lib.Seq.{drop-length}
use Rattle.base.specs.paper.Lists.{◌∈◌, any, flat}
use Rattle.base.specs.Lists.{every_first, every_rest}
use Rattle.image.specs.paper.Book.{Lit, Constraint}
use Rattle.image.specs.Sound.{Known}
use Rattle.image.specs.paper.Walk.{field_at}
use Rattle.image.specs.Spell.{Stands, of_lits, of_alternative, of_constraint}
use Rattle.image.specs.StandsLaws.{stands_at, stands_left, stands_right, stands_value, stands_rest, stands_within}
use Rattle.image.specs.Finds.{length_lits}
use Rattle.image.specs.Accepted.{book_in, IsBook}
use Rattle.image.proofs.Accepted.{orderly}
use Rattle.image.specs.Shown.{constraint_count_at, constraint_place, skip, no_constraint}
use Rattle.meaning.specs.paper.Meaning.{all_true, true_in, value, holds}
use Rattle.judging.specs.paper.Failing.{first_failing}
use Rattle.judging.specs.FailingLaws.{failing_at, failing_none, failing_all, failing_not_all, failing_rest, failing_here, not_all_any, some_fails, none_fails, fails_some, fails_none}
use Rattle.judging.specs.Notes.{lits_to, lits_of, Ways}
use Rattle.image.specs.Places.{shows, record_within, place_next}
use Rattle.judging.proofs.Image.{lits_stand, part, part_lits}
use Rattle.judging.proofs.Scan.{get_or_in}

-- ---- literals behind their count

pub record Counted (s : List ℕ) (at : ℕ) (ls : List Lit) : Type 0 where
  pub count : field_at s at ≡ length ls
  pub within : at + 2 + 2 * length ls ≤ length s
  pub lits : lits_to s (at + 2 + 2 * field_at s at) (at + 2) ≡ ls

counted : (s : List ℕ) (at : ℕ) (ls : List Lit) → Stands s at (of_alternative ls) → Counted s at ls
counted s at ls h =
    let n : field_at s at ≡ length ls = stands_value h in
    let m : length (of_lits ls) ≡ length ls = length_lits ls in
    let all : at + 2 * suc (length (of_lits ls)) ≤ length s = stands_within (length ls) (of_lits ls) h in
    record {
      count = n;
      within = omega arith;
      lits = lits_stand s (at + 2 + 2 * field_at s at) (at + 2) ls (stands_rest h) (omega arith);
    }

-- the literals of the part behind the count
pub counted_part : (s : List ℕ) (at : ℕ) (ls : List Lit) (count : ℕ) → Counted s at ls → count ≡ field_at s at → lits_of (part s (at + 2) (at + 2 + 2 * count)) ≡ ls
counted_part s at ls count c e =
    part_lits s (at + 2) (at + 2 + 2 * count) (omega arith) (omega (arith, c.count, c.within))
    ∙ ap (λ (n : ℕ). lits_to s (at + 2 + 2 * n) (at + 2)) e
    ∙ c.lits

-- ---- alternatives

-- the first of some alternatives, and those behind it
pub record First (s : List ℕ) (at end : ℕ) (ways : List (List Lit)) : Type 0 where
  pub first : List Lit
  pub rest : List (List Lit)
  pub split : ways ≡ first ∷ rest
  pub counted : Counted s at first
  pub known : Known (book_in s) first
  pub behind : Ways s (at + 2 + 2 * field_at s at) end rest
  pub within : at + 2 + 2 * field_at s at ≤ end

pub first_way : (s : List ℕ) (at end : ℕ) (ways : List (List Lit)) → Ways s at end ways → at < end → First s at end ways
first_way s at end [] w h = absurd (omega (arith, w.over))
first_way s at end (ls ∷ ways) w h =
    let c = counted s at ls (stands_left (of_alternative ls) (flat of_alternative ways) w.stand) in
    let n : field_at s at ≡ length ls = c.count in
    let m : length (of_lits ls) ≡ length ls = length_lits ls in
    let over : at + 2 * length (of_alternative ls ++ flat of_alternative ways) ≡ end = w.over in
    let sum : length (of_alternative ls ++ flat of_alternative ways) ≡ length (of_alternative ls) + length (flat of_alternative ways) = length-append (of_alternative ls) (flat of_alternative ways) in
    let next : at + 2 * suc (length (of_lits ls)) ≡ at + 2 + 2 * field_at s at = omega arith in
    record {
      first = ls;
      rest = ways;
      split = refl;
      counted = c;
      known = every_first w.known;
      behind =
          record {
            stand = stands_at next (stands_right (of_alternative ls) w.stand);
            over = omega arith;
            known = every_rest w.known;
          };
      within = omega arith;
    }

-- what is left of some alternatives from a place on decides whether one of them has all literals true
pub record Left (s : List ℕ) (d at end : ℕ) (ways : List (List Lit)) : Type 0 where
  pub rest : List (List Lit)
  pub stand : Ways s at end rest
  pub same : any (all_true (value (book_in s) d)) ways ≡ any (all_true (value (book_in s) d)) rest

pub record Tried (s : List ℕ) (d start end at : ℕ) : Type 0 where
  pub left : (ways : List (List Lit)) → Ways s start end ways → Left s d at end ways

pub tried_start : (s : List ℕ) (d start end : ℕ) → Tried s d start end start
tried_start s d start end = record { left = λ ways w. record { rest = ways; stand = w; same = refl } }

module _ (s : List ℕ) (d start end at : ℕ) (tried : Tried s d start end at) (ways : List (List Lit)) (w : Ways s start end ways) where
  abbrev test : List Lit → Bool
  test = all_true (value (book_in s) d)

  abbrev rest : List (List Lit)
  rest = (tried.left ways w).rest

  pub tried_over : end ≤ at → any test ways ≡ false
  tried_over h = (tried.left ways w).same ∙ go rest (tried.left ways w).stand
    where
      go : (ls : List (List Lit)) → Ways s at end ls → any test ls ≡ false
      go [] k = refl
      go (l ∷ ls) k =
          let over : at + 2 * length (of_alternative l ++ flat of_alternative ls) ≡ end = k.over in
          let sum : length (of_alternative l ++ flat of_alternative ls) ≡ length (of_alternative l) + length (flat of_alternative ls) = length-append (of_alternative l) (flat of_alternative ls) in
          absurd (omega arith)

  module _ (more : at < end) where
    pub tried_first : First s at end rest
    tried_first = first_way s at end rest (tried.left ways w).stand more

    -- the first of them, by whether a literal of it is false
    module _ (count : ℕ) (e : count ≡ field_at s at) where
      lits : lits_of (part s (at + 2) (at + 2 + 2 * count)) ≡ tried_first.first
      lits = counted_part s at tried_first.first count tried_first.counted e

      by : any test ways ≡ (test tried_first.first || any test tried_first.rest)
      by = (tried.left ways w).same ∙ ap (any test) tried_first.split

      pub tried_true : failing_at (true_in (value (book_in s) d)) (lits_of (part s (at + 2) (at + 2 + 2 * count))) ≡ None → any test ways ≡ true
      tried_true h =
          by
          ∙ ap (λ (t : Bool). t || any test tried_first.rest)
          (failing_all (true_in (value (book_in s) d)) tried_first.first
          (fails_none (true_in (value (book_in s) d)) tried_first.first (ap (failing_at (true_in (value (book_in s) d))) (sym lits) ∙ h)))

      pub tried_false : (r : ℕ) → failing_at (true_in (value (book_in s) d)) (lits_of (part s (at + 2) (at + 2 + 2 * count))) ≡ Some r → Left s d (at + 2 + 2 * count) end ways
      tried_false r h =
          let f = fails_some (true_in (value (book_in s) d)) tried_first.first r (ap (failing_at (true_in (value (book_in s) d))) (sym lits) ∙ h) in
          record {
            rest = tried_first.rest;
            stand = subst (λ (k : ℕ). Ways s (at + 2 + 2 * k) end tried_first.rest) (sym e) tried_first.behind;
            same = by ∙ ap (λ (t : Bool). t || any test tried_first.rest) (failing_not_all (true_in (value (book_in s) d)) tried_first.first (omega (arith, f.0, f.1)));
          }

-- ---- the constraint

pub record Standing (s : List ℕ) (place : ℕ) (k : Constraint) : Type 0 where
  pub conditions : Counted s (place + 2) k.conditions
  pub known : Known (book_in s) k.conditions
  pub ways : Ways s (place + 2 + 2 + 2 * field_at s (place + 2)) (place + 2 + field_at s place) k.alternatives
  pub middle : place + 2 + 2 + 2 * field_at s (place + 2) ≤ place + 2 + field_at s place
  pub within : place + 2 + field_at s place ≤ length s

pub standing : (s : List ℕ) → IsBook s → (place : ℕ) (k : Constraint) → k ∈ (book_in s).constraints → Stands s place (of_constraint k) → Standing s place k
standing s e place k m h =
    let o = orderly s (book_in s) e in
    let front : List ℕ = of_alternative k.conditions in
    let back : List ℕ = flat of_alternative k.alternatives in
    let size : field_at s place ≡ 2 * length (front ++ back) = stands_value h in
    let sum : length (front ++ back) ≡ length front + length back = length-append front back in
    let all : place + 2 * suc (length (front ++ back)) ≤ length s = stands_within (2 * length (front ++ back)) (front ++ back) h in
    let inner : Stands s (place + 2) (front ++ back) = stands_rest h in
    let c = counted s (place + 2) k.conditions (stands_left front back inner) in
    let n : field_at s (place + 2) ≡ length k.conditions = c.count in
    let l : length (of_lits k.conditions) ≡ length k.conditions = length_lits k.conditions in
    let middle : place + 2 + 2 * suc (length (of_lits k.conditions)) ≡ place + 2 + 2 + 2 * field_at s (place + 2) = omega arith in
    record {
      conditions = c;
      known = o.conditions_known k m;
      ways =
          record {
            stand = stands_at middle (stands_right front inner);
            over = omega arith;
            known = o.alternatives_known k m;
          };
      middle = omega arith;
      within = omega arith;
    }

-- ---- what holds

-- by whether a literal of the conditions is false
module _ (s : List ℕ) (d place : ℕ) (k : Constraint) (here : Standing s place k) (count : ℕ) (e : count ≡ field_at s (place + 2)) where
  abbrev v : ℕ → Bool
  v = value (book_in s) d

  conditions : lits_of (part s (place + 2 + 2) (place + 2 + 2 + 2 * count)) ≡ k.conditions
  conditions = counted_part s (place + 2) k.conditions count here.conditions e

  -- one is false
  pub standing_false : (r : ℕ) → failing_at (true_in v) (lits_of (part s (place + 2 + 2) (place + 2 + 2 + 2 * count))) ≡ Some r → holds v k ≡ true
  standing_false r h =
      let f = fails_some (true_in v) k.conditions r (ap (failing_at (true_in v)) (sym conditions) ∙ h) in
      ap (λ (t : Bool). t || any (all_true v) k.alternatives)
      (not_all_any (true_in v) k.conditions false (failing_not_all (true_in v) k.conditions (omega (arith, f.0, f.1))))

  -- all are true, and the alternatives decide
  pub standing_true : failing_at (true_in v) (lits_of (part s (place + 2 + 2) (place + 2 + 2 + 2 * count))) ≡ None → holds v k ≡ any (all_true v) k.alternatives
  standing_true h =
      ap (λ (t : Bool). t || any (all_true v) k.alternatives)
      (not_all_any (true_in v) k.conditions true
      (failing_all (true_in v) k.conditions (fails_none (true_in v) k.conditions (ap (failing_at (true_in v)) (sym conditions) ∙ h))))

pub standing_ways : (s : List ℕ) (place : ℕ) (k : Constraint) → Standing s place k → (count size : ℕ) → count ≡ field_at s (place + 2) → size ≡ field_at s place
    → Ways s (place + 2 + 2 + 2 * count) (place + 2 + size) k.alternatives
standing_ways s place k here count size e f =
    subst (λ (n : ℕ). Ways s (place + 2 + 2 + 2 * n) (place + 2 + size) k.alternatives) (sym e)
    (subst (λ (n : ℕ). Ways s (place + 2 + 2 + 2 * field_at s (place + 2)) (place + 2 + n) k.alternatives) (sym f) here.ways)

-- ---- one constraint after the other

pub record Held (s : List ℕ) (d count place i : ℕ) : Type 0 where
  pub counted : count ≡ length (book_in s).constraints
  pub here : place ≡ constraint_place s i
  pub left : first_failing (holds (value (book_in s) d)) (book_in s).constraints ≡ i + first_failing (holds (value (book_in s) d)) (drop i (book_in s).constraints)

module _ (s : List ℕ) (accepts : IsBook s) (d : ℕ) where
  abbrev ks : List Constraint
  ks = (book_in s).constraints

  abbrev test' : Constraint → Bool
  test' = holds (value (book_in s) d)

  pub held_start : (count counted : ℕ) → counted ≡ constraint_count_at s → count ≡ field_at s counted → Held s d count (counted + 2) 0
  unfolding skip
  held_start count counted e f =
      record {
        counted = f ∙ ap (field_at s) e ∙ (shows s accepts).constraints;
        here = ap (λ (k : ℕ). k + 2) e;
        left = omega arith;
      }

  module _ (count place i : ℕ) (held : Held s d count place i) where
    pub held_over : i ≡ count → None ≡ failing_at test' ks
    held_over h =
        let none : first_failing test' (drop i ks) ≡ 0 = ap (λ (n : ℕ). first_failing test' (drop n ks)) (h ∙ held.counted) ∙ ap (first_failing test') (drop-length ks) ∙ failing_none test' in
        none_fails test' ks (omega (arith, held.left, held.counted, h))

    module _ (more : i < count) where
      inside : i < length ks
      inside = omega (arith, held.counted)

      abbrev this : Constraint
      this = get_or ks i no_constraint

      stands : Stands s place (of_constraint this)
      stands = stands_at (sym held.here) ((shows s accepts).constraint i inside)

      -- the constraint that stands here
      pub held_here : (k : Constraint) × k ∈ (book_in s).constraints × Stands s place (of_constraint k)
      held_here = (this, get_or_in ks i no_constraint inside, stands)

      pub held_within : place + 2 + field_at s place ≤ length s
      held_within = record_within s place (of_alternative this.conditions ++ flat of_alternative this.alternatives) stands

      module _ (r : Bool) (says : (k : Constraint) → k ∈ (book_in s).constraints → Stands s place (of_constraint k) → r ≡ holds (value (book_in s) d) k) where
        same : holds (value (book_in s) d) this ≡ r
        same = sym (says this (get_or_in ks i no_constraint inside) stands)

        pub held_false : r ≡ false → Some i ≡ failing_at test' ks
        held_false e = some_fails test' ks i (omega (arith, held.left, failing_here test' ks no_constraint i inside (same ∙ e))) inside

        pub held_true : (size : ℕ) → size ≡ field_at s place → r ≡ true → Held s d count (place + 2 + size) (i + 1)
        held_true size f e =
            record {
              counted = held.counted;
              here = place_next s (constraint_count_at s + 2) place i size held.here f;
              left =
                  let one : i + 1 ≡ suc i = add-one i in
                  let rest : first_failing test' (drop (i + 1) ks) ≡ first_failing test' (drop (suc i) ks) = ap (λ (n : ℕ). first_failing test' (drop n ks)) one in
                  omega (arith, held.left, failing_rest test' ks no_constraint i inside (same ∙ e));
            }
