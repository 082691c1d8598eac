-- The numbers given to the entries of the table so far.
-- Assumes nothing.
use Rattle.std.specs.Prelude.{ℕ, ◌+◌, ◌-◌, ◌%◌, ◌≤◌, ◌<◌, ◌≡◌, refl, Bool, true, false, List, [], ◌∷◌, length, take, get_or, set, eqb}
use Rattle.std.proofs.Common.{arith, add-one, sym, ap, ◌∙◌, subst, ⊎_elim, length-append, length-set, take-suc, get_or-set_same, get_or-set_other, eqb-true, eq-eqb}
use Rattle.std.proofs.lemmas.Bool.{eqb-false}
use Rattle.base.specs.paper.Bools.{choose}
use Rattle.base.specs.Bools.{decide, choose_true, choose_false}
use Rattle.base.specs.paper.Lists.{put, filter}
use Rattle.base.specs.Parts.{filter_append}
use Rattle.spelling.specs.paper.Answer.{longest_text}
use Rattle.spelling.specs.Table.{marked_entry, marks_in, number_in}

-- the first n entries have their numbers
abbrev pub Given : List ℕ → ℕ → List ℕ → ℕ → Type 0
Given entries marked numbers n = (i : ℕ) → i < n → get_or numbers i 0 ≡ number_in marked entries i

-- all of them, in an array of numbers
pub record Numbered (entries : List ℕ) (marked : ℕ) (numbers : List ℕ) (n : ℕ) : Type 0 where
  pub given : Given entries marked numbers n
  pub size : length numbers ≡ longest_text

-- the loop: n entries have theirs, and as many of them are marked
pub record Giving (entries : List ℕ) (marked : ℕ) (numbers : List ℕ) (before n : ℕ) : Type 0 where
  pub size : length numbers ≡ longest_text
  pub within : n ≤ length entries
  pub some : before ≤ n
  pub marks : before ≡ marks_in (take n entries)
  pub given : Given entries marked numbers n

pub giving_start : (entries : List ℕ) (marked : ℕ) (numbers : List ℕ) → length numbers ≡ longest_text → Giving entries marked numbers 0 0
giving_start entries marked numbers e = record { size = e; within = omega arith; some = omega arith; marks = refl; given = λ i h. absurd (omega arith) }

marks_next : (entries : List ℕ) (n : ℕ) → n < length entries → (t : Bool) → marked_entry (get_or entries n 0) ≡ t
    → marks_in (take (n + 1) entries) ≡ marks_in (take n entries) + choose t 1 0
marks_next entries n h t e =
    ap (λ (k : ℕ). marks_in (take k entries)) (add-one n)
    ∙ ap marks_in (take-suc entries n 0 h)
    ∙ ap length (filter_append marked_entry (take n entries) (get_or entries n 0 ∷ []))
    ∙ length-append (filter marked_entry (take n entries)) (filter marked_entry (get_or entries n 0 ∷ []))
    ∙ ap (λ (b : Bool). marks_in (take n entries) + length (put b (get_or entries n 0) [])) e
    ∙ ap (λ (k : ℕ). marks_in (take n entries) + k) (one t)
  where
    one : (t : Bool) → length (put t (get_or entries n 0) []) ≡ choose t 1 0
    one true = refl
    one false = refl

module _ {entries : List ℕ} {marked : ℕ} {numbers : List ℕ} {before n : ℕ} (g : Giving entries marked numbers before n) (h : n < length entries) (room : n < length numbers) where
  set_given : (x : ℕ) → x ≡ number_in marked entries n → Given entries marked (set numbers n x) (n + 1)
  set_given x e i k = ⊎_elim same later (decide (eqb i n))
    where
      same : eqb i n ≡ true → get_or (set numbers n x) i 0 ≡ number_in marked entries i
      same q =
          let r : i ≡ n = eqb-true i n q in
          subst (λ (j : ℕ). get_or (set numbers n x) j 0 ≡ number_in marked entries j) (sym r) (get_or-set_same numbers n x 0 room ∙ e)

      later : eqb i n ≡ false → get_or (set numbers n x) i 0 ≡ number_in marked entries i
      later q =
          let r : i ≡ n → ⊥ = eqb-false i n q in
          get_or-set_other numbers n i x 0 r ∙ g.given i (omega (arith, r))

  pub giving_marked : get_or entries n 0 % 2 ≡ 1 → Giving entries marked (set numbers n before) (before + 1) (n + 1)
  giving_marked e =
      let t : marked_entry (get_or entries n 0) ≡ true = eq-eqb (get_or entries n 0 % 2) 1 e in
      record {
        size = length-set numbers n _ ∙ g.size;
        within = omega (arith, h);
        some = omega (arith, g.some);
        marks = omega (arith, g.marks, marks_next entries n h true t);
        given = set_given before (g.marks ∙ sym (choose_true (marks_in (take n entries)) (marked + (n - marks_in (take n entries))) t));
      }

  pub giving_other : (get_or entries n 0 % 2 ≡ 1 → ⊥) → Giving entries marked (set numbers n (marked + (n - before))) before (n + 1)
  giving_other e =
      let t : marked_entry (get_or entries n 0) ≡ false = other (marked_entry (get_or entries n 0)) refl in
      record {
        size = length-set numbers n _ ∙ g.size;
        within = omega (arith, h);
        some = omega (arith, g.some);
        marks = omega (arith, g.marks, marks_next entries n h false t);
        given =
            set_given (marked + (n - before))
            (ap (λ (k : ℕ). marked + (n - k)) g.marks ∙ sym (choose_false (marks_in (take n entries)) (marked + (n - marks_in (take n entries))) t));
      }
    where
      other : (t : Bool) → marked_entry (get_or entries n 0) ≡ t → t ≡ false
      other true q = absurd (e (eqb-true (get_or entries n 0 % 2) 1 q))
      other false q = refl
