-- What the sorting asks and leaves: one hypothesis, all of them, and the whole group, from one listing and the second searches.
-- Assumes nothing.
use Rattle.std.specs.Prelude.{ℕ, suc, ◌≤◌, ◌<◌, ◌≡◌, Bool, true, false, Option, Some, None, eqb, length}
use Rattle.std.proofs.Common.{arith, sym, ◌∙◌, lt-ltb, le-ltb, eq-eqb, ne_eqb}
use Rattle.std.proofs.Math.Path.{refl, ap}
use mathlib.Core.List.{List, [], ◌∷◌}
use Rattle.base.specs.paper.Bools.{choose}
use Rattle.base.specs.Bools.{clash, both, both_right, choose_true, choose_false}
use Rattle.base.specs.paper.Lists.{all, any, filter, put}
use Rattle.base.specs.paper.Members.{has}
use Rattle.image.specs.paper.Faults.{limits}
use Rattle.image.specs.paper.Decode.{Decoded}
use Rattle.image.specs.Accepted.{IsBook, book_in, within}
use Rattle.sets.specs.paper.Kept.{zeros}
use Rattle.area.specs.paper.Work.{work_numbers}
use Rattle.searching.specs.paper.Seek.{Seeking, admitted, excluded, spent, sought}
use Rattle.searching.proofs.Main.{listed}
use Rattle.lister.specs.paper.Promise.{most_budget}
use Rattle.admitting.specs.paper.Promise as admitting
use Rattle.admitting.specs.paper.Promise.{Admission}
use Rattle.engine.specs.paper.Verdict.{Verdict, Needed, Possible}
use Rattle.engine.specs.paper.Verdict.{by_second, decided}
use Rattle.cleaner.specs.declared.Sorted.{Sorted}
use Rattle.cleaner.specs.declared.listed.Listed.{Listed}
use Rattle.cleaner.specs.Told.{Tells}
use Rattle.cleaner.specs.paper.Cleaning.{Cleaning, numbers_from, ascending, unsorted, with_unexplained, with_needed, with_possible, with_ruled_out, Noted, sorted, number, noted, Ending, all_sorted, stopped, after, in_turn}
use Rattle.cleaner.specs.paper.Cleaning as paper
use Rattle.cleaner.proofs.Turns.{numbers_next, ends_stopped, never_turned}
use Rattle.cleaner.specs.Sorting.{All, Coming, Concluded, One, Seconded, Wiped, by_list, by_listing, left_by, sorting_at, sorting_of, to_come}

-- a hypothesis is a small number
pub hypothesis_small : (image : List ℕ) (h : ℕ) → IsBook image → h < (book_in image).abducibles → h < limits.abducibles
hypothesis_small image h book k = omega (arith, k, (within image (book_in image) book).abducibles)

-- what is sorted behind a second search
abbrev pub by_admission : ℕ → Admission → Sorted → Option Sorted
by_admission h (admitting.Admitted n) s = Some (with_possible h s)
by_admission h (admitting.Excluded n) s = Some (with_ruled_out h s)
by_admission h (admitting.Broken n at) s = None
by_admission h (admitting.Refused n m) s = None

module _ (image : List ℕ) (h budget : ℕ) {area : List ℕ} (book : IsBook image) (abducible : h < (book_in image).abducibles) (low : budget ≤ most_budget) (wiped : Wiped area) where
  sought_result : admitting.result_of image h budget (length area) ≡ admitting.searched (sought (book_in image) h budget)
  unfolding admitting.result_of
  sought_result =
      ap (λ (d : Decoded). admitting.by_book d h budget (length area)) book
      ∙ choose_false _ _ (le-ltb (length area) work_numbers wiped.long)
      ∙ choose_false _ _ (le-ltb most_budget budget low)
      ∙ choose_true _ _ (lt-ltb h (book_in image).abducibles abducible)

  -- what `admits` promises here
  pub seconded : {a : Admission} {area' : List ℕ} → admitting.Admits image h budget area a area' → (s : Sorted) (r : Option Sorted) → r ≡ by_admission h a s
      → Seconded image h budget s area r area'
  seconded admits s r e =
      record {
        answer =
            λ n.
            e ∙ ap (λ (x : Admission). by_admission h x s) (admits.answer ∙ ap admitting.answer_of sought_result)
            ∙ noted_second n (sought (book_in image) h budget);
        work = admits.work ∙ ap (λ (x : admitting.Result). admitting.work_of x area) sought_result ∙ sym wiped.cleared;
      }
    where
      noted_second : (n : ℕ) (o : Seeking) → by_admission h (admitting.answer_of (admitting.searched o)) s ≡ sorting_of (noted h (by_second n o) s)
      noted_second n (admitted k) = refl
      noted_second n (excluded k) = refl
      noted_second n (spent k) = refl

-- a list that is not empty decides by its tests
decides : (h : ℕ) (l : List ℕ) → (length l ≡ 0 → ⊥) → (n : ℕ) (o : Seeking)
    → decided h l n o ≡ choose (all (λ (d : ℕ). has d h) l) (Needed n) (choose (any (λ (d : ℕ). has d h) l) (Possible n) (by_second n o))
decides h [] k n o = absurd (k refl)
decides h (x ∷ l) k n o = refl

-- it is not in every set
not_every : (h : ℕ) (listed : Listed) → has listed.every h ≡ false → (hypotheses : ℕ) (l : List ℕ) → Tells hypotheses listed l → has hypotheses h ≡ true
    → all (λ (d : ℕ). has d h) l ≡ false
not_every h listed v hypotheses l tells m = go (all (λ (d : ℕ). has d h) l) refl
  where
    go : (t : Bool) → all (λ (d : ℕ). has d h) l ≡ t → t ≡ false
    go true q = clash (tells.every h ∙ both (has hypotheses h) (all (λ (d : ℕ). has d h) l) m q) v
    go false q = refl

module _ (image : List ℕ) (h budget : ℕ) (listed : Listed) (s : Sorted) (area : List ℕ) where
  pub one_unexplained : listed.count ≡ 0 → (t : Sorted) → t ≡ with_unexplained h s → One image h budget listed s area (Some t) area
  one_unexplained c t e = record { answer = λ hypotheses l tells m n. go l tells.count n; work = refl }
    where
      go : (l : List ℕ) → listed.count ≡ length l → (n : ℕ) → Some t ≡ sorting_of (noted h (by_list (book_in image) budget l n h) s)
      go [] q n = ap Some e
      go (x ∷ l) q n = absurd (omega (arith, c, q))

  pub one_needed : (listed.count ≡ 0 → ⊥) → has listed.every h ≡ true → (t : Sorted) → t ≡ with_needed h s → One image h budget listed s area (Some t) area
  one_needed c v t e =
      record {
        answer =
            λ hypotheses l tells m n.
            let every : all (λ (d : ℕ). has d h) l ≡ true = both_right (has hypotheses h) (all (λ (d : ℕ). has d h) l) (sym (tells.every h) ∙ v) in
            ap Some e
            ∙ ap (λ (x : Verdict). sorting_of (noted h x s))
            (sym (decides h l (λ i. c (tells.count ∙ i)) n (sought (book_in image) h budget) ∙ choose_true _ _ every));
        work = refl;
      }

  pub one_possible : (listed.count ≡ 0 → ⊥) → has listed.every h ≡ false → has listed.some h ≡ true → (t : Sorted) → t ≡ with_possible h s
      → One image h budget listed s area (Some t) area
  one_possible c v w t e =
      record {
        answer =
            λ hypotheses l tells m n.
            ap Some e
            ∙ ap (λ (x : Verdict). sorting_of (noted h x s))
            (sym
            (decides h l (λ i. c (tells.count ∙ i)) n (sought (book_in image) h budget)
            ∙ choose_false _ _ (not_every h listed v hypotheses l tells m) ∙ choose_true _ _ (sym (tells.some h) ∙ w)));
        work = refl;
      }

  pub one_second : (listed.count ≡ 0 → ⊥) → has listed.every h ≡ false → has listed.some h ≡ false → {r : Option Sorted} {area' : List ℕ}
      → Seconded image h budget s area r area' → One image h budget listed s area r area'
  one_second c v w by =
      record {
        answer =
            λ hypotheses l tells m n.
            by.answer n
            ∙ ap (λ (x : Verdict). sorting_of (noted h x s))
            (sym
            (decides h l (λ i. c (tells.count ∙ i)) n (sought (book_in image) h budget)
            ∙ choose_false _ _ (not_every h listed v hypotheses l tells m) ∙ choose_false _ _ (sym (tells.some h) ∙ w)));
        work = by.work;
      }

whole_noted : (t : Sorted) (x : Noted) → Some t ≡ sorting_of x → x ≡ sorted t
whole_noted t (sorted s) e = let is : s ≡ t = cc in ap sorted is
whole_noted t (number n) e = cc

spent_noted : (x : Noted) → None ≡ sorting_of x → (n : ℕ) × (x ≡ number n)
spent_noted (sorted s) e = cc
spent_noted (number n) e = (n, refl)

module _ (image : List ℕ) (hypotheses budget : ℕ) (listed : Listed) where
  pub coming_start : Coming image hypotheses budget listed 0 unsorted
  unfolding ascending
  coming_start = record { coming = λ l tells n. (0, refl) }

  -- one that is not named
  pub coming_skip : (h : ℕ) (s : Sorted) → h < limits.abducibles → has hypotheses h ≡ false → Coming image hypotheses budget listed h s → Coming image hypotheses budget listed (suc h) s
  coming_skip h s p m c =
      record {
        coming =
            λ l tells n.
            let w = c.coming l tells n in (
              w.0,
              w.1
                  ∙ ap (λ (hs : List ℕ). in_turn (by_list (book_in image) budget l n) w.0 hs s)
                  (ap (filter (has hypotheses)) (numbers_next h limits.abducibles p) ∙ ap (λ (t : Bool). put t h (to_come image hypotheses budget listed (suc h))) m),
            );
      }

  -- one that is
  next : (h : ℕ) (s : Sorted) → h < limits.abducibles → has hypotheses h ≡ true → (l : List ℕ) (n last : ℕ)
      → in_turn (by_list (book_in image) budget l n) last (to_come image hypotheses budget listed h) s
      ≡ after (noted h (by_list (book_in image) budget l n h) s) (in_turn (by_list (book_in image) budget l n) h (to_come image hypotheses budget listed (suc h))) (stopped h)
  unfolding in_turn
  next h s p m l n last =
      ap (λ (hs : List ℕ). in_turn (by_list (book_in image) budget l n) last hs s)
      (ap (filter (has hypotheses)) (numbers_next h limits.abducibles p) ∙ ap (λ (t : Bool). put t h (to_come image hypotheses budget listed (suc h))) m)

  pub coming_next : (h : ℕ) (s t : Sorted) → h < limits.abducibles → has hypotheses h ≡ true → {area area' : List ℕ}
      → One image h budget listed s area (Some t) area' → Coming image hypotheses budget listed h s → Coming image hypotheses budget listed (suc h) t
  coming_next h s t p m one c =
      record {
        coming =
            λ l tells n.
            let w = c.coming l tells n in
            let v = by_list (book_in image) budget l n in
            (h, w.1 ∙ next h s p m l n w.0 ∙ ap (λ (x : Noted). after x (in_turn v h (to_come image hypotheses budget listed (suc h))) (stopped h)) (whole_noted t (noted h (v h) s) (one.answer hypotheses l tells m n)));
      }

  -- the end: all are sorted, or one second search is spent
  pub coming_over : (s : Sorted) → Coming image hypotheses budget listed limits.abducibles s → (area : List ℕ) → All image hypotheses budget listed area (Some s) area
  unfolding in_turn numbers_from
  coming_over s c area = record { answer = λ l tells n. ap sorting_at (sym (c.coming l tells n).1); work = refl }

  pub coming_spent : (h : ℕ) (s : Sorted) → h < limits.abducibles → has hypotheses h ≡ true → {area area' : List ℕ}
      → One image h budget listed s area None area' → Coming image hypotheses budget listed h s → All image hypotheses budget listed area None area'
  coming_spent h s p m one c =
      record {
        answer =
            λ l tells n.
            let w = c.coming l tells n in
            let v = by_list (book_in image) budget l n in
            let x = spent_noted (noted h (v h) s) (one.answer hypotheses l tells m n) in
            sym (ap sorting_at (w.1 ∙ next h s p m l n w.0 ∙ ap (λ (y : Noted). after y (in_turn v h (to_come image hypotheses budget listed (suc h))) (stopped h)) x.1));
        work = one.work;
      }

-- a refused verdict by a list is 30
spent_number : (h : ℕ) (l : List ℕ) (n : ℕ) (o : Seeking) (s : Sorted) (m : ℕ) → noted h (decided h l n o) s ≡ number m → m ≡ 30
spent_number h [] n o s m e = cc
spent_number h (x ∷ l) n o s m e = go (all (λ (d : ℕ). has d h) (x ∷ l)) (any (λ (d : ℕ). has d h) (x ∷ l)) o e
  where
    go : (t u : Bool) (o : Seeking) → noted h (choose t (Needed n) (choose u (Possible n) (by_second n o))) s ≡ number m → m ≡ 30
    go true u o e = cc
    go false true o e = cc
    go false false (admitted k) e = cc
    go false false (excluded k) e = cc
    go false false (spent k) e = let is : 30 ≡ m = cc in sym is

whole_ending : (s : Sorted) (x : Ending) → Some s ≡ sorting_at x → (last : ℕ) × (x ≡ all_sorted last s)
whole_ending s (paper.turned n) e = cc
whole_ending s (all_sorted last t) e = let is : t ≡ s = cc in (last, ap (all_sorted last) is)
whole_ending s (stopped last n) e = cc

module _ (image : List ℕ) (hypotheses budget : ℕ) (listed : Listed) (list : List ℕ) {area area' : List ℕ} where
  whole : (s : Sorted) → All image hypotheses budget listed area (Some s) area' → (r : Cleaning) → r ≡ choose (eqb s.excluded hypotheses) paper.Deleted (paper.Held s)
      → Concluded image hypotheses budget listed list area r list area'
  whole s all r e =
      record {
        answer =
            λ l tells n.
            e ∙ ap (paper.answer_of hypotheses) (sym (whole_ending s (by_listing (book_in image) hypotheses budget l n) (all.answer l tells n)).1);
        sets =
            λ l tells n.
            ap (λ (x : Ending). left_by x list) (sym (whole_ending s (by_listing (book_in image) hypotheses budget l n) (all.answer l tells n)).1);
        work = all.work;
      }

  pub concluded_deleted : (s : Sorted) → All image hypotheses budget listed area (Some s) area' → s.excluded ≡ hypotheses
      → Concluded image hypotheses budget listed list area paper.Deleted list area'
  concluded_deleted s all i = whole s all paper.Deleted (sym (choose_true _ _ (eq-eqb s.excluded hypotheses i)))

  pub concluded_held : (s : Sorted) → All image hypotheses budget listed area (Some s) area' → (s.excluded ≡ hypotheses → ⊥)
      → Concluded image hypotheses budget listed list area (paper.Held s) list area'
  concluded_held s all i = whole s all (paper.Held s) (sym (choose_false _ _ (ne_eqb s.excluded hypotheses i)))

  pub concluded_spent : All image hypotheses budget listed area None area' → Concluded image hypotheses budget listed list area (paper.Refused 30) (zeros (length list)) area'
  concluded_spent all =
      record {
        answer = λ l tells n. (go l n (by_listing (book_in image) hypotheses budget l n) refl (all.answer l tells n)).0;
        sets = λ l tells n. (go l n (by_listing (book_in image) hypotheses budget l n) refl (all.answer l tells n)).1;
        work = all.work;
      }
    where
      go : (l : List ℕ) (n : ℕ) (x : Ending) → by_listing (book_in image) hypotheses budget l n ≡ x → None ≡ sorting_at x
          → (paper.Refused 30 ≡ paper.answer_of hypotheses x) × (zeros (length list) ≡ left_by x list)
      go l n (paper.turned m) q e = absurd (never_turned (by_list (book_in image) budget l n) (ascending hypotheses) 0 unsorted m q)
      go l n (all_sorted last s) q e = cc
      go l n (stopped last m) q e =
          let w = ends_stopped (by_list (book_in image) budget l n) (ascending hypotheses) 0 unsorted last m q in
          (ap paper.Refused (sym (spent_number last l n (sought (book_in image) last budget) unsorted m (w.1 unsorted))), refl)
