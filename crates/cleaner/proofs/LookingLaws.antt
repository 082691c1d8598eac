-- The group's image looked at: the answer by one listing is the one that the verdicts give, and what it leaves is what the last verdict would.
-- Assumes nothing.
use Rattle.std.specs.Prelude.{ℕ, ◌-◌, ◌≤◌, ◌<◌, ◌≡◌, refl, Bool, true, false, length, take, drop}
use Rattle.std.proofs.Common.{arith, sym, ap₂, subst, ◌∙◌, take_at, drop_at}
use Rattle.std.proofs.Math.Path.{ap}
use mathlib.Core.List.Memᴰ
use mathlib.Core.List.{List, [], ◌∷◌, ◌++◌}
use Rattle.std.proofs.lemmas.List.{length-replicate}
use Rattle.base.specs.paper.Bools.{choose}
use Rattle.base.specs.Bools.{clash, both_left, either_left}
use Rattle.base.specs.paper.Lists.{◌∈◌, all, any}
use Rattle.base.specs.Lists.{here}
use Rattle.base.specs.paper.Members.{has}
use Rattle.image.specs.paper.Faults.{limits}
use Rattle.image.specs.paper.Decode.{Decoded}
use Rattle.image.specs.Accepted.{book_in, within}
use Rattle.image.proofs.Accepted.{orderly}
use Rattle.sets.specs.paper.Kept.{zeros}
use Rattle.sets.specs.SetLaws.{within_has}
use Rattle.area.specs.paper.Work.{work_numbers}
use Rattle.searching.specs.paper.Rules.{Outcome, finished, used_up, no_room, search_end}
use Rattle.searching.specs.paper.Seek.{Seeking, admitted, excluded, spent, sought}
use Rattle.searching.proofs.Main.{listed}
use Rattle.lister.specs.paper.Promise.{Result, searched, result_of, answer_of, sets_of, work_of, Lists}
use Rattle.lister.specs.PromiseLaws.{Admitted, admitted_result}
use Rattle.lister.specs.paper.Promise.{Listing}
use Rattle.lister.specs.paper.Promise as listing
use Rattle.engine.specs.paper.Verdict.{Verdict, Needed, Possible, Refused}
use Rattle.engine.specs.paper.Verdict.{verdict_result, second_of, second, unsettled, by_second, decided, verdict_of, kept, verdict_sets, Refusal, Says}
use Rattle.engine.specs.VerdictLaws.{by_listing_lem, decided_says}
use Rattle.cleaner.specs.declared.Sorted.{Sorted}
use Rattle.cleaner.specs.declared.listed.Listed.{Listed}
use Rattle.cleaner.specs.Told.{Tells}
use Rattle.cleaner.specs.paper.Cleaning.{Cleaning, ascending, unsorted, number, noted, Ending, turned, all_sorted, stopped, after, in_turn, verdict_on, list_of, area_of, Means}
use Rattle.cleaner.specs.paper.Cleaning as paper
use Rattle.cleaner.proofs.Turns.{ascending_member, some_member, ends_sorted, ends_stopped, never_turned, in_turn_same, sorted_means}
use Rattle.cleaner.specs.Sorting.{Wiped, by_list, by_listing, left_by, Concluded}
use Rattle.cleaner.specs.Looking.{Looked, Ripe, ending_on}

-- ---- what a verdict by a list leaves

in_all_in_some : (h x : ℕ) (l : List ℕ) → all (λ (d : ℕ). has d h) (x ∷ l) ≡ true → any (λ (d : ℕ). has d h) (x ∷ l) ≡ true
in_all_in_some h x l e =
    either_left (has x h) (any (λ (d : ℕ). has d h) l) (both_left (has x h) (all (λ (d : ℕ). has d h) l) e)

-- a verdict leaves the listing
kept_listing : (h : ℕ) (l : List ℕ) (n : ℕ) (o : Seeking) (listing old : List ℕ) → (Refusal (decided h l n o) → ⊥) → kept (unsettled h l) o listing old ≡ listing
kept_listing h [] n o listing old r = refl
kept_listing h (x ∷ l) n o listing old r = go (all (λ (d : ℕ). has d h) (x ∷ l)) refl (any (λ (d : ℕ). has d h) (x ∷ l)) refl o r
  where
    go : (t : Bool) → all (λ (d : ℕ). has d h) (x ∷ l) ≡ t → (u : Bool) → any (λ (d : ℕ). has d h) (x ∷ l) ≡ u → (o : Seeking)
        → (Refusal (choose t (Needed n) (choose u (Possible n) (by_second n o))) → ⊥) → kept (choose u false true) o listing old ≡ listing
    go t p true q o r = refl
    go true p false q o r = clash (in_all_in_some h x l p) q
    go false p false q (admitted m) r = refl
    go false p false q (excluded m) r = refl
    go false p false q (spent m) r = absurd (r tt)

-- and a refusal all 0
kept_nothing : (h : ℕ) (l : List ℕ) (n : ℕ) (o : Seeking) (listing old : List ℕ) (s : Sorted) (m : ℕ) → noted h (decided h l n o) s ≡ number m
    → kept (unsettled h l) o listing old ≡ zeros (length old)
kept_nothing h [] n o listing old s m e = cc
kept_nothing h (x ∷ l) n o listing old s m e = go (all (λ (d : ℕ). has d h) (x ∷ l)) (any (λ (d : ℕ). has d h) (x ∷ l)) o e
  where
    go : (t u : Bool) (o : Seeking) → noted h (choose t (Needed n) (choose u (Possible n) (by_second n o))) s ≡ number m → kept (choose u false true) o listing old ≡ zeros (length old)
    go true u o e = cc
    go false true o e = cc
    go false false (admitted k) e = cc
    go false false (excluded k) e = cc
    go false false (spent k) e = refl

-- ---- the verdicts on the image

module _ {image : List ℕ} {hypotheses budget : ℕ} {list area : List ℕ} (ripe : Ripe image hypotheses budget list area) where
  few : (book_in image).abducibles ≤ limits.abducibles
  few = (within image (book_in image) ripe.book).abducibles

  may : Admitted image budget (length list) (length area)
  may = record { book = ripe.book; few = ripe.few; long = ripe.long; low = ripe.low }

  the_result : result_of image budget (length list) (length area) ≡ searched (search_end (book_in image) (length list) budget)
  the_result = admitted_result image budget (length list) (length area) may

  -- of an abducible of the book
  verdict_result_lem : (h : ℕ) → h < (book_in image).abducibles → verdict_result image h budget (length list) (length area) ≡ searched (search_end (book_in image) (length list) budget)
  verdict_result_lem h k = by_listing_lem image h budget (length list) (length area) may k ∙ the_result

  the_second : (h : ℕ) → second image h budget ≡ sought (book_in image) h budget
  unfolding second
  the_second h = ap (λ (d : Decoded). second_of d h budget) ripe.book

  abducible : (h : ℕ) → h ∈ ascending hypotheses → h < (book_in image).abducibles
  abducible h m = within_has hypotheses (book_in image).abducibles ripe.named h (ascending_member hypotheses m)

  verdict_is : (h : ℕ) → h < (book_in image).abducibles
      → verdict_on image budget (length list) (length area) h ≡ verdict_of h (searched (search_end (book_in image) (length list) budget)) (sought (book_in image) h budget)
  verdict_is h k = ap₂ (verdict_of h) (verdict_result_lem h k) (the_second h)

  -- a verdict that is no refusal is right by the meaning
  verdict_says : (h : ℕ) → h < (book_in image).abducibles → (Refusal (verdict_on image budget (length list) (length area) h) → ⊥)
      → Says (book_in image) h (verdict_on image budget (length list) (length area) h)
  verdict_says h k r =
      subst (Says (book_in image) h) (sym (verdict_is h k))
      (go (search_end (book_in image) (length list) budget) refl (λ x. r (subst Refusal (sym (verdict_is h k)) x)))
    where
      go : (o : Outcome) → search_end (book_in image) (length list) budget ≡ o → (Refusal (verdict_of h (searched o) (sought (book_in image) h budget)) → ⊥)
          → Says (book_in image) h (verdict_of h (searched o) (sought (book_in image) h budget))
      go (finished l n) e r =
          decided_says (book_in image) (orderly image (book_in image) ripe.book) h k budget l n
          (listed (book_in image) (orderly image (book_in image) ripe.book) (length list) budget l n e).0 r
      go (used_up n) e r = absurd (r tt)
      go (no_room n) e r = absurd (r tt)

  -- what the answer says is so
  pub ending_means : Means (book_in image) hypotheses (paper.answer_of hypotheses (ending_on image hypotheses budget list area))
  ending_means = go (ending_on image hypotheses budget list area) refl
    where
      go : (x : Ending) → ending_on image hypotheses budget list area ≡ x → Means (book_in image) hypotheses (paper.answer_of hypotheses x)
      go (turned n) e = tt
      go (all_sorted last s) e =
          sorted_means (book_in image) hypotheses ripe.some ripe.named few (verdict_on image budget (length list) (length area)) verdict_says 0 last s e
      go (stopped last n) e = tt

  -- ---- the listing is refused, and with it the first verdict

  -- the first hypothesis
  first : (h : ℕ) × (hs : List ℕ) × (ascending hypotheses ≡ h ∷ hs)
  first = go (ascending hypotheses) refl (some_member hypotheses ripe.some (book_in image).abducibles ripe.named few)
    where
      go : (l : List ℕ) → ascending hypotheses ≡ l → (h : ℕ) × (h ∈ ascending hypotheses) → (h : ℕ) × (hs : List ℕ) × (ascending hypotheses ≡ h ∷ hs)
      go [] e w = absurd (Memᴰ.not-nil (subst (λ (l : List ℕ). w.0 ∈ l) e w.1))
      go (h ∷ hs) e w = (h, hs, e)

  first_in : first.0 ∈ ascending hypotheses
  first_in = subst (λ (l : List ℕ). first.0 ∈ l) (sym first.2) here

  module _ (o : Outcome) (is : search_end (book_in image) (length list) budget ≡ o) (m n : ℕ)
      (refused : (h : ℕ) → verdict_of h (searched o) (sought (book_in image) h budget) ≡ Refused m n) where
    stops : ending_on image hypotheses budget list area ≡ stopped first.0 m
    unfolding in_turn
    stops =
        ap (λ (l : List ℕ). in_turn (verdict_on image budget (length list) (length area)) 0 l unsorted) first.2
        ∙ ap (λ (v : Verdict). after (noted first.0 v unsorted) (in_turn (verdict_on image budget (length list) (length area)) first.0 first.1) (stopped first.0))
        (verdict_is first.0 (abducible first.0 first_in) ∙ ap (λ (x : Outcome). verdict_of first.0 (searched x) (sought (book_in image) first.0 budget)) is ∙ refused first.0)

    first_result : verdict_result image first.0 budget (length list) (length area) ≡ searched o
    first_result = verdict_result_lem first.0 (abducible first.0 first_in) ∙ ap searched is

  pub looked_refused : {r : Listing} {list' area' : List ℕ} → Lists image budget list area r list' area' → (m n : ℕ) → r ≡ listing.Refused m n
      → Looked image hypotheses budget list area (paper.Refused m) list' area'
  looked_refused {r} {list'} {area'} lists m n i = go (search_end (book_in image) (length list) budget) refl
    where
      -- the outcome is one that every verdict refuses alike
      by : (o : Outcome) → search_end (book_in image) (length list) budget ≡ o → (k : ℕ) → k ≡ m
          → ((h : ℕ) → verdict_of h (searched o) (sought (book_in image) h budget) ≡ Refused k n)
          → ((h : ℕ) → verdict_sets h (searched o) (second image h budget) list ≡ sets_of (searched o) list)
          → Looked image hypotheses budget list area (paper.Refused m) list' area'
      by o is k e refused sets =
          let s = stops o is k n refused in
          let f = first_result o is k n refused in
          let res : result_of image budget (length list) (length area) ≡ searched o = the_result ∙ ap searched is in
          record {
            answer = ap paper.Refused (sym e) ∙ ap (paper.answer_of hypotheses) (sym s);
            sets =
                lists.sets ∙ ap (λ (x : Result). sets_of x list) res ∙ sym (sets first.0)
                ∙ ap (λ (x : Result). verdict_sets first.0 x (second image first.0 budget) list) (sym f) ∙ ap (list_of image budget list area) (sym s);
            work = lists.work ∙ ap (λ (x : Result). work_of x area) (res ∙ sym f) ∙ ap (area_of image budget list area) (sym s);
          }

      told : (o : Outcome) → search_end (book_in image) (length list) budget ≡ o → listing.Refused m n ≡ answer_of (searched o)
      told o is = sym i ∙ lists.answer ∙ ap answer_of (the_result ∙ ap searched is)

      go : (o : Outcome) → search_end (book_in image) (length list) budget ≡ o → Looked image hypotheses budget list area (paper.Refused m) list' area'
      go (finished l k) is = let t = told (finished l k) is in cc
      go (used_up k) is =
          let t = told (used_up k) is in
          let e : 30 ≡ m = cc in
          let many : k ≡ n = cc in
          by (used_up k) is 30 e (λ h. ap (Refused 30) many) (λ h. refl)
      go (no_room k) is =
          let t = told (no_room k) is in
          let e : 31 ≡ m = cc in
          let many : k ≡ n = cc in
          by (no_room k) is 31 e (λ h. ap (Refused 31) many) (λ h. refl)

  -- the image is a book, so it is not at fault
  pub looked_broken : {r : Listing} {list' area' : List ℕ} → Lists image budget list area r list' area' → (m at : ℕ) → r ≡ listing.Broken m at → ⊥
  looked_broken {r} lists m at i = go (search_end (book_in image) (length list) budget) refl
    where
      go : (o : Outcome) → search_end (book_in image) (length list) budget ≡ o → ⊥
      go (finished l k) is = let t : listing.Broken m at ≡ answer_of (searched (finished l k)) = sym i ∙ lists.answer ∙ ap answer_of (the_result ∙ ap searched is) in cc
      go (used_up k) is = let t : listing.Broken m at ≡ answer_of (searched (used_up k)) = sym i ∙ lists.answer ∙ ap answer_of (the_result ∙ ap searched is) in cc
      go (no_room k) is = let t : listing.Broken m at ≡ answer_of (searched (no_room k)) = sym i ∙ lists.answer ∙ ap answer_of (the_result ∙ ap searched is) in cc

  -- ---- the listing is finished

  -- the second searches may begin
  pub wiped_after : {r : Listing} {list' area' : List ℕ} → Lists image budget list area r list' area' → length area' ≡ length area → Wiped area'
  wiped_after {r} {list'} {area'} lists same =
      record {
        long = omega (arith, ripe.long, same);
        cleared = wiped ∙ ap (λ (l : List ℕ). zeros work_numbers ++ l) (sym behind);
      }
    where
      wiped : area' ≡ zeros work_numbers ++ drop work_numbers area
      wiped = lists.work ∙ ap (λ (x : Result). work_of x area) the_result

      behind : drop work_numbers area' ≡ drop work_numbers area
      behind = ap (drop work_numbers) wiped ∙ drop_at (zeros work_numbers) (drop work_numbers area) work_numbers (length-replicate {A = ℕ} work_numbers 0)

  module _ (l : List ℕ) (j : ℕ) (is : search_end (book_in image) (length list) budget ≡ finished l j) where
    by_list_lem : ending_on image hypotheses budget list area ≡ by_listing (book_in image) hypotheses budget l j
    by_list_lem =
        in_turn_same (verdict_on image budget (length list) (length area)) (by_list (book_in image) budget l j) (ascending hypotheses)
        (λ h m. verdict_is h (abducible h m) ∙ ap (λ (o : Outcome). verdict_of h (searched o) (sought (book_in image) h budget)) is) 0 unsorted

    -- what the verdict on `last` leaves
    last_sets : (last : ℕ) → last ∈ ascending hypotheses
        → verdict_sets last (verdict_result image last budget (length list) (length area)) (second image last budget) list
        ≡ kept (unsettled last l) (sought (book_in image) last budget) (sets_of (searched (finished l j)) list) list
    last_sets last m =
        ap₂ (λ (x : Result) (o : Seeking). verdict_sets last x o list) (verdict_result_lem last (abducible last m) ∙ ap searched is) (the_second last)

    last_work : (last : ℕ) → last ∈ ascending hypotheses → work_of (verdict_result image last budget (length list) (length area)) area ≡ work_of (searched (finished l j)) area
    last_work last m = ap (λ (x : Result). work_of x area) (verdict_result_lem last (abducible last m) ∙ ap searched is)

    left_sets : (x : Ending) → by_listing (book_in image) hypotheses budget l j ≡ x → (list' : List ℕ) → list' ≡ sets_of (searched (finished l j)) list → length list' ≡ length list
        → (left_by x list' ≡ list_of image budget list area x) × (work_of (searched (finished l j)) area ≡ area_of image budget list area x)
    left_sets (turned n) e list' s k = absurd (never_turned (by_list (book_in image) budget l j) (ascending hypotheses) 0 unsorted n e)
    left_sets (all_sorted last t) e list' s k =
        let w = ends_sorted (by_list (book_in image) budget l j) first.1 0 first.0 unsorted last t
        (ap (λ (hs : List ℕ). in_turn (by_list (book_in image) budget l j) 0 hs unsorted) (sym first.2) ∙ e) in
        let m : last ∈ ascending hypotheses = subst (λ (hs : List ℕ). last ∈ hs) (sym first.2) w.0 in (
          s ∙ sym (kept_listing last l j (sought (book_in image) last budget) (sets_of (searched (finished l j)) list) list w.1) ∙ sym (last_sets last m),
          sym (last_work last m),
        )
    left_sets (stopped last n) e list' s k =
        let w = ends_stopped (by_list (book_in image) budget l j) (ascending hypotheses) 0 unsorted last n e in (
          ap zeros k
              ∙ sym (kept_nothing last l j (sought (book_in image) last budget) (sets_of (searched (finished l j)) list) list unsorted n (w.1 unsorted))
              ∙ sym (last_sets last w.0),
          sym (last_work last w.0),
        )

  pub looked_listed : {r : Listing} {list' area' : List ℕ} → Lists image budget list area r list' area' → length list' ≡ length list → (k n : ℕ) → r ≡ listing.Listed k n
      → {told : Listed} → Tells hypotheses told (take k list') → {q : Cleaning} {list'' area'' : List ℕ}
      → Concluded image hypotheses budget told list' area' q list'' area'' → Looked image hypotheses budget list area q list'' area''
  looked_listed {r} {list'} {area'} lists same k n i {told} tells {q} {list''} {area''} c = go (search_end (book_in image) (length list) budget) refl
    where
      said : (o : Outcome) → search_end (book_in image) (length list) budget ≡ o → listing.Listed k n ≡ answer_of (searched o)
      said o is = sym i ∙ lists.answer ∙ ap answer_of (the_result ∙ ap searched is)

      go : (o : Outcome) → search_end (book_in image) (length list) budget ≡ o → Looked image hypotheses budget list area q list'' area''
      go (finished l j) is =
          let t = said (finished l j) is in
          let many : length l ≡ k = cc in
          let res : result_of image budget (length list) (length area) ≡ searched (finished l j) = the_result ∙ ap searched is in
          let sets : list' ≡ sets_of (searched (finished l j)) list = lists.sets ∙ ap (λ (x : Result). sets_of x list) res in
          let front : take k list' ≡ l = ap (take k) sets ∙ take_at l (zeros (length list - length l)) k many in
          let tell : Tells hypotheses told l = subst (Tells hypotheses told) front tells in
          let x : Ending = by_listing (book_in image) hypotheses budget l j in
          let left = left_sets l j is x refl list' sets same in
          let e : ending_on image hypotheses budget list area ≡ x = by_list_lem l j is in
          record {
            answer = c.answer l tell j ∙ ap (paper.answer_of hypotheses) (sym e);
            sets = c.sets l tell j ∙ left.0 ∙ ap (list_of image budget list area) (sym e);
            work = c.work ∙ lists.work ∙ ap (λ (y : Result). work_of y area) res ∙ left.1 ∙ ap (area_of image budget list area) (sym e);
          }
      go (used_up j) is = let t = said (used_up j) is in cc
      go (no_room j) is = let t = said (no_room j) is in cc
