-- The laws of the verdict: the promise fixes the result, and what is decided by a list of explanations is right by the meaning. Then the
-- ways to a verdict: turned away before any search, or refused by the listing or by the second search.
-- Assumes nothing.
use Prim.Native.Nat.{ℕ, ◌+◌, ◌-◌, ◌≤◌, ◌<◌}
use Rattle.std.proofs.Common.{arith, sym, ◌∙◌, ⊎_elim, lt-ltb, le-ltb, length-append, drop_at}
use Rattle.std.proofs.Math.Path.{◌≡◌, ap, ap₂}
use Rattle.std.specs.Prelude.{refl, Bool, true, false, ltb, drop, Option, Some, None, Result as Returned, Ok, Err}
use mathlib.Core.List.{List, [], ◌∷◌, ◌++◌}
use Rattle.std.proofs.Math.ListN.{length}
use Rattle.std.proofs.lemmas.List.{length-replicate}
use Rattle.base.specs.paper.Bools.{choose}
use Rattle.base.specs.Bools.{clash, decide}
use Rattle.base.specs.paper.Lists.{all, any}
use Rattle.base.specs.Lists.{here, all_every, every_all, any_some, some_any}
use Rattle.base.specs.paper.Members.{has}
use Rattle.image.specs.paper.Book.{Book}
use Rattle.image.specs.Sound.{Orderly}
use Rattle.image.specs.paper.Faults.{limits}
use Rattle.image.specs.paper.Decode.{Decoded, decode}
use Rattle.image.specs.Accepted.{IsBook, book_in, within}
use Rattle.sets.specs.paper.Kept.{zeros}
use Rattle.area.specs.paper.Work.{work_numbers}
use Rattle.searching.specs.paper.Rules.{root, Outcome, finished, used_up, no_room, run_from, sent}
use Rattle.searching.specs.paper.Explanations.{Explanations}
use Rattle.searching.specs.paper.Seek.{Seeking, admitted, excluded, spent, sought}
use Rattle.searching.proofs.Main.{explanations_none}
use Rattle.searching.proofs.Outcomes.{finished_exactly}
use Rattle.searching.proofs.Admitted.{admitted_some, excluded_none}
use Rattle.searching.proofs.Explaining.{all_explaining, some_explaining, not_all}
use Rattle.lister.specs.paper.Promise.{most_budget, Result, broken, turned, searched, result_of, answer_of, sets_of, work_of, Lists}
use Rattle.lister.specs.PromiseLaws.{Admitted as Admitted', Early, admitted_result}
use Rattle.lister.specs.declared.NoAnswer.{NoAnswer}
use Rattle.lister.specs.declared.NoAnswer.TheVariants as none
use Rattle.lister.specs.paper.Promise.{Listing}
use Rattle.lister.specs.paper.Promise as listing
use Rattle.image.specs.paper.Refusals.{number_of}
use Rattle.image.specs.RefusalLaws.{number_tells}
use Rattle.image.specs.declared.refusals.Refusal.{Refusal as Why}
use Rattle.admitting.specs.paper.Promise.{Admission, Admitted, Excluded, answer_of as answer_as, searched as searched_as}
use Rattle.admitting.specs.paper.Promise as admission
use Rattle.admitting.specs.AdmitLaws.{Seekable, Sought, nodes_in, sought_few}
use Rattle.engine.specs.declared.Verdict.{Verdict as Found}
use Rattle.engine.specs.declared.Verdict.TheVariants as found
use Rattle.engine.specs.paper.Verdict.{Verdict, Needed, Possible, RuledOut, Broken, Refused, verdict as verdict_as, named, asked, verdict_result, second, unsettled, by_second, decided, verdict_of, kept, verdict_sets, Explainable, Says, Refusal, Verdicts}

-- two results that meet the promise are equal
pub verdicts_unique : (image : List ℕ) (h budget : ℕ) (list area : List ℕ) (r q : Verdict) (list₁ area₁ list₂ area₂ : List ℕ)
    → Verdicts image h budget list area r list₁ area₁ → Verdicts image h budget list area q list₂ area₂
    → (r ≡ q) × (list₁ ≡ list₂) × (area₁ ≡ area₂)
verdicts_unique image h budget list area r q list₁ area₁ list₂ area₂ a b =
    (a.answer ∙ sym b.answer, a.sets ∙ sym b.sets, a.work ∙ sym b.work)

-- what `verdict_on` returns is told by its verdict, so two of its results that meet the promise are equal too
pub verdict_tells : (q r : Returned Found NoAnswer) → verdict_as q ≡ verdict_as r → q ≡ r
verdict_tells (Ok (found.Unexplained m)) (Ok (found.Unexplained n)) e = cc
verdict_tells (Ok (found.Unexplained m)) (Ok (found.Needed n)) e = cc
verdict_tells (Ok (found.Unexplained m)) (Ok (found.Possible n)) e = cc
verdict_tells (Ok (found.Unexplained m)) (Ok (found.RuledOut n)) e = cc
verdict_tells (Ok (found.Unexplained m)) (Err (none.Broken g)) e = cc
verdict_tells (Ok (found.Unexplained m)) (Err (none.Refused b n)) e = cc
verdict_tells (Ok (found.Needed m)) (Ok (found.Unexplained n)) e = cc
verdict_tells (Ok (found.Needed m)) (Ok (found.Needed n)) e = cc
verdict_tells (Ok (found.Needed m)) (Ok (found.Possible n)) e = cc
verdict_tells (Ok (found.Needed m)) (Ok (found.RuledOut n)) e = cc
verdict_tells (Ok (found.Needed m)) (Err (none.Broken g)) e = cc
verdict_tells (Ok (found.Needed m)) (Err (none.Refused b n)) e = cc
verdict_tells (Ok (found.Possible m)) (Ok (found.Unexplained n)) e = cc
verdict_tells (Ok (found.Possible m)) (Ok (found.Needed n)) e = cc
verdict_tells (Ok (found.Possible m)) (Ok (found.Possible n)) e = cc
verdict_tells (Ok (found.Possible m)) (Ok (found.RuledOut n)) e = cc
verdict_tells (Ok (found.Possible m)) (Err (none.Broken g)) e = cc
verdict_tells (Ok (found.Possible m)) (Err (none.Refused b n)) e = cc
verdict_tells (Ok (found.RuledOut m)) (Ok (found.Unexplained n)) e = cc
verdict_tells (Ok (found.RuledOut m)) (Ok (found.Needed n)) e = cc
verdict_tells (Ok (found.RuledOut m)) (Ok (found.Possible n)) e = cc
verdict_tells (Ok (found.RuledOut m)) (Ok (found.RuledOut n)) e = cc
verdict_tells (Ok (found.RuledOut m)) (Err (none.Broken g)) e = cc
verdict_tells (Ok (found.RuledOut m)) (Err (none.Refused b n)) e = cc
verdict_tells (Err (none.Broken f)) (Ok (found.Unexplained n)) e = cc
verdict_tells (Err (none.Broken f)) (Ok (found.Needed n)) e = cc
verdict_tells (Err (none.Broken f)) (Ok (found.Possible n)) e = cc
verdict_tells (Err (none.Broken f)) (Ok (found.RuledOut n)) e = cc
verdict_tells (Err (none.Broken f)) (Err (none.Broken g)) e =
    let number : number_of f.refusal ≡ number_of g.refusal = cc in
    let place : f.place ≡ g.place = cc in
    ap₂ (λ (r : Why) (p : ℕ). Err (none.Broken (record { refusal = r; place = p }))) (number_tells _ _ number) place
verdict_tells (Err (none.Broken f)) (Err (none.Refused b n)) e = cc
verdict_tells (Err (none.Refused a m)) (Ok (found.Unexplained n)) e = cc
verdict_tells (Err (none.Refused a m)) (Ok (found.Needed n)) e = cc
verdict_tells (Err (none.Refused a m)) (Ok (found.Possible n)) e = cc
verdict_tells (Err (none.Refused a m)) (Ok (found.RuledOut n)) e = cc
verdict_tells (Err (none.Refused a m)) (Err (none.Broken g)) e = cc
verdict_tells (Err (none.Refused a m)) (Err (none.Refused b n)) e =
    let number : number_of a ≡ number_of b = cc in
    let nodes : m ≡ n = cc in
    ap₂ (λ (r : Why) (k : ℕ). Err (none.Refused r k)) (number_tells _ _ number) nodes

pub results_unique : (image : List ℕ) (h budget : ℕ) (list area : List ℕ) (r q : Returned Found NoAnswer) (list₁ area₁ list₂ area₂ : List ℕ)
    → Verdicts image h budget list area (verdict_as r) list₁ area₁ → Verdicts image h budget list area (verdict_as q) list₂ area₂
    → (r ≡ q) × (list₁ ≡ list₂) × (area₁ ≡ area₂)
results_unique image h budget list area r q list₁ area₁ list₂ area₂ a b =
    let u = verdicts_unique image h budget list area (verdict_as r) (verdict_as q) list₁ area₁ list₂ area₂ a b in
    (verdict_tells r q u.0, u.1, u.2)

-- ---- what is decided is so

module _ (b : Book) (o : Orderly b) (h : ℕ) (known : h < b.abducibles) (budget : ℕ) where
  -- a verdict by the list of explanations and by the second search says what is so
  pub decided_says : (l : List ℕ) (n : ℕ) → Explanations b l → (Refusal (decided h l n (sought b h budget)) → ⊥) → Says b h (decided h l n (sought b h budget))
  decided_says [] n e verdict = λ x. (explanations_none b o [] e).0 refl x.0 x.1
  decided_says (s ∷ l) n e verdict = go (all test (s ∷ l)) refl (any test (s ∷ l)) refl verdict
    where
      test : ℕ → Bool
      test d = has d h

      first : Explainable b
      first = (s, ((e.members s).0 here).explaining)

      -- the list has a set without h
      without : any test (s ∷ l) ≡ false → has s h ≡ false
      without q = ⊎_elim (λ (t : has s h ≡ true). clash (some_any test (s ∷ l) (s, here, t)) q) (λ t. t) (decide (has s h))

      later : any test (s ∷ l) ≡ false → (x : Seeking) → sought b h budget ≡ x → (Refusal (by_second n x) → ⊥) → Says b h (by_second n x)
      later q (admitted m) i verdict =
          let w = admitted_some b o h known budget m i in
          ((w.0, w.1, w.2), not_all b h (s ∷ l) e s here (without q))
      later q (excluded m) i verdict = (first, λ some. excluded_none b o h known budget m i some.0 some.1 some.2)
      later q (spent m) i verdict = absurd (verdict tt)

      go : (t : Bool) → all test (s ∷ l) ≡ t → (u : Bool) → any test (s ∷ l) ≡ u
          → (Refusal (choose t (Needed n) (choose u (Possible n) (by_second n (sought b h budget)))) → ⊥)
          → Says b h (choose t (Needed n) (choose u (Possible n) (by_second n (sought b h budget))))
      go true t u q verdict = (first, (all_explaining b o h (s ∷ l) e).0 (all_every test (s ∷ l) t))
      go false t true q verdict =
          let f = any_some test (s ∷ l) q in (
            some_explaining b h (s ∷ l) e f.0 f.1 f.2,
            λ each. clash (every_all test (s ∷ l) ((all_explaining b o h (s ∷ l) e).1 each)) t,
          )
      go false t false q verdict = later q (sought b h budget) refl verdict

-- ---- the ways to a verdict

module _ (image : List ℕ) (h budget : ℕ) (list area : List ℕ) where
  turned_away : (n m : ℕ) → verdict_result image h budget (length list) (length area) ≡ turned n → m ≡ 0 → Verdicts image h budget list area (Refused n m) list area
  turned_away n m e z = record {
    answer = ap (Refused n) z ∙ ap (λ (x : Result). verdict_of h x (second image h budget)) (sym e);
    sets = ap (λ (x : Result). verdict_sets h x (second image h budget) list) (sym e);
    work = ap (λ (x : Result). work_of x area) (sym e);
    meaning = λ verdict. absurd (verdict tt);
  }

  -- a refusal before any search
  pub verdict_early : (e : NoAnswer) → Early image budget (length list) (length area) (Err e) → Verdicts image h budget list area (verdict_as (Err e)) list area
  unfolding verdict_result
  verdict_early (none.Broken f) early =
      let e : verdict_result image h budget (length list) (length area) ≡ broken (number_of f.refusal) f.place = ap (asked (named (decode image) h)) early in
      record {
        answer = ap (λ (x : Result). verdict_of h x (second image h budget)) (sym e);
        sets = ap (λ (x : Result). verdict_sets h x (second image h budget) list) (sym e);
        work = ap (λ (x : Result). work_of x area) (sym e);
        meaning = λ verdict. absurd (verdict tt);
      }
  verdict_early (none.Refused r n) early = turned_away (number_of r) n (ap (asked (named (decode image) h)) early.0) early.1

module _ (image : List ℕ) (h budget room space : ℕ) (a : Admitted' image budget room space) where
  on_book : (t : Bool) → ltb h (book_in image).abducibles ≡ t → verdict_result image h budget room space ≡ asked t (result_of image budget room space)
  unfolding verdict_result
  on_book t e = ap (λ (u : Bool). asked u (result_of image budget room space)) (ap (λ (d : Decoded). named d h) a.book ∙ e)

  unnamed : (book_in image).abducibles ≤ h → verdict_result image h budget room space ≡ turned 23
  unnamed k = on_book false (le-ltb h (book_in image).abducibles k) ∙ ap (asked false) (admitted_result image budget room space a)

  -- the hypothesis is an abducible of the book: the listing decides
  pub by_listing_lem : h < (book_in image).abducibles → verdict_result image h budget room space ≡ result_of image budget room space
  by_listing_lem k =
      let r = admitted_result image budget room space a in
      on_book true (lt-ltb h (book_in image).abducibles k) ∙ ap (asked true) r ∙ sym r

-- an abducible is a small number
pub hypothesis_small : (image : List ℕ) → IsBook image → (h : ℕ) → h < (book_in image).abducibles → h < limits.abducibles
hypothesis_small image i h k = let few : (book_in image).abducibles ≤ limits.abducibles = (within image (book_in image) i).abducibles in omega arith

-- a hypothesis that is none
pub verdict_unnamed : (image : List ℕ) (h budget : ℕ) (list area : List ℕ) (a : Admitted' image budget (length list) (length area))
    → (book_in image).abducibles ≤ h → Verdicts image h budget list area (Refused 23 0) list area
verdict_unnamed image h budget list area a k = turned_away image h budget list area 23 0 (unnamed image h budget (length list) (length area) a k) refl

-- ---- what the list settles

-- the verdict on the hypothesis behind n nodes, or that it is left open
abbrev pub settles : ℕ → List ℕ → ℕ → Option Found
settles h [] n = Some (found.Unexplained n)
settles h (s ∷ l) n = choose (all (λ (d : ℕ). has d h) (s ∷ l)) (Some (found.Needed n)) (choose (any (λ (d : ℕ). has d h) (s ∷ l)) (Some (found.Possible n)) None)

-- a list that is not empty is settled by its tests
pub settles_by : (h : ℕ) (l : List ℕ) (n : ℕ) → (length l ≡ 0 → ⊥)
    → settles h l n ≡ choose (all (λ (d : ℕ). has d h) l) (Some (found.Needed n)) (choose (any (λ (d : ℕ). has d h) l) (Some (found.Possible n)) None)
settles_by h [] n k = absurd (k refl)
settles_by h (s ∷ l) n k = refl

-- the verdict by what the list settles
abbrev pub by_settled : Option Found → ℕ → Seeking → Verdict
by_settled (Some v) n later = verdict_as (Ok v)
by_settled None n later = by_second n later

abbrev pub is_open : Option Found → Bool
is_open (Some v) = false
is_open None = true

pub decided_settles : (h : ℕ) (l : List ℕ) (n : ℕ) (later : Seeking) → by_settled (settles h l n) n later ≡ decided h l n later
decided_settles h [] n later = refl
decided_settles h (s ∷ l) n later = go (all (λ (d : ℕ). has d h) (s ∷ l)) (any (λ (d : ℕ). has d h) (s ∷ l))
  where
    go : (t u : Bool) → by_settled (choose t (Some (found.Needed n)) (choose u (Some (found.Possible n)) None)) n later ≡ choose t (Needed n) (choose u (Possible n) (by_second n later))
    go true u = refl
    go false true = refl
    go false false = refl

pub unsettled_settles : (h : ℕ) (l : List ℕ) (n : ℕ) → is_open (settles h l n) ≡ unsettled h l
unsettled_settles h [] n = refl
unsettled_settles h (s ∷ l) n = go (all test (s ∷ l)) refl (any test (s ∷ l)) refl
  where
    test : ℕ → Bool
    test d = has d h

    -- what is in all is in some
    in_some : all test (s ∷ l) ≡ true → any test (s ∷ l) ≡ true
    in_some t = some_any test (s ∷ l) (s, here, all_every test (s ∷ l) t s here)

    go : (t : Bool) → all test (s ∷ l) ≡ t → (u : Bool) → any test (s ∷ l) ≡ u → is_open (choose t (Some (found.Needed n)) (choose u (Some (found.Possible n)) None)) ≡ choose u false true
    go true t true q = refl
    go true t false q = clash (in_some t) q
    go false t true q = refl
    go false t false q = refl

-- ---- after a listing

-- the second search may begin, and the work area is as a search leaves it
pub record Concludable (image : List ℕ) (h budget n : ℕ) (area : List ℕ) : Type 0 where
  pub seekable : Seekable image h budget area
  pub few : n ≤ most_budget
  pub cleared : area ≡ zeros work_numbers ++ drop work_numbers area

-- the verdict by the second search, behind n nodes
pub record Seconded (image : List ℕ) (h budget n : ℕ) (list area : List ℕ) (r : Verdict) (list' area' : List ℕ) : Type 0 where
  pub answer : r ≡ by_second n (sought (book_in image) h budget)
  pub sets : list' ≡ kept true (sought (book_in image) h budget) list list
  pub work : area' ≡ area

-- the verdict by a list l of n nodes, and by the second search where that leaves it open
pub record Concluded (image : List ℕ) (h budget : ℕ) (l : List ℕ) (n : ℕ) (list area : List ℕ) (r : Verdict) (list' area' : List ℕ) : Type 0 where
  pub answer : r ≡ decided h l n (sought (book_in image) h budget)
  pub sets : list' ≡ kept (unsettled h l) (sought (book_in image) h budget) list list
  pub work : area' ≡ area

-- what the second search answers, and what is left of the list
module _ (n : ℕ) (list : List ℕ) where
  told_excluded : (x : Seeking) (m : ℕ) → Excluded m ≡ answer_as (searched_as x) → (RuledOut (n + m) ≡ by_second n x) × (list ≡ kept true x list list)
  told_excluded (admitted k) m e = let z : ◌≡◌ {A = ℕ} 0 1 = cc in absurd (omega arith)
  told_excluded (excluded k) m e = let z : m ≡ k = cc in (ap (λ (j : ℕ). RuledOut (n + j)) z, refl)
  told_excluded (spent k) m e = let z : ◌≡◌ {A = ℕ} 0 1 = cc in absurd (omega arith)

  told_broken : {A : Type 0} (x : Seeking) (number at : ℕ) → admission.Broken number at ≡ answer_as (searched_as x) → A
  told_broken (admitted k) number at e = let z : ◌≡◌ {A = ℕ} 0 1 = cc in absurd (omega arith)
  told_broken (excluded k) number at e = let z : ◌≡◌ {A = ℕ} 0 1 = cc in absurd (omega arith)
  told_broken (spent k) number at e = let z : ◌≡◌ {A = ℕ} 0 1 = cc in absurd (omega arith)

module _ (image : List ℕ) (h budget n : ℕ) (list area : List ℕ) (c : Concludable image h budget n area) (q : Admission) (area' : List ℕ) (s : Sought image h budget area q area') where
  pub work_same : area' ≡ area
  work_same = s.work ∙ sym c.cleared

  pub seconded_excluded : (m : ℕ) → q ≡ Excluded m → Seconded image h budget n list area (RuledOut (n + m)) list area'
  seconded_excluded m e = let w = told_excluded n list (sought (book_in image) h budget) m (sym e ∙ s.answer) in record { answer = w.0; sets = w.1; work = work_same }

  pub seconded_broken : (number at : ℕ) → q ≡ admission.Broken number at → Seconded image h budget n list area (Broken number at) list area'
  seconded_broken number at e = told_broken n list (sought (book_in image) h budget) number at (sym e ∙ s.answer)

-- both searches together visit no more nodes than a number of 32 bits can tell
pub more_nodes : (image : List ℕ) (h budget n : ℕ) (area : List ℕ) → Concludable image h budget n area → (q : Admission) (area' : List ℕ) → Sought image h budget area q area'
    → (m : ℕ) → nodes_in q ≡ m → n + m ≤ most_budget + most_budget
more_nodes image h budget n area c q area' s m e = omega (arith, e, sought_few image h budget area q area' s, c.seekable.low, c.few)

-- a listing has no more sets than entries
pub lists_count : (image : List ℕ) (budget : ℕ) (list area : List ℕ) (r : Listing) (list' area' : List ℕ) → Lists image budget list area r list' area'
    → (k n : ℕ) → r ≡ listing.Listed k n → k ≤ length list'
lists_count image budget list area r list' area' lists k n i = go (result_of image budget (length list) (length area)) (sym i ∙ lists.answer) lists.sets
  where
    go : (x : Result) → listing.Listed k n ≡ answer_of x → list' ≡ sets_of x list → k ≤ length list'
    go (broken j at) q t = let z : ◌≡◌ {A = ℕ} 0 1 = cc in absurd (omega arith)
    go (turned j) q t = let z : ◌≡◌ {A = ℕ} 0 1 = cc in absurd (omega arith)
    go (searched (finished l j)) q t =
        let many : k ≡ length l = cc in
        let long : length list' ≡ length (l ++ zeros (length list - length l)) = ap length t in
        omega (arith, length-append l (zeros (length list - length l)))
    go (searched (used_up j)) q t = let z : ◌≡◌ {A = ℕ} 0 1 = cc in absurd (omega arith)
    go (searched (no_room j)) q t = let z : ◌≡◌ {A = ℕ} 0 1 = cc in absurd (omega arith)

-- and no more nodes than its budget
pub lists_nodes : (image : List ℕ) (budget : ℕ) (list area : List ℕ) (r : Listing) (list' area' : List ℕ) → Lists image budget list area r list' area'
    → Admitted' image budget (length list) (length area) → (k n : ℕ) → r ≡ listing.Listed k n → n ≤ budget
lists_nodes image budget list area r list' area' lists a k n i =
    go (run_from b (length list) budget (root b)) refl (sym i ∙ lists.answer ∙ ap answer_of (admitted_result image budget (length list) (length area) a))
  where
    b : Book
    b = book_in image

    go : (o : Outcome) → run_from b (length list) budget (root b) ≡ o → listing.Listed k n ≡ answer_of (searched (sent (run_from b (length list) budget (root b)))) → n ≤ budget
    go (finished l j) p q =
        let told : listing.Listed k n ≡ answer_of (searched (sent (finished l j))) = q ∙ ap (λ (o : Outcome). answer_of (searched (sent o))) p in
        let same : n ≡ j = cc (told) in
        let w = (finished_exactly b (length list) budget (root b) l j).0 p in
        omega (arith, same, w.0, w.3)
    go (used_up j) p q =
        let told : listing.Listed k n ≡ answer_of (searched (sent (used_up j))) = q ∙ ap (λ (o : Outcome). answer_of (searched (sent o))) p in
        let z : ◌≡◌ {A = ℕ} 0 1 = cc (told) in
        absurd (omega arith)
    go (no_room j) p q =
        let told : listing.Listed k n ≡ answer_of (searched (sent (no_room j))) = q ∙ ap (λ (o : Outcome). answer_of (searched (sent o))) p in
        let z : ◌≡◌ {A = ℕ} 0 1 = cc (told) in
        absurd (omega arith)

-- a finished listing leaves the work area of a search
pub lists_cleared : (image : List ℕ) (budget : ℕ) (list area : List ℕ) (r : Listing) (list' area' : List ℕ) → Lists image budget list area r list' area'
    → Admitted' image budget (length list) (length area) → area' ≡ zeros work_numbers ++ drop work_numbers area'
lists_cleared image budget list area r list' area' lists a =
    let w : area' ≡ zeros work_numbers ++ drop work_numbers area =
    lists.work ∙ ap (λ (x : Result). work_of x area) (admitted_result image budget (length list) (length area) a) in
    w ∙ ap (λ (l : List ℕ). zeros work_numbers ++ l) (sym (ap (drop work_numbers) w ∙ drop_at (zeros work_numbers) (drop work_numbers area) work_numbers (length-replicate {A = ℕ} work_numbers 0)))

-- a listing that was refused on the way
module _ (image : List ℕ) (h budget : ℕ) (list area list' area' : List ℕ)
    (e : verdict_result image h budget (length list) (length area) ≡ result_of image budget (length list) (length area)) where
  module _ (r : Listing) (lists : Lists image budget list area r list' area') where
    result : Result
    result = result_of image budget (length list) (length area)

    refusal : (q : Verdict) → Refusal q → q ≡ verdict_of h result (second image h budget) → sets_of result list ≡ verdict_sets h result (second image h budget) list
        → Verdicts image h budget list area q list' area'
    unfolding result
    refusal q is_one a s =
        record {
          answer = a ∙ ap (λ (x : Result). verdict_of h x (second image h budget)) (sym e);
          sets = lists.sets ∙ s ∙ ap (λ (x : Result). verdict_sets h x (second image h budget) list) (sym e);
          work = lists.work ∙ ap (λ (x : Result). work_of x area) (sym e);
          meaning = λ verdict. absurd (verdict is_one);
        }

    pub verdict_refused_lem : (m n : ℕ) → r ≡ listing.Refused m n → Verdicts image h budget list area (Refused m n) list' area'
    unfolding result
    verdict_refused_lem m n i = refusal (Refused m n) tt (go result (sym i ∙ lists.answer)) (same result (sym i ∙ lists.answer))
      where
        go : (x : Result) → listing.Refused m n ≡ answer_of x → Refused m n ≡ verdict_of h x (second image h budget)
        go (broken k at) q = let z : ◌≡◌ {A = ℕ} 0 1 = cc in absurd (omega arith)
        go (turned k) q = let a : m ≡ k = cc in let c : n ≡ 0 = cc in ap₂ Refused a c
        go (searched (finished l k)) q = let z : ◌≡◌ {A = ℕ} 0 1 = cc in absurd (omega arith)
        go (searched (used_up k)) q = let a : m ≡ 30 = cc in let c : n ≡ k = cc in ap₂ Refused a c
        go (searched (no_room k)) q = let a : m ≡ 31 = cc in let c : n ≡ k = cc in ap₂ Refused a c

        same : (x : Result) → listing.Refused m n ≡ answer_of x → sets_of x list ≡ verdict_sets h x (second image h budget) list
        same (broken k at) q = refl
        same (turned k) q = refl
        same (searched (finished l k)) q = let z : ◌≡◌ {A = ℕ} 0 1 = cc in absurd (omega arith)
        same (searched (used_up k)) q = refl
        same (searched (no_room k)) q = refl

    -- a listing whose image is at fault
    pub verdict_at_fault : (m at : ℕ) → r ≡ listing.Broken m at → Verdicts image h budget list area (Broken m at) list' area'
    unfolding result
    verdict_at_fault m at i = refusal (Broken m at) tt (go result (sym i ∙ lists.answer)) (same result (sym i ∙ lists.answer))
      where
        go : (x : Result) → listing.Broken m at ≡ answer_of x → Broken m at ≡ verdict_of h x (second image h budget)
        go (broken k p) q = let a : m ≡ k = cc in let c : at ≡ p = cc in ap₂ Broken a c
        go (turned k) q = let z : ◌≡◌ {A = ℕ} 0 1 = cc in absurd (omega arith)
        go (searched (finished l k)) q = let z : ◌≡◌ {A = ℕ} 0 1 = cc in absurd (omega arith)
        go (searched (used_up k)) q = let z : ◌≡◌ {A = ℕ} 0 1 = cc in absurd (omega arith)
        go (searched (no_room k)) q = let z : ◌≡◌ {A = ℕ} 0 1 = cc in absurd (omega arith)

        same : (x : Result) → listing.Broken m at ≡ answer_of x → sets_of x list ≡ verdict_sets h x (second image h budget) list
        same (broken k p) q = refl
        same (turned k) q = let z : ◌≡◌ {A = ℕ} 0 1 = cc in absurd (omega arith)
        same (searched (finished l k)) q = let z : ◌≡◌ {A = ℕ} 0 1 = cc in absurd (omega arith)
        same (searched (used_up k)) q = refl
        same (searched (no_room k)) q = refl

  -- a listing that gives no answer
  pub verdict_unlisted : (e : NoAnswer) → Lists image budget list area (listing.listing (Err e)) list' area' → Verdicts image h budget list area (verdict_as (Err e)) list' area'
  verdict_unlisted (none.Broken f) lists = verdict_at_fault (listing.Broken (number_of f.refusal) f.place) lists _ _ refl
  verdict_unlisted (none.Refused r n) lists = verdict_refused_lem (listing.Refused (number_of r) n) lists _ _ refl
