-- What a finished listing decides is right by the meaning, and what the list and the second search leave to decide.
-- Assumes nothing.
use Prim.Native.Nat.{ℕ, ◌+◌, ◌-◌, ◌<◌}
use Rattle.std.proofs.Common.{arith, sym, subst, ◌∙◌, inl, inr, ⊎_elim}
use Rattle.std.proofs.Math.Nat.{sub-zero}
use Rattle.std.proofs.Math.Path.{◌≡◌, ap, ap₂}
use Rattle.std.specs.Prelude.{refl, Bool, true, false, ◌⊎◌, Option, Some, None, Ok}
use mathlib.Core.List.{List, [], ◌∷◌, ◌++◌}
use Rattle.std.proofs.Math.ListN.{length, take}
use Rattle.std.proofs.Math.Seq.{take_at}
use Rattle.base.specs.paper.Bools.{choose}
use Rattle.base.specs.paper.Lists.{all, any}
use Rattle.base.specs.paper.Members.{has}
use Rattle.image.specs.paper.Book.{Book}
use Rattle.image.specs.Sound.{Orderly}
use Rattle.image.specs.paper.Decode.{Decoded, accepted, decode}
use Rattle.image.specs.Accepted.{book_in, book_in_lem}
use Rattle.image.proofs.Accepted.{orderly}
use Rattle.sets.specs.paper.Kept.{zeros}
use Rattle.searching.specs.paper.Rules.{root, finished, used_up, no_room}
use Rattle.searching.specs.paper.Tree.{size}
use Rattle.searching.specs.paper.Explanations.{Explanations}
use Rattle.searching.specs.paper.Seek.{Seeking, admitted, excluded, spent, sought}
use Rattle.lister.specs.paper.Promise.{Result, broken, turned, searched, result_of, answer_of, sets_of, work_of, Explained, Lists}
use Rattle.lister.specs.PromiseLaws.{Admitted as Admitted'}
use Rattle.lister.specs.paper.Promise.{Listing}
use Rattle.lister.specs.paper.Promise as listing
use Rattle.admitting.specs.paper.Promise.{Admission, Admitted, Excluded, answer_of as answer_as, searched as searched_as}
use Rattle.admitting.specs.AdmitLaws.{Sought}
use Rattle.admitting.specs.paper.Promise as admission
use Rattle.engine.specs.declared.Verdict.{Verdict as Found}
use Rattle.engine.specs.paper.Verdict.{Verdict, Needed, Possible, Refused, verdict as verdict_as, verdict_result, second_of, second, unsettled, by_second, decided, verdict_of, kept, verdict_sets, nodes_of, visited, Meant, Refusal, Verdicts}
use Rattle.engine.specs.VerdictLaws.{decided_says, settles, by_settled, is_open, decided_settles, unsettled_settles, Concludable, Seconded, Concluded, work_same}

module _ (b : Book) (o : Orderly b) (h : ℕ) (known : h < b.abducibles) (budget : ℕ) where
  -- and tells the nodes of the listing, or of both searches
  decided_nodes : (l : List ℕ) (n : ℕ)
      → (nodes_of (decided h l n (sought b h budget)) ≡ n) ⊎ (nodes_of (decided h l n (sought b h budget)) ≡ n + visited (sought b h budget))
  decided_nodes [] n = inl refl
  decided_nodes (s ∷ l) n = go (all (λ (d : ℕ). has d h) (s ∷ l)) (any (λ (d : ℕ). has d h) (s ∷ l)) (sought b h budget)
    where
      go : (t u : Bool) (x : Seeking)
          → (nodes_of (choose t (Needed n) (choose u (Possible n) (by_second n x))) ≡ n) ⊎ (nodes_of (choose t (Needed n) (choose u (Possible n) (by_second n x))) ≡ n + visited x)
      go true u x = inl refl
      go false true x = inl refl
      go false false (admitted m) = inr refl
      go false false (excluded m) = inr refl
      go false false (spent m) = inr refl

  -- what is decided by a finished listing is right by the meaning
  pub listed_meant : (image : List ℕ) → decode image ≡ accepted b → (l : List ℕ) (n : ℕ) → Explanations b l → n ≡ size b (root b)
      → (Refusal (decided h l n (sought b h budget)) → ⊥) → Meant image h budget (decided h l n (sought b h budget))
  listed_meant image i l n e s verdict =
      record {
        b = b;
        book = i;
        says = decided_says b o h known budget l n e verdict;
        nodes =
            ⊎_elim
            (λ (p : nodes_of (decided h l n (sought b h budget)) ≡ n). inl (p ∙ s))
            (λ (p : nodes_of (decided h l n (sought b h budget)) ≡ n + visited (sought b h budget)). inr (p ∙ ap (λ (k : ℕ). k + visited (sought b h budget)) s))
            (decided_nodes l n);
      }

-- ---- after a listing

module _ (image : List ℕ) (h budget : ℕ) (l : List ℕ) (n : ℕ) (list area : List ℕ) (t : Option Found) (is : t ≡ settles h l n) where
  decided_as : (later : Seeking) → by_settled t n later ≡ decided h l n later
  decided_as later = ap (λ (x : Option Found). by_settled x n later) is ∙ decided_settles h l n later

  unsettled_as : is_open t ≡ unsettled h l
  unsettled_as = ap is_open is ∙ unsettled_settles h l n

  -- settled by the list
  pub concluded_settled : (v : Found) → t ≡ Some v → Concluded image h budget l n list area (verdict_as (Ok v)) list area
  concluded_settled v e = record {
    answer = ap (λ (x : Option Found). by_settled x n (sought (book_in image) h budget)) (sym e) ∙ decided_as (sought (book_in image) h budget);
    sets = ap (λ (x : Bool). kept x (sought (book_in image) h budget) list list) (ap is_open (sym e) ∙ unsettled_as);
    work = refl;
  }

  -- left open by it
  pub concluded_open : t ≡ None → (r : Verdict) (list' area' : List ℕ) → Seconded image h budget n list area r list' area' → Concluded image h budget l n list area r list' area'
  concluded_open e r list' area' s = record {
    answer = s.answer ∙ ap (λ (x : Option Found). by_settled x n (sought (book_in image) h budget)) (sym e) ∙ decided_as (sought (book_in image) h budget);
    sets = s.sets ∙ ap (λ (x : Bool). kept x (sought (book_in image) h budget) list list) (ap is_open (sym e) ∙ unsettled_as);
    work = s.work;
  }

-- what the second search answers, and what is left of the list
module _ (n : ℕ) (list : List ℕ) where
  told_admitted : (x : Seeking) (m : ℕ) → Admitted m ≡ answer_as (searched_as x) → (Possible (n + m) ≡ by_second n x) × (list ≡ kept true x list list)
  told_admitted (admitted k) m e = let z : m ≡ k = cc in (ap (λ (j : ℕ). Possible (n + j)) z, refl)
  told_admitted (excluded k) m e = let z : ◌≡◌ {A = ℕ} 0 1 = cc in absurd (omega arith)
  told_admitted (spent k) m e = let z : ◌≡◌ {A = ℕ} 0 1 = cc in absurd (omega arith)

  told_spent : (x : Seeking) (number m : ℕ) → admission.Refused number m ≡ answer_as (searched_as x)
      → (Refused number (n + m) ≡ by_second n x) × (zeros (length list) ≡ kept true x list list)
  told_spent (admitted k) number m e = let z : ◌≡◌ {A = ℕ} 0 1 = cc in absurd (omega arith)
  told_spent (excluded k) number m e = let z : ◌≡◌ {A = ℕ} 0 1 = cc in absurd (omega arith)
  told_spent (spent k) number m e =
      let a : number ≡ 30 = cc in
      let z : m ≡ k = cc in
      (ap₂ (λ (i j : ℕ). Refused i (n + j)) a z, refl)

module _ (image : List ℕ) (h budget n : ℕ) (list area : List ℕ) (c : Concludable image h budget n area) (q : Admission) (area' : List ℕ) (s : Sought image h budget area q area') where
  pub seconded_admitted : (m : ℕ) → q ≡ Admitted m → Seconded image h budget n list area (Possible (n + m)) list area'
  seconded_admitted m e = let w = told_admitted n list (sought (book_in image) h budget) m (sym e ∙ s.answer) in record { answer = w.0; sets = w.1; work = work_same image h budget n list area c q area' s }

  pub seconded_spent : (number m : ℕ) → q ≡ admission.Refused number m → (list' : List ℕ) → list' ≡ take 0 list ++ zeros (length list - 0)
      → Seconded image h budget n list area (Refused number (n + m)) list' area'
  seconded_spent number m e list' z =
      let w = told_spent n list (sought (book_in image) h budget) number m (sym e ∙ s.answer) in
      record { answer = w.0; sets = z ∙ ap zeros (sub-zero (length list)) ∙ w.1; work = work_same image h budget n list area c q area' s }

-- a listing that finished, and what was concluded from it
module _ (image : List ℕ) (h budget : ℕ) (list area list' area' : List ℕ)
    (e : verdict_result image h budget (length list) (length area) ≡ result_of image budget (length list) (length area)) where
  module _ (r : Listing) (lists : Lists image budget list area r list' area') where
    result : Result
    result = result_of image budget (length list) (length area)

    module _ (a : Admitted' image budget (length list) (length area)) (known : h < (book_in image).abducibles) (same : length list' ≡ length list) where
      its_second : second image h budget ≡ sought (book_in image) h budget
      unfolding second
      its_second = ap (λ (d : Decoded). second_of d h budget) a.book

      kept_as : (t : Bool) (x : Seeking) → kept t x list' list' ≡ kept t x list' list
      kept_as true (admitted m) = refl
      kept_as true (excluded m) = refl
      kept_as true (spent m) = ap zeros same
      kept_as false x = refl

      pub verdict_listed : (k n : ℕ) → r ≡ listing.Listed k n → (q : Verdict) (list'' area'' : List ℕ)
          → Concluded image h budget (take k list') n list' area' q list'' area'' → Verdicts image h budget list area q list'' area''
      unfolding result
      verdict_listed k n i q list'' area'' c =
          let l : List ℕ = take k list' in
          let its : Seeking = sought (book_in image) h budget in
          record {
            answer =
                c.answer ∙ ap (decided h l n) (sym its_second)
                ∙ told result (sym i ∙ lists.answer) lists.sets (second image h budget)
                ∙ ap (λ (x : Result). verdict_of h x (second image h budget)) (sym e);
            sets =
                c.sets ∙ kept_as (unsettled h l) its ∙ ap (λ (x : Seeking). kept (unsettled h l) x list' list) (sym its_second)
                ∙ left result (sym i ∙ lists.answer) lists.sets (second image h budget)
                ∙ ap (λ (x : Result). verdict_sets h x (second image h budget) list) (sym e);
            work = c.work ∙ lists.work ∙ ap (λ (x : Result). work_of x area) (sym e);
            meaning = λ verdict. right (lists.explanations k n i) verdict;
          }
        where
          told : (x : Result) → listing.Listed k n ≡ answer_of x → list' ≡ sets_of x list → (later : Seeking) → decided h (take k list') n later ≡ verdict_of h x later
          told (broken j at) q t later = let z : ◌≡◌ {A = ℕ} 0 1 = cc in absurd (omega arith)
          told (turned j) q t later = let z : ◌≡◌ {A = ℕ} 0 1 = cc in absurd (omega arith)
          told (searched (finished l j)) q t later =
              let many : length l ≡ k = cc in
              let nodes : n ≡ j = cc in
              ap₂ (λ (x : List ℕ) (m : ℕ). decided h x m later) (ap (take k) t ∙ take_at l (zeros (length list - length l)) k many) nodes
          told (searched (used_up j)) q t later = let z : ◌≡◌ {A = ℕ} 0 1 = cc in absurd (omega arith)
          told (searched (no_room j)) q t later = let z : ◌≡◌ {A = ℕ} 0 1 = cc in absurd (omega arith)

          left : (x : Result) → listing.Listed k n ≡ answer_of x → list' ≡ sets_of x list → (later : Seeking) → kept (unsettled h (take k list')) later list' list ≡ verdict_sets h x later list
          left (broken j at) q t later = let z : ◌≡◌ {A = ℕ} 0 1 = cc in absurd (omega arith)
          left (turned j) q t later = let z : ◌≡◌ {A = ℕ} 0 1 = cc in absurd (omega arith)
          left (searched (finished l j)) q t later =
              let many : length l ≡ k = cc in
              ap₂ (λ (x y : List ℕ). kept (unsettled h x) later y list) (ap (take k) t ∙ take_at l (zeros (length list - length l)) k many) t
          left (searched (used_up j)) q t later = let z : ◌≡◌ {A = ℕ} 0 1 = cc in absurd (omega arith)
          left (searched (no_room j)) q t later = let z : ◌≡◌ {A = ℕ} 0 1 = cc in absurd (omega arith)

          right : Explained image k n list' → (Refusal q → ⊥) → Meant image h budget q
          right x verdict =
              let b-same : book_in image ≡ x.b = book_in_lem image x.b x.book in
              let is : q ≡ decided h (take k list') n (sought x.b h budget) = c.answer ∙ ap (λ (b : Book). decided h (take k list') n (sought b h budget)) b-same in
              subst (Meant image h budget) (sym is)
              (listed_meant x.b (orderly image x.b x.book) h (subst (λ (b : Book). h < b.abducibles) b-same known) budget image x.book (take k list') n
              x.entries x.nodes (λ no. verdict (subst Refusal (sym is) no)))
