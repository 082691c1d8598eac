-- The ways to what `admits` answers; that the promise fixes it, and that it is right by the meaning.
-- Assumes nothing.
use Rattle.std.specs.Prelude.{ℕ, ◌≤◌, ◌<◌, refl, Bool, List, ◌++◌, ltb, length, drop, Result as Returned, Ok, Err}
use Rattle.std.proofs.Common.{arith, sym, subst, ◌∙◌, lt-ltb, le-ltb}
use Rattle.std.proofs.Math.Path.{◌≡◌, ap, ap₂}
use Rattle.std.proofs.Math.Bool.{true, false}
use Rattle.base.specs.paper.Bools.{choose}
use Rattle.base.specs.Bools.{choose_true, choose_false}
use Rattle.image.specs.paper.Book.{Book}
use Rattle.image.specs.paper.Decode.{Decoded, accepted, refused, decode}
use Rattle.image.specs.Accepted.{IsBook, book_in, book_in_lem}
use Rattle.image.proofs.Accepted.{orderly}
use Rattle.sets.specs.paper.Kept.{zeros, longest}
use Rattle.searching.specs.paper.Rules.{Outcome, run_from, search_end}
use Rattle.searching.specs.paper.Seek.{root_with, Seeking, admitted, excluded, spent, sought}
use Rattle.searching.proofs.Admitted.{told, sought_run, sought_within, admitted_some, excluded_none}
use Rattle.area.specs.paper.Work.{work_numbers}
use Rattle.area.specs.Area as layout
use Rattle.machine.specs.declared.Ended.{Ended}
use Rattle.machine.specs.Agreed.{outcome_in, Told}
use Rattle.lister.specs.paper.Promise.{most_budget}
use Rattle.lister.specs.paper.Promise as listing
use Rattle.lister.specs.PromiseLaws.{Admitted as Admitted', Early}
use Rattle.lister.specs.declared.NoAnswer.{NoAnswer}
use Rattle.lister.specs.declared.NoAnswer.TheVariants as none
use Rattle.image.specs.paper.Refusals.{number_of}
use Rattle.image.specs.RefusalLaws.{number_tells}
use Rattle.image.specs.declared.refusals.Refusal.{Refusal}
use Rattle.admitting.specs.declared.Admission.{Admission as Found}
use Rattle.admitting.specs.declared.Admission.TheVariants as declared
use Rattle.admitting.specs.paper.Promise.{Admission, Admitted, Excluded, Broken, Refused, admission, Result, broken, turned, searched, by_book, result_of, answer_of, work_of, Says, Admits}

-- two results that meet the promise are equal
pub admits_unique : (image : List ℕ) (h budget : ℕ) (area : List ℕ) (r q : Admission) (area₁ area₂ : List ℕ)
    → Admits image h budget area r area₁ → Admits image h budget area q area₂ → (r ≡ q) × (area₁ ≡ area₂)
admits_unique image h budget area r q area₁ area₂ a b = (a.answer ∙ sym b.answer, a.work ∙ sym b.work)

-- what `admits` returns is told by its admission, so two of its results that meet the promise are equal too
pub admission_tells : (q r : Returned Found NoAnswer) → admission q ≡ admission r → q ≡ r
admission_tells (Ok (declared.Admitted m)) (Ok (declared.Admitted n)) e = cc
admission_tells (Ok (declared.Admitted m)) (Ok (declared.Excluded n)) e = cc
admission_tells (Ok (declared.Admitted m)) (Err (none.Broken g)) e = cc
admission_tells (Ok (declared.Admitted m)) (Err (none.Refused b n)) e = cc
admission_tells (Ok (declared.Excluded m)) (Ok (declared.Admitted n)) e = cc
admission_tells (Ok (declared.Excluded m)) (Ok (declared.Excluded n)) e = cc
admission_tells (Ok (declared.Excluded m)) (Err (none.Broken g)) e = cc
admission_tells (Ok (declared.Excluded m)) (Err (none.Refused b n)) e = cc
admission_tells (Err (none.Broken f)) (Ok (declared.Admitted n)) e = cc
admission_tells (Err (none.Broken f)) (Ok (declared.Excluded n)) e = cc
admission_tells (Err (none.Broken f)) (Err (none.Broken g)) e =
    let number : number_of f.refusal ≡ number_of g.refusal = cc in
    let place : f.place ≡ g.place = cc in
    ap₂ (λ (r : Refusal) (p : ℕ). Err (none.Broken (record { refusal = r; place = p }))) (number_tells _ _ number) place
admission_tells (Err (none.Broken f)) (Err (none.Refused b n)) e = cc
admission_tells (Err (none.Refused a m)) (Ok (declared.Admitted n)) e = cc
admission_tells (Err (none.Refused a m)) (Ok (declared.Excluded n)) e = cc
admission_tells (Err (none.Refused a m)) (Err (none.Broken g)) e = cc
admission_tells (Err (none.Refused a m)) (Err (none.Refused b n)) e =
    let number : number_of a ≡ number_of b = cc in
    let nodes : m ≡ n = cc in
    ap₂ (λ (r : Refusal) (k : ℕ). Err (none.Refused r k)) (number_tells _ _ number) nodes

pub results_unique : (image : List ℕ) (h budget : ℕ) (area : List ℕ) (r q : Returned Found NoAnswer) (area₁ area₂ : List ℕ)
    → Admits image h budget area (admission r) area₁ → Admits image h budget area (admission q) area₂ → (r ≡ q) × (area₁ ≡ area₂)
results_unique image h budget area r q area₁ area₂ a b =
    let u = admits_unique image h budget area (admission r) (admission q) area₁ area₂ a b in
    (admission_tells r q u.0, u.1)

-- what the second search finds is so
pub sought_says : (image : List ℕ) (b : Book) → decode image ≡ accepted b → (h budget : ℕ) → h < b.abducibles → Says b h (answer_of (searched (sought b h budget)))
sought_says image b e h budget p = go (sought b h budget) refl
  where
    go : (o : Seeking) → sought b h budget ≡ o → Says b h (answer_of (searched o))
    go (admitted n) i = let w = admitted_some b (orderly image b e) h p budget n i in (w.0, w.1, w.2)
    go (excluded n) i = λ some. excluded_none b (orderly image b e) h p budget n i some.0 some.1 some.2
    go (spent n) i = tt

-- ---- the search itself

-- it may begin
pub record Seekable (image : List ℕ) (h budget : ℕ) (area : List ℕ) : Type 0 where
  pub book : IsBook image
  pub abducible : h < (book_in image).abducibles
  pub long : layout.end ≤ length area
  pub low : budget ≤ most_budget

-- what it leaves
pub record Sought (image : List ℕ) (h budget : ℕ) (area : List ℕ) (r : Admission) (area' : List ℕ) : Type 0 where
  pub answer : r ≡ answer_of (searched (sought (book_in image) h budget))
  pub work : area' ≡ zeros work_numbers ++ drop work_numbers area

-- the nodes that an answer tells
abbrev pub nodes_in : Admission → ℕ
nodes_in (Admitted n) = n
nodes_in (Excluded n) = n
nodes_in (Broken n at) = 0
nodes_in (Refused m n) = n

-- they are within the budget
pub sought_few : (image : List ℕ) (h budget : ℕ) (area : List ℕ) (r : Admission) (area' : List ℕ) → Sought image h budget area r area' → nodes_in r ≤ budget
sought_few image h budget area r area' s = subst (λ (q : Admission). nodes_in q ≤ budget) (sym s.answer) (go (sought (book_in image) h budget) refl)
  where
    go : (o : Seeking) → sought (book_in image) h budget ≡ o → nodes_in (answer_of (searched o)) ≤ budget
    go (admitted n) e = ((sought_within (book_in image) h budget n).0 e).1
    go (excluded n) e = ((sought_within (book_in image) h budget n).1 e).0
    go (spent n) e = omega (arith, (sought_within (book_in image) h budget n).2 e)

-- from what the machine answers, with no entry in its list
pub found : (image : List ℕ) (h budget : ℕ) (area area' none : List ℕ) (answer : Ended)
    → Told (run_from (book_in image) (length none) budget (root_with (book_in image) h)) none answer → length none ≡ 0
    → area' ≡ zeros layout.end ++ drop layout.end area
    → (e : Ended) → answer ≡ e → Sought image h budget area (answer_of (searched (told (outcome_in none e)))) area'
found image h budget area area' none answer t empty cleared e i =
    let b = book_in image in
    let same : sought b h budget ≡ told (outcome_in none e) =
    sought_run b h budget ∙ ap (λ (n : ℕ). told (run_from b n budget (root_with b h))) (sym empty) ∙ ap told (t.is ∙ ap (outcome_in none) i) in
    record { answer = ap (λ (x : Seeking). answer_of (searched x)) (sym same); work = cleared }

-- ---- the ways to the call's result

module _ (image : List ℕ) (h budget space : ℕ) where
  on_broken : (n at : ℕ) → listing.result_of image budget 0 space ≡ listing.broken n at → result_of image h budget space ≡ broken n at
  unfolding listing.result_of result_of
  on_broken n at e = go (decode image) e
    where
      tests : (t u v : Bool) (o : Outcome)
          → choose t (listing.turned 20) (choose u (listing.turned 21) (choose v (listing.turned 22) (listing.searched o))) ≡ listing.broken n at → ⊥
      tests true u v o q = let z : ◌≡◌ {A = ℕ} 0 1 = cc in absurd (omega arith)
      tests false true v o q = let z : ◌≡◌ {A = ℕ} 0 1 = cc in absurd (omega arith)
      tests false false true o q = let z : ◌≡◌ {A = ℕ} 0 1 = cc in absurd (omega arith)
      tests false false false o q = let z : ◌≡◌ {A = ℕ} 0 1 = cc in absurd (omega arith)

      go : (d : Decoded) → listing.by_book d 0 space budget ≡ listing.broken n at → by_book d h budget space ≡ broken n at
      go (refused m p) q = cc (q)
      go (accepted b) q = absurd (tests (ltb longest 0) (ltb space work_numbers) (ltb most_budget budget) (search_end b 0 budget) q)

  on_turned : (n : ℕ) → listing.result_of image budget 0 space ≡ listing.turned n → result_of image h budget space ≡ turned n
  unfolding listing.result_of result_of
  on_turned n e = go (decode image) e
    where
      tests : (t u : Bool) (o : Outcome) (later : Result) → choose t (listing.turned 21) (choose u (listing.turned 22) (listing.searched o)) ≡ listing.turned n
          → choose t (turned 21) (choose u (turned 22) later) ≡ turned n
      tests true u o later q = let z : 21 ≡ n = cc in ap turned z
      tests false true o later q = let z : 22 ≡ n = cc in ap turned z
      tests false false o later q = let z : ◌≡◌ {A = ℕ} 0 1 = cc in absurd (omega arith)

      go : (d : Decoded) → listing.by_book d 0 space budget ≡ listing.turned n → by_book d h budget space ≡ turned n
      go (refused m p) q = let z : ◌≡◌ {A = ℕ} 0 1 = cc in absurd (omega arith)
      go (accepted b) q =
          let later : listing.Result = choose (ltb most_budget budget) (listing.turned 22) (listing.searched (search_end b 0 budget)) in
          let rest : listing.Result = choose (ltb space work_numbers) (listing.turned 21) later in
          tests (ltb space work_numbers) (ltb most_budget budget) (search_end b 0 budget) (choose (ltb h b.abducibles) (searched (sought b h budget)) (turned 23))
          (sym (choose_false (listing.turned 20) rest (le-ltb longest 0 (omega arith))) ∙ q)

  module _ (a : Admitted' image budget 0 space) where
    on_book : result_of image h budget space ≡ choose (ltb h (book_in image).abducibles) (searched (sought (book_in image) h budget)) (turned 23)
    unfolding result_of
    on_book =
        ap (λ (d : Decoded). by_book d h budget space) a.book
        ∙ choose_false _ _ (le-ltb space layout.end a.long)
        ∙ choose_false _ _ (le-ltb most_budget budget a.low)

    unnamed : (book_in image).abducibles ≤ h → result_of image h budget space ≡ turned 23
    unnamed k = on_book ∙ choose_false _ _ (le-ltb h (book_in image).abducibles k)

    named : h < (book_in image).abducibles → result_of image h budget space ≡ searched (sought (book_in image) h budget)
    named k = on_book ∙ choose_true _ _ (lt-ltb h (book_in image).abducibles k)

module _ (image : List ℕ) (h budget : ℕ) (area : List ℕ) where
  turned_away : (n m : ℕ) → result_of image h budget (length area) ≡ turned n → m ≡ 0 → Admits image h budget area (Refused n m) area
  turned_away n m e z = record { answer = ap (Refused n) z ∙ ap answer_of (sym e); work = ap (λ (x : Result). work_of x area) (sym e); meaning = λ b p. tt }

  -- refused before any search
  pub admits_refused : (e : NoAnswer) → Early image budget 0 (length area) (Err e) → Admits image h budget area (admission (Err e)) area
  admits_refused (none.Broken f) early =
      let e = on_broken image h budget (length area) (number_of f.refusal) f.place early in
      record { answer = ap answer_of (sym e); work = ap (λ (x : Result). work_of x area) (sym e); meaning = λ b p. tt }
  admits_refused (none.Refused r n) early = turned_away (number_of r) n (on_turned image h budget (length area) (number_of r) early.0) early.1

  module _ (a : Admitted' image budget 0 (length area)) where
    pub admits_unnamed : (book_in image).abducibles ≤ h → Admits image h budget area (Refused 23 0) area
    admits_unnamed k = turned_away 23 0 (unnamed image h budget (length area) a k) refl

    pub admits_sought : h < (book_in image).abducibles → (r : Admission) (area' : List ℕ) → Sought image h budget area r area' → Admits image h budget area r area'
    admits_sought k r area' s =
        let e = named image h budget (length area) a k in
        record {
          answer = s.answer ∙ ap answer_of (sym e);
          work = s.work ∙ ap (λ (x : Result). work_of x area) (sym e);
          meaning = λ b p.
              let same : book_in image ≡ b = book_in_lem image b p in
              subst (Says b h) (sym (s.answer ∙ ap (λ (c : Book). answer_of (searched (sought c h budget))) same))
              (sought_says image b p h budget (subst (λ (c : Book). h < c.abducibles) same k));
        }
