-- The ways to a listing: what the tests before any search say, and what a search leaves; and that the promise fixes the result.
-- Assumes nothing.
use Rattle.std.specs.Prelude.{ℕ, ◌-◌, ◌≤◌, ◌<◌, ◌≡◌, refl, List, ◌++◌, length, take, drop, Result as Returned, Ok, Err, ⊤}
use Rattle.std.proofs.Common.{arith, sym, ap₂, subst, ◌∙◌, lt-ltb, le-ltb, take_at, length-take-le}
use Rattle.std.proofs.Math.Path.{ap}
use Rattle.base.specs.Bools.{choose_true, choose_false}
use Rattle.image.specs.paper.Book.{Book}
use Rattle.image.specs.paper.Decode.{Decoded, accepted, refused, decode}
use Rattle.image.specs.Accepted.{IsBook, book_in, book_in_lem}
use Rattle.image.proofs.Accepted.{orderly}
use Rattle.sets.specs.paper.Kept.{zeros, sort, longest}
use Rattle.sets.specs.KeptLaws.{sort_length}
use Rattle.searching.specs.paper.Rules.{root, Outcome, finished, used_up, no_room, run_from, sent, search_end}
use Rattle.searching.specs.paper.Explanations.{Explanations}
use Rattle.searching.proofs.Main.{listed}
use Rattle.area.specs.Area as layout
use Rattle.image.specs.paper.Refusals.{number_of}
use Rattle.image.specs.RefusalLaws.{number_tells}
use Rattle.image.specs.declared.refusals.Refusal.{Refusal}
use Rattle.image.specs.declared.refusals.Refusal.TheVariants.{LongList, ShortArea, LargeBudget}
use Rattle.image.specs.declared.refusals.Fault.{Fault}
use Rattle.lister.specs.declared.Listed.{Listed as Found}
use Rattle.lister.specs.declared.NoAnswer.{NoAnswer}
use Rattle.lister.specs.declared.NoAnswer.TheVariants as none
use Rattle.lister.specs.paper.Promise.{Listing, Listed, Refused, listing, most_budget, Result, broken, turned, searched, by_book, result_of, answer_of, sets_of, work_of, Explained, Lists}

-- ---- a search's results

-- what the search of an accepted book leaves
pub record Searched (image : List ℕ) (budget : ℕ) (list area : List ℕ) (r : Listing) (list' area' : List ℕ) : Type 0 where
  pub b : Book
  pub book : decode image ≡ accepted b
  pub answer : r ≡ answer_of (searched (search_end b (length list) budget))
  pub sets : list' ≡ sets_of (searched (search_end b (length list) budget)) list
  pub work : area' ≡ work_of (searched (search_end b (length list) budget)) area

never : {A : Type 0} {m n k l : ℕ} → Refused m n ≡ Listed k l → A
never e = let z : ◌≡◌ {A = ℕ} 0 1 = cc in absurd (omega arith)

explained : (image : List ℕ) (budget : ℕ) (sets work : List ℕ) (r : Listing) (sets' work' : List ℕ) → Searched image budget sets work r sets' work'
    → (k n : ℕ) → r ≡ Listed k n → Explained image k n sets'
explained image budget sets work r sets' work' h k n i = go (search_end h.b (length sets) budget) refl (sym h.answer ∙ i) h.sets
  where
    go : (o : Outcome) → search_end h.b (length sets) budget ≡ o → answer_of (searched o) ≡ Listed k n → sets' ≡ sets_of (searched o) sets → Explained image k n sets'
    go (used_up m) e a t = never a
    go (no_room m) e a t = never a
    go (finished l m) e a t =
        let many : length l ≡ k = cc in
        let nodes : m ≡ n = cc in
        let right = listed h.b (orderly image h.b h.book) (length sets) budget l m e in
        let front : take k sets' ≡ l = ap (take k) t ∙ take_at l (zeros (length sets - length l)) k many in
        record {
          b = h.b;
          book = h.book;
          entries = subst (Explanations h.b) (sym front) right.0;
          nodes = sym nodes ∙ right.1;
        }

-- the results of the search's three endings, from what the code leaves
module _ (image : List ℕ) (budget : ℕ) (old work : List ℕ) (kept : List ℕ) (book : Book) (is_book : decode image ≡ accepted book) (same : length kept ≡ length old) where
  outcome_at : (o : Outcome) → run_from book (length kept) budget (root book) ≡ o → search_end book (length old) budget ≡ sent o
  outcome_at o p = ap sent (ap (λ (m : ℕ). run_from book m budget (root book)) (sym same) ∙ p)

  pub searched_all : (count nodes : ℕ) (sets' work' : List ℕ) → count ≤ length kept → run_from book (length kept) budget (root book) ≡ finished (take count kept) nodes
      → sets' ≡ sort (take count kept) ++ zeros (length kept - count) → work' ≡ zeros layout.end ++ drop layout.end work
      → Searched image budget old work (Listed count nodes) sets' work'
  searched_all count nodes sets' work' c p t u =
      let o : search_end book (length old) budget ≡ finished (sort (take count kept)) nodes = outcome_at (finished (take count kept) nodes) p in
      let many : length (sort (take count kept)) ≡ count = sort_length (take count kept) ∙ length-take-le count kept c in
      record {
        b = book;
        book = is_book;
        answer = ap (λ (k : ℕ). Listed k nodes) (sym many) ∙ ap (λ (x : Outcome). answer_of (searched x)) (sym o);
        sets =
            t ∙ ap₂ (λ (m k : ℕ). sort (take count kept) ++ zeros (m - k)) same (sym many)
            ∙ ap (λ (x : Outcome). sets_of (searched x) old) (sym o);
        work = u;
      }

  -- a search that ends without a list
  none_listed : (o : Outcome) {a : Listing} {sets' work' : List ℕ} → run_from book (length kept) budget (root book) ≡ o → a ≡ answer_of (searched (sent o))
      → zeros (length old) ≡ sets_of (searched (sent o)) old → sets' ≡ zeros (length kept) → work' ≡ zeros layout.end ++ drop layout.end work
      → Searched image budget old work a sets' work'
  none_listed o p a z t u =
      let q : search_end book (length old) budget ≡ sent o = outcome_at o p in
      record {
        b = book;
        book = is_book;
        answer = a ∙ ap (λ (x : Outcome). answer_of (searched x)) (sym q);
        sets = t ∙ ap zeros same ∙ z ∙ ap (λ (x : Outcome). sets_of (searched x) old) (sym q);
        work = u;
      }

  pub searched_short : (nodes : ℕ) (sets' work' : List ℕ) → run_from book (length kept) budget (root book) ≡ used_up nodes → sets' ≡ zeros (length kept)
      → work' ≡ zeros layout.end ++ drop layout.end work → Searched image budget old work (Refused 30 nodes) sets' work'
  searched_short nodes sets' work' p t u = none_listed (used_up nodes) p refl refl t u

  pub searched_full : (nodes : ℕ) (sets' work' : List ℕ) → run_from book (length kept) budget (root book) ≡ no_room nodes → sets' ≡ zeros (length kept)
      → work' ≡ zeros layout.end ++ drop layout.end work → Searched image budget old work (Refused 31 nodes) sets' work'
  searched_full nodes sets' work' p t u = none_listed (no_room nodes) p refl refl t u

-- ---- the ways to a result

-- the search of this image may begin
pub record Admitted (image : List ℕ) (budget room space : ℕ) : Type 0 where
  pub book : IsBook image
  pub few : room ≤ longest
  pub long : layout.end ≤ space
  pub low : budget ≤ most_budget

-- what the tests before any search say: that it may begin, or why not
abbrev pub Early : List ℕ → ℕ → ℕ → ℕ → Returned ⊤ NoAnswer → Type 0
Early image budget room space (Ok x) = Admitted image budget room space
Early image budget room space (Err (none.Broken fault)) = result_of image budget room space ≡ broken (number_of fault.refusal) fault.place
Early image budget room space (Err (none.Refused refusal n)) = (result_of image budget room space ≡ turned (number_of refusal)) × (n ≡ 0)

module _ (image : List ℕ) (budget room space : ℕ) where
  pub early_refused : (f : Fault) → decode image ≡ refused (number_of f.refusal) f.place → Early image budget room space (Err (none.Broken f))
  unfolding result_of
  early_refused f e = ap (λ (d : Decoded). by_book d room space budget) e

  module _ (i : IsBook image) where
    on_book : result_of image budget room space ≡ by_book (accepted (book_in image)) room space budget
    unfolding result_of
    on_book = ap (λ (d : Decoded). by_book d room space budget) i

    pub early_long : longest < room → Early image budget room space (Err (none.Refused LongList 0))
    early_long p = (on_book ∙ choose_true _ _ (lt-ltb longest room p), refl)

    pub early_short : room ≤ longest → space < layout.end → Early image budget room space (Err (none.Refused ShortArea 0))
    early_short p q = (on_book ∙ choose_false _ _ (le-ltb longest room p) ∙ choose_true _ _ (lt-ltb space layout.end q), refl)

    pub early_budget : room ≤ longest → layout.end ≤ space → most_budget < budget → Early image budget room space (Err (none.Refused LargeBudget 0))
    early_budget p q r = (on_book ∙ choose_false _ _ (le-ltb longest room p) ∙ choose_false _ _ (le-ltb space layout.end q) ∙ choose_true _ _ (lt-ltb most_budget budget r), refl)

  pub admitted_result : (a : Admitted image budget room space) → result_of image budget room space ≡ searched (search_end (book_in image) room budget)
  admitted_result a =
      on_book a.book ∙ choose_false _ _ (le-ltb longest room a.few) ∙ choose_false _ _ (le-ltb space layout.end a.long)
      ∙ choose_false _ _ (le-ltb most_budget budget a.low)

module _ (image : List ℕ) (budget : ℕ) (sets work : List ℕ) where
  -- refused before any search: the image itself, or turned away
  pub refused_lists : (e : NoAnswer) → Early image budget (length sets) (length work) (Err e) → Lists image budget sets work (listing (Err e)) sets work
  refused_lists (none.Broken f) e =
      record {
        answer = ap answer_of (sym e);
        sets = ap (λ (x : Result). sets_of x sets) (sym e);
        work = ap (λ (x : Result). work_of x work) (sym e);
        explanations = λ k m j. cc;
      }
  refused_lists (none.Refused r n) e =
      record {
        answer = ap (Refused (number_of r)) e.1 ∙ ap answer_of (sym e.0);
        sets = ap (λ (x : Result). sets_of x sets) (sym e.0);
        work = ap (λ (x : Result). work_of x work) (sym e.0);
        explanations = λ k m j. never j;
      }

  pub searched_lists : Admitted image budget (length sets) (length work) → (r : Listing) (sets' work' : List ℕ) → Searched image budget sets work r sets' work'
      → Lists image budget sets work r sets' work'
  searched_lists a r sets' work' h =
      let same : h.b ≡ book_in image = sym (book_in_lem image h.b h.book) in
      let result : result_of image budget (length sets) (length work) ≡ searched (search_end h.b (length sets) budget) =
      admitted_result image budget (length sets) (length work) a ∙ ap (λ (c : Book). searched (search_end c (length sets) budget)) (sym same) in
      record {
        answer = h.answer ∙ ap answer_of (sym result);
        sets = h.sets ∙ ap (λ (x : Result). sets_of x sets) (sym result);
        work = h.work ∙ ap (λ (x : Result). work_of x work) (sym result);
        explanations = λ k n i. explained image budget sets work r sets' work' h k n i;
      }

-- Two results that meet the promise are equal.
pub lists_unique : (image : List ℕ) (budget : ℕ) (sets work : List ℕ) (r q : Listing) (sets₁ work₁ sets₂ work₂ : List ℕ)
    → Lists image budget sets work r sets₁ work₁ → Lists image budget sets work q sets₂ work₂
    → (r ≡ q) × (sets₁ ≡ sets₂) × (work₁ ≡ work₂)
lists_unique image budget sets work r q sets₁ work₁ sets₂ work₂ a b =
    (a.answer ∙ sym b.answer, a.sets ∙ sym b.sets, a.work ∙ sym b.work)

-- what `list` returns is told by its listing, so two of its results that meet the promise are equal too
pub listing_tells : (q r : Returned Found NoAnswer) → listing q ≡ listing r → q ≡ r
listing_tells (Ok k) (Ok l) e =
    let count : k.count ≡ l.count = cc in
    let nodes : k.nodes ≡ l.nodes = cc in
    ap₂ (λ (m n : ℕ). Ok (record { count = m; nodes = n })) count nodes
listing_tells (Ok k) (Err (none.Broken g)) e = cc
listing_tells (Ok k) (Err (none.Refused b n)) e = cc
listing_tells (Err (none.Broken f)) (Ok l) e = cc
listing_tells (Err (none.Broken f)) (Err (none.Broken g)) e =
    let number : number_of f.refusal ≡ number_of g.refusal = cc in
    let place : f.place ≡ g.place = cc in
    ap₂ (λ (r : Refusal) (p : ℕ). Err (none.Broken (record { refusal = r; place = p }))) (number_tells _ _ number) place
listing_tells (Err (none.Broken f)) (Err (none.Refused b n)) e = cc
listing_tells (Err (none.Refused a m)) (Ok l) e = cc
listing_tells (Err (none.Refused a m)) (Err (none.Broken g)) e = cc
listing_tells (Err (none.Refused a m)) (Err (none.Refused b n)) e =
    let number : number_of a ≡ number_of b = cc in
    let nodes : m ≡ n = cc in
    ap₂ (λ (r : Refusal) (k : ℕ). Err (none.Refused r k)) (number_tells _ _ number) nodes

pub results_unique : (image : List ℕ) (budget : ℕ) (sets work : List ℕ) (r q : Returned Found NoAnswer) (sets₁ work₁ sets₂ work₂ : List ℕ)
    → Lists image budget sets work (listing r) sets₁ work₁ → Lists image budget sets work (listing q) sets₂ work₂
    → (r ≡ q) × (sets₁ ≡ sets₂) × (work₁ ≡ work₂)
results_unique image budget sets work r q sets₁ work₁ sets₂ work₂ a b =
    let u = lists_unique image budget sets work (listing r) (listing q) sets₁ work₁ sets₂ work₂ a b in
    (listing_tells r q u.0, u.1, u.2)
