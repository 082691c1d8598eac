-- The laws of `clean`: the promise fixes the result, no group's answer depends on another's, and a deletion says what the office needs. Then the
-- ways to the promise.
-- Assumes nothing.
use Rattle.std.specs.Prelude.{ℕ, ◌+◌, ◌^◌, ◌≤◌, ◌<◌, ◌≡◌, refl, true, Result, Ok, Err, length, take, drop}
use Rattle.std.proofs.Common.{sym, ◌∙◌, take_at, leb-true}
use Rattle.std.proofs.Math.Path.{ap, ap₂, subst}
use mathlib.Core.List.{List}
use Rattle.base.specs.paper.Lists.{all}
use Rattle.base.specs.paper.Members.{has}
use Rattle.image.specs.paper.Book.{Book}
use Rattle.image.specs.declared.refusals.Refusal.{Refusal as Why}
use Rattle.image.specs.paper.Refusals.{number_of}
use Rattle.image.specs.RefusalLaws.{number_tells}
use Rattle.image.specs.paper.Faults.{limits}
use Rattle.image.specs.paper.Walk.{Finding, fine, wrong}
use Rattle.image.specs.paper.Decode.{Decoded, accepted, decode}
use Rattle.image.specs.Accepted.{book_in, book_in_lem, is_book}
use Rattle.image.specs.Encode.{longest_image, longest_image_lem}
use Rattle.admitting.specs.paper.Promise.{InSome}
use Rattle.engine.specs.paper.Verdict.{Explainable}
use Rattle.groups.specs.paper.Group.{observed, is_defined, with_facts, group_image}
use Rattle.groups.proofs.GroupLaws.{group_of_image}
use Rattle.groups.specs.Writes.{Writable, WroteGroup}
use Rattle.cleaner.specs.declared.Sorted.{Sorted}
use Rattle.cleaner.specs.declared.Cleaning.{Cleaning as Found}
use Rattle.cleaner.specs.declared.Cleaning.TheVariants as found
use Rattle.cleaner.specs.paper.Cleaning.{Cleaning, Deleted, Refused, cleaning, Ending, turned, ending_by, ending_of, ending, answer_of, image_of, list_of, area_of, Means, Cleans}
use Rattle.cleaner.specs.Refusals.{first_of}
use Rattle.cleaner.proofs.RefusalLaws.{Passed, turned_by}
use Rattle.cleaner.specs.Looking.{Ripe, Looked}
use Rattle.cleaner.proofs.LookingLaws.{ending_means}

-- two results that meet the promise are equal
pub cleans_unique : (book group : List ℕ) (hypotheses budget : ℕ) (list area : List ℕ) (r q : Cleaning) (list₁ area₁ list₂ area₂ : List ℕ)
    → Cleans book group hypotheses budget list area r list₁ area₁ → Cleans book group hypotheses budget list area q list₂ area₂
    → (r ≡ q) × (list₁ ≡ list₂) × (area₁ ≡ area₂)
cleans_unique book group hypotheses budget list area r q list₁ area₁ list₂ area₂ a b =
    (a.answer ∙ sym b.answer, a.sets ∙ sym b.sets, a.work ∙ sym b.work)

-- what `clean` returns is told by its answer, so two of its results that meet the promise are equal too
cleaning_tells : (q r : Result Found Why) → cleaning q ≡ cleaning r → q ≡ r
cleaning_tells (Ok found.Deleted) (Ok found.Deleted) e = refl
cleaning_tells (Ok found.Deleted) (Ok (found.Held t)) e = cc
cleaning_tells (Ok found.Deleted) (Err b) e = cc
cleaning_tells (Ok (found.Held s)) (Ok found.Deleted) e = cc
cleaning_tells (Ok (found.Held s)) (Ok (found.Held t)) e = let same : s ≡ t = cc in ap (λ (u : Sorted). Ok (found.Held u)) same
cleaning_tells (Ok (found.Held s)) (Err b) e = cc
cleaning_tells (Err a) (Ok found.Deleted) e = cc
cleaning_tells (Err a) (Ok (found.Held t)) e = cc
cleaning_tells (Err a) (Err b) e = let same : number_of a ≡ number_of b = cc in ap Err (number_tells a b same)

pub cleaned_unique : (book group : List ℕ) (hypotheses budget : ℕ) (list area : List ℕ) (q r : Result Found Why) (list₁ area₁ list₂ area₂ : List ℕ)
    → Cleans book group hypotheses budget list area (cleaning q) list₁ area₁ → Cleans book group hypotheses budget list area (cleaning r) list₂ area₂
    → (q ≡ r) × (list₁ ≡ list₂) × (area₁ ≡ area₂)
cleaned_unique book group hypotheses budget list area q r list₁ area₁ list₂ area₂ a b =
    let same = cleans_unique book group hypotheses budget list area (cleaning q) (cleaning r) list₁ area₁ list₂ area₂ a b in
    (cleaning_tells q r same.0, same.1, same.2)

-- "Each group is answered as if it were the only one": whatever other groups left in list and work area, the answer is the same, by book,
-- record, hypotheses, budget and the two lengths alone.
pub cleans_alone : (book group : List ℕ) (hypotheses budget : ℕ) (list₁ area₁ list₂ area₂ : List ℕ) (r q : Cleaning) (list₁' area₁' list₂' area₂' : List ℕ)
    → length list₁ ≡ length list₂ → length area₁ ≡ length area₂
    → Cleans book group hypotheses budget list₁ area₁ r list₁' area₁' → Cleans book group hypotheses budget list₂ area₂ q list₂' area₂' → r ≡ q
cleans_alone book group hypotheses budget list₁ area₁ list₂ area₂ r q list₁' area₁' list₂' area₂' room space a b =
    a.answer ∙ ap₂ (λ (m n : ℕ). answer_of hypotheses (ending book group hypotheses budget m n)) room space ∙ sym b.answer

-- A group is deleted only if some set explains what was observed and no explaining set, of any size, has any of the hypotheses to keep safe.
pub deleted_only : (book group : List ℕ) (hypotheses budget : ℕ) (list area list' area' : List ℕ) → Cleans book group hypotheses budget list area Deleted list' area'
    → (b : Book) → decode book ≡ accepted b
    → Explainable (with_facts b (observed group)) × ((h : ℕ) → has hypotheses h ≡ true → InSome (with_facts b (observed group)) h → ⊥)
deleted_only book group hypotheses budget list area list' area' c b e = c.meaning b e

-- ---- the ways to the promise

module _ (book group : List ℕ) (hypotheses budget : ℕ) (list area : List ℕ) where
  -- refused before any verdict
  pub cleans_turned : (n : ℕ) → wrong n ≡ first_of (decode book) group hypotheses budget (length list) (length area)
      → Cleans book group hypotheses budget list area (Refused n) list area
  unfolding ending
  cleans_turned n e =
      let t : ending book group hypotheses budget (length list) (length area) ≡ turned n =
      turned_by (decode book) group hypotheses budget (length list) (length area) n (sym e) in
      record {
        answer = ap (answer_of hypotheses) (sym t);
        sets = ap (list_of (image_of (decode book) group) budget list area) (sym t);
        work = ap (area_of (image_of (decode book) group) budget list area) (sym t);
        meaning = λ b i. tt;
      }

  module _ (b : Book) (is : decode book ≡ accepted b) (passed : Passed b group hypotheses budget (length list) (length area)) where
    abbrev image : List ℕ
    image = group_image b (observed group)

    image_accepted : decode image ≡ accepted (with_facts b (observed group))
    image_accepted = group_of_image book b (observed group) is passed.sound.known (leb-true _ _ passed.sound.few)

    same_book : book_in image ≡ with_facts b (observed group)
    same_book = book_in_lem image (with_facts b (observed group)) image_accepted

    group_ripe : Ripe image hypotheses budget list area
    unfolding with_facts
    group_ripe =
        record {
          book = is_book image (with_facts b (observed group)) image_accepted;
          some = passed.some;
          named = subst (λ (c : Book). hypotheses < 2 ^ c.abducibles) (sym same_book) passed.named;
          few = passed.entries;
          long = passed.long;
          low = passed.low;
        }

    -- the group's image can be written
    pub group_writable : (room : List ℕ) → longest_image ≤ length room → Writable book group room
    group_writable room long =
        let same : book_in book ≡ b = book_in_lem book b is in
        record {
          book = is_book book b is;
          known = subst (λ (c : Book). all (is_defined c) (observed group) ≡ true) (sym same) passed.sound.known;
          few = subst (λ (c : Book). length c.clauses + length (observed group) ≤ limits.clauses) (sym same) (leb-true _ _ passed.sound.few);
          room = long;
        }

    -- and what is written is it
    group_written : (room room' : List ℕ) (n : ℕ) → WroteGroup book group room room' n → take n room' ≡ image
    group_written room room' n w =
        let same : group_image (book_in book) (observed group) ≡ image = ap (λ (c : Book). group_image c (observed group)) (book_in_lem book b is) in
        ap (take n) w.image ∙ take_at (group_image (book_in book) (observed group)) (drop n room) n (sym w.bytes) ∙ same

    cleans_looked : (r : Cleaning) (list' area' : List ℕ) → Looked image hypotheses budget list area r list' area' → Cleans book group hypotheses budget list area r list' area'
    unfolding ending
    cleans_looked r list' area' looked =
        let t : ending book group hypotheses budget (length list) (length area) ≡ ending_by fine b group hypotheses budget (length list) (length area) =
        ap (λ (d : Decoded). ending_of d group hypotheses budget (length list) (length area)) is
        ∙ ap (λ (f : Finding). ending_by f b group hypotheses budget (length list) (length area)) passed.is_fine_lem in
        let i : image_of (decode book) group ≡ image = ap (λ (d : Decoded). image_of d group) is in
        record {
          answer = looked.answer ∙ ap (answer_of hypotheses) (sym t);
          sets = looked.sets ∙ ap₂ (λ (s : List ℕ) (x : Ending). list_of s budget list area x) (sym i) (sym t);
          work = looked.work ∙ ap₂ (λ (s : List ℕ) (x : Ending). area_of s budget list area x) (sym i) (sym t);
          meaning =
              λ c j.
              let other : b ≡ c = cc in
              subst (λ (d : Book). Means (with_facts d (observed group)) hypotheses r) other
              (subst (λ (d : Book). Means d hypotheses r) same_book
              (subst (Means (book_in image) hypotheses) (sym looked.answer) (ending_means group_ripe)));
        }

    -- it is never longer than any image
    pub group_short : (room room' : List ℕ) (n : ℕ) → WroteGroup book group room room' n → n ≤ longest_image
    group_short room room' n w =
        let same : group_image (book_in book) (observed group) ≡ image = ap (λ (c : Book). group_image c (observed group)) (book_in_lem book b is) in
        subst (λ (k : ℕ). k ≤ longest_image) (sym (w.bytes ∙ ap length same)) (longest_image_lem image (with_facts b (observed group)) image_accepted)

    -- what is looked at is what was written
    pub written_ripe : (room room' : List ℕ) (n : ℕ) → WroteGroup book group room room' n → Ripe (take n room') hypotheses budget list area
    written_ripe room room' n w = subst (λ (s : List ℕ). Ripe s hypotheses budget list area) (sym (group_written room room' n w)) group_ripe

    pub cleans_written : (room room' : List ℕ) (n : ℕ) → WroteGroup book group room room' n → (r : Cleaning) (list' area' : List ℕ)
        → Looked (take n room') hypotheses budget list area r list' area' → Cleans book group hypotheses budget list area r list' area'
    cleans_written room room' n w r list' area' looked =
        cleans_looked r list' area' (subst (λ (s : List ℕ). Looked s hypotheses budget list area r list' area') (group_written room room' n w) looked)
