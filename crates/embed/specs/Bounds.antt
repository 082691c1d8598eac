-- How large the parts of each answer can be, by the promise of the call that gives it.
-- Assumes nothing.
use Rattle.std.specs.Prelude.{ℕ, ◌+◌, ◌*◌, ◌^◌, ◌≤◌, ◌≡◌, refl, Bool, true, false, List, [], ◌∷◌, leb, ltb, length}
use Rattle.std.proofs.Common.{sym, subst, inr, ⊎_elim, arith, ltb-true, ltb-false}
use Rattle.base.specs.paper.Bools.{choose}
use Rattle.base.specs.Bools.{decide}
use Rattle.base.specs.paper.Lists.{all, any}
use Rattle.base.specs.paper.Members.{has}
use Rattle.image.specs.paper.Book.{Book}
use Rattle.image.specs.paper.Faults.{limits}
use Rattle.image.specs.paper.Decode.{Decoded, accepted, refused, decode}
use Rattle.image.specs.Numbers.{decode_number}
use Rattle.placing.proofs.Most.{place_most}
use Rattle.image.specs.Accepted.{within}
use Rattle.book.specs.paper.Reading.{Reading, Reads, reading_of}
use Rattle.book.specs.paper.Reading as reading
use Rattle.meaning.specs.paper.Meaning.{true_in, value, holds}
use Rattle.judging.specs.FailingLaws.{failing_most}
use Rattle.judging.specs.paper.Judged.{Judgement, Judges, judged, judged_of, judged_book, first_false, first_broken}
use Rattle.judging.specs.paper.Judged as judgement
use Rattle.searching.specs.paper.Rules.{root, Outcome, finished, used_up, no_room, run_from, sent, search_end}
use Rattle.searching.specs.paper.Tree.{size}
use Rattle.searching.proofs.Outcomes.{kept_at, Says, finishes, runs_out, fills_up, says}
use Rattle.sets.specs.KeptLaws.{sort_length}
use Rattle.joiner.specs.paper.Join.{Joined, Count, Refused, Long, Outcome as Ending, refused20, refused31, counted, Joins}
use Rattle.sets.specs.paper.Kept.{longest}
use Rattle.joiner.specs.JoinLaws.{joins_outcome}
use Rattle.lister.specs.paper.Promise.{Listing, most_budget, Result, broken, turned, searched, by_book, result_of, answer_of, Lists}
use Rattle.lister.specs.paper.Promise as list
use Rattle.lister.specs.declared.NoAnswer.{NoAnswer}
use Rattle.lister.specs.declared.NoAnswer.TheVariants as none
use Rattle.image.specs.paper.Refusals.{number_of}
use Rattle.embed.specs.paper.Codes.{node_codes, kind_codes, broken_code}
use Rattle.searching.specs.paper.Seek.{Seeking, admitted, excluded, spent, sought}
use Rattle.searching.proofs.Admitted.{sought_within}
use Rattle.admitting.specs.paper.Promise as admits
use Rattle.admitting.specs.paper.Promise.{Admission}
use Rattle.engine.specs.paper.Verdict.{Verdict, named, asked, verdict_result, second_of, second, by_second, decided, verdict_of, visited, Verdicts}
use Rattle.engine.specs.paper.Verdict as verdict
use Rattle.area.specs.paper.Work.{work_numbers}
use Rattle.image.specs.Encode.{longest_image, longest_image_lem}
use Rattle.image.specs.paper.Writing.{Ending as Written, answer_of as writing_of}
use Rattle.image.specs.paper.Writing.{Writing}
use Rattle.image.specs.paper.Writing as writing
use Rattle.spelling.specs.paper.Document.{Document}
use Rattle.spelling.specs.paper.Said.{book_of}
use Rattle.spelling.specs.paper.Answer.{image_of, name_lines, Clear, Ends, malformed, clashes, turned, short, whole, Writes}
use Rattle.spelling.proofs.Lines.{lines_fit}

-- the last refusal number of paper 01
abbrev pub last_number : ℕ
last_number = 31

-- the most nodes that a search visits: the largest budget
abbrev pub most_nodes : ℕ
most_nodes = most_budget

-- and of two, one behind the other
abbrev pub most_twice : ℕ
most_twice = most_nodes + most_nodes

-- a refusal's number
pub record Refusal (m : ℕ) : Type 0 where
  pub some : 1 ≤ m
  pub most : m ≤ last_number

-- a count of sets and one of nodes
pub record Counts (k n : ℕ) : Type 0 where
  pub sets : k ≤ longest
  pub nodes : n ≤ most_nodes

-- a refusal's number and the nodes before it, of one search or of two
pub record RefusedAt (m n : ℕ) : Type 0 where
  pub number : Refusal m
  pub nodes : n ≤ most_twice

refusal : (m : ℕ) → 1 ≤ m → m ≤ last_number → Refusal m
refusal m p q = record { some = p; most = q }

-- a number of the image's own refusals, and its place
pub record BrokenAt (n at : ℕ) : Type 0 where
  pub number : Refusal n
  pub place : at ≤ longest_image

-- the reader's are such
by_reader : (s : List ℕ) (n at : ℕ) → decode s ≡ refused n at → BrokenAt n at
by_reader s n at e =
    let k = decode_number s n at e in
    record { number = refusal n k.some (omega (arith, k.most)); place = place_most s n at e }

tested : {A : Type 0} (P : A → Type 0) (t : Bool) {x y : A} → (t ≡ true → P x) → (t ≡ false → P y) → P (choose t x y)
tested P true p q = p refl
tested P false p q = q refl

-- ---- read

abbrev pub ReadingWithin : Reading → Type 0
ReadingWithin reading.Accepted = Unit {0}
ReadingWithin (reading.Refused n at) = BrokenAt n at

pub reading_within : (s : List ℕ) (r : Reading) → Reads s r → ReadingWithin r
reading_within s r h = subst ReadingWithin (sym h.answer) (go (decode s) refl)
  where
    go : (x : Decoded) → decode s ≡ x → ReadingWithin (reading_of x)
    go (accepted b) e = tt
    go (refused n at) e = by_reader s n at e

-- ---- judge

abbrev pub JudgementWithin : Judgement → Type 0
JudgementWithin judgement.Explains = Unit {0}
JudgementWithin (judgement.FalseGoal p) = p ≤ limits.goal
JudgementWithin (judgement.BrokenConstraint p) = p ≤ limits.constraints
JudgementWithin (judgement.Broken n at) = BrokenAt n at
JudgementWithin (judgement.Refused n) = Refusal n

pub judgement_within : (s : List ℕ) (d : ℕ) (r : Judgement) → Judges s d r → JudgementWithin r
unfolding judged judged_book
judgement_within s d r h = subst JudgementWithin (sym h.answer) (go (decode s) refl)
  where
    go : (x : Decoded) → decode s ≡ x → JudgementWithin (judged_of x d)
    go (refused n at) e = by_reader s n at e
    go (accepted b) e =
        let few = within s b e in
        tested JudgementWithin (leb (2 ^ b.abducibles) d) (λ _. refusal 23 (omega arith) (omega arith))
        (λ _. tested JudgementWithin (ltb (first_false b d) (length b.goal))
        (λ _. omega (arith, few.goal, failing_most (true_in (value b d)) b.goal))
        (λ _. tested JudgementWithin (ltb (first_broken b d) (length b.constraints))
        (λ _. omega (arith, few.constraints, failing_most (holds (value b d)) b.constraints))
        (λ _. tt)))

-- ---- list

abbrev ResultWithin : Result → Type 0
ResultWithin (broken n at) = BrokenAt n at
ResultWithin (turned m) = Refusal m
ResultWithin (searched (finished l n)) = Counts (length l) n
ResultWithin (searched (used_up n)) = n ≤ most_nodes
ResultWithin (searched (no_room n)) = n ≤ most_nodes

-- a search ends within its room and its budget
search_within : (b : Book) (room budget : ℕ) → room ≤ longest → budget ≤ most_nodes → ResultWithin (searched (search_end b room budget))
search_within b room budget few low = go (run_from b room budget (root b)) (says b room budget (root b))
  where
    go : (o : Outcome) → Says b room budget (root b) o → ResultWithin (searched (sent o))
    go o (finishes h f e) =
        let all : ℕ = size b (root b) in
        subst (λ (x : Outcome). ResultWithin (searched (sent x))) (sym e)
        (record { sets = omega (arith, sort_length (kept_at b (root b) all), f all (omega arith)); nodes = omega arith })
    go o (runs_out h f e) = subst (λ (x : Outcome). ResultWithin (searched (sent x))) (sym e) low
    go o (fills_up i h g f r e) = subst (λ (x : Outcome). ResultWithin (searched (sent x))) (sym e) (omega arith)

result_within : (s : List ℕ) (budget room space : ℕ) → ResultWithin (result_of s budget room space)
unfolding result_of
result_within s budget room space = go (decode s) refl
  where
    go : (x : Decoded) → decode s ≡ x → ResultWithin (by_book x room space budget)
    go (refused n at) e = by_reader s n at e
    go (accepted b) e =
        tested ResultWithin (ltb longest room) (λ _. refusal 20 (omega arith) (omega arith))
        (λ few. tested ResultWithin (ltb space work_numbers) (λ _. refusal 21 (omega arith) (omega arith))
        (λ _. tested ResultWithin (ltb most_nodes budget) (λ _. refusal 22 (omega arith) (omega arith))
        (λ low. search_within b room budget (ltb-false longest room few) (ltb-false most_nodes budget low))))

abbrev pub ListingWithin : Listing → Type 0
ListingWithin (list.Listed k n) = Counts k n
ListingWithin (list.Broken n at) = BrokenAt n at
ListingWithin (list.Refused m n) = RefusedAt m n

pub listing_within : (s : List ℕ) (budget : ℕ) (sets work : List ℕ) (r : Listing) (sets' work' : List ℕ)
    → Lists s budget sets work r sets' work' → ListingWithin r
listing_within s budget sets work r sets' work' h =
    subst ListingWithin (sym h.answer) (go (result_of s budget (length sets) (length work)) (result_within s budget (length sets) (length work)))
  where
    go : (x : Result) → ResultWithin x → ListingWithin (answer_of x)
    go (broken n at) k = k
    go (turned m) k = record { number = k; nodes = omega arith }
    go (searched (finished l n)) k = k
    go (searched (used_up n)) k = record { number = refusal 30 (omega arith) (omega arith); nodes = omega (arith, k) }
    go (searched (no_room n)) k = record { number = refusal 31 (omega arith) (omega arith); nodes = omega (arith, k) }

-- ---- a search without an answer

-- the place of an image's own refusal is one
abbrev pub NoAnswerWithin : NoAnswer → Type 0
NoAnswerWithin (none.Broken fault) = fault.place ≤ longest_image
NoAnswerWithin (none.Refused refusal n) = Unit {0}

-- its code: the refusals have those of this kind, and the image's own those of the next
abbrev pub no_answer_code : NoAnswer → ℕ → ℕ
no_answer_code (none.Broken fault) kind = kind + kind_codes + broken_code (number_of fault.refusal) fault.place
no_answer_code (none.Refused refusal n) kind = kind + node_codes * number_of refusal + n

-- ---- admits

abbrev pub AdmissionWithin : Admission → Type 0
AdmissionWithin (admits.Admitted n) = n ≤ most_nodes
AdmissionWithin (admits.Excluded n) = n ≤ most_nodes
AdmissionWithin (admits.Broken n at) = BrokenAt n at
AdmissionWithin (admits.Refused m n) = RefusedAt m n

-- the second search ends within its budget
second_within : (b : Book) (h budget : ℕ) → budget ≤ most_nodes → visited (sought b h budget) ≤ most_nodes
second_within b h budget low = go (sought b h budget) refl
  where
    go : (o : Seeking) → sought b h budget ≡ o → visited o ≤ most_nodes
    go (admitted n) e = omega (arith, ((sought_within b h budget n).0 e).1)
    go (excluded n) e = omega (arith, ((sought_within b h budget n).1 e).0)
    go (spent n) e = omega (arith, (sought_within b h budget n).2 e)

pub admission_within : (s : List ℕ) (h budget : ℕ) (work : List ℕ) (r : Admission) (work' : List ℕ) → admits.Admits s h budget work r work' → AdmissionWithin r
unfolding admits.result_of
admission_within s h budget work r work' a = subst AdmissionWithin (sym a.answer) (go (decode s) refl)
  where
    space : ℕ
    space = length work

    told : (o : Seeking) → visited o ≤ most_nodes → AdmissionWithin (admits.answer_of (admits.searched o))
    told (admitted n) k = k
    told (excluded n) k = k
    told (spent n) k = record { number = refusal 30 (omega arith) (omega arith); nodes = omega (arith, k) }

    away : (m : ℕ) → 1 ≤ m → m ≤ last_number → AdmissionWithin (admits.Refused m 0)
    away m p q = record { number = refusal m p q; nodes = omega arith }

    go : (x : Decoded) → decode s ≡ x → AdmissionWithin (admits.answer_of (admits.by_book x h budget (length work)))
    go (refused n at) e = by_reader s n at e
    go (accepted b) e =
        tested (λ (x : admits.Result). AdmissionWithin (admits.answer_of x)) (ltb (length work) work_numbers) (λ _. away 21 (omega arith) (omega arith))
        (λ _. tested (λ (x : admits.Result). AdmissionWithin (admits.answer_of x)) (ltb most_nodes budget) (λ _. away 22 (omega arith) (omega arith))
        (λ low. tested (λ (x : admits.Result). AdmissionWithin (admits.answer_of x)) (ltb h b.abducibles)
        (λ _. told (sought b h budget) (second_within b h budget (ltb-false most_nodes budget low)))
        (λ _. away 23 (omega arith) (omega arith))))

-- ---- verdict

abbrev pub VerdictWithin : Verdict → Type 0
VerdictWithin (verdict.Unexplained n) = n ≤ most_twice
VerdictWithin (verdict.Needed n) = n ≤ most_twice
VerdictWithin (verdict.Possible n) = n ≤ most_twice
VerdictWithin (verdict.RuledOut n) = n ≤ most_twice
VerdictWithin (verdict.Broken n at) = BrokenAt n at
VerdictWithin (verdict.Refused m n) = RefusedAt m n

-- a result that was searched came with an admitted budget
low_budget : (s : List ℕ) (budget room space : ℕ) (o : Outcome) → result_of s budget room space ≡ searched o → budget ≤ most_nodes
unfolding result_of
low_budget s budget room space o e = go (decode s) e
  where
    tests : (t u : Bool) (v : Bool) (x : Outcome) → ltb most_nodes budget ≡ v → choose t (turned 20) (choose u (turned 21) (choose v (turned 22) (searched x))) ≡ searched o → budget ≤ most_nodes
    tests true u v x i q = let z : ◌≡◌ {A = ℕ} 0 1 = cc in absurd (omega arith)
    tests false true v x i q = let z : ◌≡◌ {A = ℕ} 0 1 = cc in absurd (omega arith)
    tests false false true x i q = let z : ◌≡◌ {A = ℕ} 0 1 = cc in absurd (omega arith)
    tests false false false x i q = ltb-false most_nodes budget i

    go : (d : Decoded) → by_book d room space budget ≡ searched o → budget ≤ most_nodes
    go (refused n at) q = let z : ◌≡◌ {A = ℕ} 0 1 = cc in absurd (omega arith)
    go (accepted b) q = tests (ltb longest room) (ltb space work_numbers) (ltb most_nodes budget) (search_end b room budget) refl q

pub verdict_within : (s : List ℕ) (h budget : ℕ) (sets work : List ℕ) (r : Verdict) (sets' work' : List ℕ)
    → Verdicts s h budget sets work r sets' work' → VerdictWithin r
unfolding verdict_result second
verdict_within s h budget sets work r sets' work' v =
    subst VerdictWithin (sym v.answer)
    (go (named (decode s) h) (result_of s budget (length sets) (length work)) refl (result_within s budget (length sets) (length work)))
  where
    later : (d : Decoded) → budget ≤ most_nodes → visited (second_of d h budget) ≤ most_nodes
    later (accepted b) low = second_within b h budget low
    later (refused n at) low = omega arith

    both : (n : ℕ) (x : Seeking) → n ≤ most_nodes → visited x ≤ most_nodes → VerdictWithin (by_second n x)
    both n (admitted m) k j = omega (arith, k, j)
    both n (excluded m) k j = omega (arith, k, j)
    both n (spent m) k j = record { number = refusal 30 (omega arith) (omega arith); nodes = omega (arith, k, j) }

    decides : (l : List ℕ) (n : ℕ) (x : Seeking) → n ≤ most_nodes → visited x ≤ most_nodes → VerdictWithin (decided h l n x)
    decides [] n x k j = omega (arith, k)
    decides (d ∷ l) n x k j =
        tested VerdictWithin (all (λ (y : ℕ). has y h) (d ∷ l)) (λ _. omega (arith, k))
        (λ _. tested VerdictWithin (any (λ (y : ℕ). has y h) (d ∷ l)) (λ _. omega (arith, k)) (λ _. both n x k j))

    go : (t : Bool) (x : Result) → result_of s budget (length sets) (length work) ≡ x → ResultWithin x → VerdictWithin (verdict_of h (asked t x) (second_of (decode s) h budget))
    go t (broken n at) e k = k
    go t (turned m) e k = record { number = k; nodes = omega arith }
    go false (searched o) e k = record { number = refusal 23 (omega arith) (omega arith); nodes = omega arith }
    go true (searched (finished l n)) e k =
        decides l n (second_of (decode s) h budget) k.nodes (later (decode s) (low_budget s budget (length sets) (length work) (finished l n) e))
    go true (searched (used_up n)) e k = record { number = refusal 30 (omega arith) (omega arith); nodes = omega (arith, k) }
    go true (searched (no_room n)) e k = record { number = refusal 31 (omega arith) (omega arith); nodes = omega (arith, k) }

-- ---- join

abbrev pub JoinedWithin : Joined → Type 0
JoinedWithin (Count k) = k ≤ longest
JoinedWithin (Refused n) = Refusal n

pub joined_within : (left right out : List ℕ) (r : Joined) (after : List ℕ) → Joins left right out r after → JoinedWithin r
joined_within left right out r after h = go (joins_outcome h)
  where
    short : (Long left right out → ⊥) → length out ≤ longest
    short fits =
        ⊎_elim
        (λ (t : ltb longest (length out) ≡ true). absurd (fits (inr (inr (ltb-true longest (length out) t)))))
        (λ (t : ltb longest (length out) ≡ false). ltb-false longest (length out) t)
        (decide (ltb longest (length out)))

    go : Ending left right out r after → JoinedWithin r
    go (refused20 l a s) = subst JoinedWithin (sym a) (refusal 20 (omega arith) (omega arith))
    go (refused31 l fits j more a s) = subst JoinedWithin (sym a) (refusal 31 (omega arith) (omega arith))
    go (counted l fits j room a s) = subst JoinedWithin (sym a) (omega (arith, short fits))

-- ---- text and names

-- the last refusal number of paper 02, A1
abbrev pub last_text : ℕ
last_text = 52

-- the most bytes that are written: the longest image, as the lines of the names are shorter
abbrev pub most_written : ℕ
most_written = longest_image

abbrev pub WritingWithin : Writing → Type 0
WritingWithin (writing.Written n) = n ≤ most_written
WritingWithin (writing.Refused n) = (1 ≤ n) × (n ≤ last_text)

-- what is written of an accepted text is that short
abbrev pub Short : (Document → List ℕ) → Type 0
Short what = (text : List ℕ) (d : Document) → Clear text d → decode (image_of d) ≡ accepted (book_of d) → length (what d) ≤ most_written

pub image_short : Short image_of
image_short text d c e = longest_image_lem (image_of d) (book_of d) e

pub lines_short : Short name_lines
lines_short text d c e = omega (arith, lines_fit text d c e)

pub writing_within : (what : Document → List ℕ) → Short what → (text room : List ℕ) (r : Writing) (after : List ℕ)
    → Writes what text room r after → WritingWithin r
writing_within what few text room r after h = subst WritingWithin (sym h.answer) (go h.ending h.ends)
  where
    go : (e : Written) → Ends what text (length room) e → WritingWithin (writing_of e)
    go e (malformed none) = (omega arith, omega arith)
    go e (clashes d s t) = (omega arith, omega arith)
    go e (turned d n at c t) = let k = (by_reader (image_of d) n at t).number in (k.some, omega (arith, k.most))
    go e (short d c t k) = (omega arith, omega arith)
    go e (whole d c t k) = few text d c t
