-- The answers as one number each, for callers in C. Of judge, list, admits and verdict each kind of answer has 2^56 codes of its own, and among
-- them a count, or a refusal's number that comes with nodes, stands above the 2^32 codes of the nodes; the number of an image's own refusal
-- stands above its place, and a refusal of join, text or names above their counts, in the same way.
--
--   call      answer               code
--   read      Accepted             0
--             Refused n p          2^32 * n + p
--   judge     Explains             0
--             FalseGoal p          2^56 + p
--             BrokenConstraint p   2 * 2^56 + p
--             Refused n            3 * 2^56 + n
--             Broken n p           4 * 2^56 + 2^32 * n + p
--   list      Listed k n           2^32 * k + n
--             Refused m n          2^56 + 2^32 * m + n
--             Broken n p           2 * 2^56 + 2^32 * n + p
--   admits    Admitted n           n
--             Excluded n           2^56 + n
--             Refused m n          2 * 2^56 + 2^32 * m + n
--             Broken n p           3 * 2^56 + 2^32 * n + p
--   verdict   Unexplained n        n
--             Needed n             2^56 + n
--             Possible n           2 * 2^56 + n
--             RuledOut n           3 * 2^56 + n
--             Refused m n          4 * 2^56 + 2^32 * m + n
--             Broken n p           5 * 2^56 + 2^32 * n + p
--   join      Count k              k
--             Refused n            2^32 * n
--   text,     Written n            n
--   names     Refused n            2^32 * n
-- Assumes nothing.
use Rattle.std.specs.Prelude.{ℕ, ◌+◌, ◌*◌, ◌^◌, ◌≡◌, List}
use Rattle.book.specs.paper.Reading.{Reading, Reads}
use Rattle.book.specs.paper.Reading as reading
use Rattle.judging.specs.paper.Judged as judgement
use Rattle.judging.specs.paper.Judged.{Judgement, Judges}
use Rattle.lister.specs.paper.Promise as listing
use Rattle.lister.specs.paper.Promise.{Listing, Lists}
use Rattle.admitting.specs.paper.Promise as admission
use Rattle.admitting.specs.paper.Promise.{Admission, Admits}
use Rattle.engine.specs.paper.Verdict as verdict
use Rattle.engine.specs.paper.Verdict.{Verdict, Verdicts}
use Rattle.joiner.specs.paper.Join.{Joined, Count, Refused, Joins}
use Rattle.image.specs.paper.Writing.{Writing}
use Rattle.image.specs.paper.Writing as writing
use Rattle.spelling.specs.paper.Document.{Document}
use Rattle.spelling.specs.paper.Answer.{Writes}

-- how many codes there are for the nodes, for a count that comes without nodes, or for a place
abbrev pub node_codes : ℕ
node_codes = 2 ^ 32

-- and for a kind of answer
abbrev pub kind_codes : ℕ
kind_codes = 2 ^ 56

-- where the codes of each kind begin, but of the first
abbrev pub false_goal : ℕ
false_goal = kind_codes

abbrev pub broken_constraint : ℕ
broken_constraint = 2 * kind_codes

abbrev pub judge_refused : ℕ
judge_refused = 3 * kind_codes

abbrev pub judge_broken : ℕ
judge_broken = 4 * kind_codes

abbrev pub list_refused : ℕ
list_refused = kind_codes

abbrev pub list_broken : ℕ
list_broken = 2 * kind_codes

abbrev pub excluded : ℕ
excluded = kind_codes

abbrev pub admits_refused : ℕ
admits_refused = 2 * kind_codes

abbrev pub admits_broken : ℕ
admits_broken = 3 * kind_codes

abbrev pub needed : ℕ
needed = kind_codes

abbrev pub possible : ℕ
possible = 2 * kind_codes

abbrev pub ruled_out : ℕ
ruled_out = 3 * kind_codes

abbrev pub verdict_refused : ℕ
verdict_refused = 4 * kind_codes

abbrev pub verdict_broken : ℕ
verdict_broken = 5 * kind_codes

-- the image's own refusal: its number above its place
abbrev pub broken_code : ℕ → ℕ → ℕ
broken_code n at = node_codes * n + at

-- ---- the codes, and what each call for C promises: r is the code of an answer that meets the promise of the call behind it

abbrev pub reading_code : Reading → ℕ
reading_code reading.Accepted = 0
reading_code (reading.Refused n at) = broken_code n at

pub record ReadingCode (s : List ℕ) (r : ℕ) : Type 0 where
  pub answer : Reading
  pub reads : Reads s answer
  pub code : r ≡ reading_code answer

abbrev pub judgement_code : Judgement → ℕ
judgement_code judgement.Explains = 0
judgement_code (judgement.FalseGoal p) = false_goal + p
judgement_code (judgement.BrokenConstraint p) = broken_constraint + p
judgement_code (judgement.Broken n at) = judge_broken + broken_code n at
judgement_code (judgement.Refused n) = judge_refused + n

pub record JudgementCode (s : List ℕ) (d : ℕ) (r : ℕ) : Type 0 where
  pub answer : Judgement
  pub judges : Judges s d answer
  pub code : r ≡ judgement_code answer

abbrev pub listing_code : Listing → ℕ
listing_code (listing.Listed k n) = node_codes * k + n
listing_code (listing.Broken n at) = list_broken + broken_code n at
listing_code (listing.Refused m n) = list_refused + node_codes * m + n

pub record ListingCode (s : List ℕ) (budget : ℕ) (list area : List ℕ) (r : ℕ) (list' area' : List ℕ) : Type 0 where
  pub answer : Listing
  pub lists : Lists s budget list area answer list' area'
  pub code : r ≡ listing_code answer

abbrev pub admission_code : Admission → ℕ
admission_code (admission.Admitted n) = n
admission_code (admission.Excluded n) = excluded + n
admission_code (admission.Broken n at) = admits_broken + broken_code n at
admission_code (admission.Refused m n) = admits_refused + node_codes * m + n

pub record AdmissionCode (s : List ℕ) (h budget : ℕ) (area : List ℕ) (r : ℕ) (area' : List ℕ) : Type 0 where
  pub answer : Admission
  pub admits : Admits s h budget area answer area'
  pub code : r ≡ admission_code answer

abbrev pub verdict_code : Verdict → ℕ
verdict_code (verdict.Unexplained n) = n
verdict_code (verdict.Needed n) = needed + n
verdict_code (verdict.Possible n) = possible + n
verdict_code (verdict.RuledOut n) = ruled_out + n
verdict_code (verdict.Broken n at) = verdict_broken + broken_code n at
verdict_code (verdict.Refused m n) = verdict_refused + node_codes * m + n

pub record VerdictCode (s : List ℕ) (h budget : ℕ) (list area : List ℕ) (r : ℕ) (list' area' : List ℕ) : Type 0 where
  pub answer : Verdict
  pub verdicts : Verdicts s h budget list area answer list' area'
  pub code : r ≡ verdict_code answer

abbrev pub joined_code : Joined → ℕ
joined_code (Count k) = k
joined_code (Refused n) = node_codes * n

pub record JoinedCode (left right out : List ℕ) (r : ℕ) (after : List ℕ) : Type 0 where
  pub answer : Joined
  pub joins : Joins left right out answer after
  pub code : r ≡ joined_code answer

abbrev pub writing_code : Writing → ℕ
writing_code (writing.Written n) = n
writing_code (writing.Refused n) = node_codes * n

-- by what the call writes, the image or the names
pub record WritingCode (what : Document → List ℕ) (text room : List ℕ) (r : ℕ) (after : List ℕ) : Type 0 where
  pub answer : Writing
  pub writes : Writes what text room answer after
  pub code : r ≡ writing_code answer
