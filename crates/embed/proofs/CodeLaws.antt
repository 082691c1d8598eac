-- The laws of the codes: the promise of each call for C fixes its result, and no two answers that a call can give have one code.
-- Assumes nothing.
use Rattle.std.specs.Prelude.{ℕ, zero, suc, ◌+◌, ◌*◌, ◌/◌, ◌%◌, ◌<◌, ◌≡◌, refl, List}
use Rattle.std.proofs.Common.{sym, ap, ap₂, ◌∙◌, arith}
use Rattle.book.specs.paper.Reading.{Reading, Reads}
use Rattle.book.specs.paper.Reading as reading
use Rattle.book.specs.ReadingLaws.{reads_unique}
use Rattle.judging.specs.paper.Judged as judgement
use Rattle.judging.specs.paper.Judged.{Judgement, Judges}
use Rattle.judging.specs.JudgedLaws.{judges_unique}
use Rattle.lister.specs.paper.Promise as listing
use Rattle.lister.specs.paper.Promise.{Listing, Lists}
use Rattle.lister.specs.PromiseLaws.{lists_unique}
use Rattle.admitting.specs.paper.Promise as admission
use Rattle.admitting.specs.paper.Promise.{Admission, Admits}
use Rattle.admitting.specs.AdmitLaws.{admits_unique}
use Rattle.engine.specs.paper.Verdict as verdict
use Rattle.engine.specs.paper.Verdict.{Verdict, Verdicts}
use Rattle.engine.specs.VerdictLaws.{verdicts_unique}
use Rattle.joiner.specs.paper.Join.{Joined, Count, Refused, Joins}
use Rattle.joiner.specs.JoinLaws.{joins_unique}
use Rattle.image.specs.paper.Writing.{Writing}
use Rattle.image.specs.paper.Writing as writing
use Rattle.spelling.specs.paper.Document.{Document}
use Rattle.spelling.specs.paper.Answer.{image_of, name_lines, Writes}
use Rattle.spelling.proofs.Answers.{writes_unique}
use Rattle.embed.specs.paper.Codes.{node_codes, kind_codes, false_goal, broken_constraint, judge_refused, judge_broken, list_refused, list_broken, excluded, admits_refused, admits_broken, needed, possible, ruled_out, verdict_refused, verdict_broken, broken_code, reading_code, ReadingCode, judgement_code, JudgementCode, listing_code, ListingCode, admission_code, AdmissionCode, verdict_code, VerdictCode, joined_code, JoinedCode, writing_code, WritingCode}
use Rattle.embed.specs.Bounds.{ReadingWithin, reading_within, JudgementWithin, judgement_within, ListingWithin, listing_within, AdmissionWithin, admission_within, VerdictWithin, verdict_within, JoinedWithin, joined_within, WritingWithin, Short, image_short, lines_short, writing_within}

-- ---- two results that meet one of the promises are equal

pub reading_code_unique : (s : List ℕ) (q r : ℕ) → ReadingCode s q → ReadingCode s r → q ≡ r
reading_code_unique s q r a b = a.code ∙ ap reading_code (reads_unique s a.answer b.answer a.reads b.reads) ∙ sym b.code

pub judgement_code_unique : (s : List ℕ) (d q r : ℕ) → JudgementCode s d q → JudgementCode s d r → q ≡ r
judgement_code_unique s d q r a b = a.code ∙ ap judgement_code (judges_unique s d a.answer b.answer a.judges b.judges) ∙ sym b.code

pub listing_code_unique : (s : List ℕ) (budget : ℕ) (list area : List ℕ) (q r : ℕ) (list₁ area₁ list₂ area₂ : List ℕ)
    → ListingCode s budget list area q list₁ area₁ → ListingCode s budget list area r list₂ area₂
    → (q ≡ r) × (list₁ ≡ list₂) × (area₁ ≡ area₂)
listing_code_unique s budget list area q r list₁ area₁ list₂ area₂ a b =
    let same = lists_unique s budget list area a.answer b.answer list₁ area₁ list₂ area₂ a.lists b.lists in
    (a.code ∙ ap listing_code same.0 ∙ sym b.code, same.1, same.2)

pub admission_code_unique : (s : List ℕ) (h budget : ℕ) (area : List ℕ) (q r : ℕ) (area₁ area₂ : List ℕ)
    → AdmissionCode s h budget area q area₁ → AdmissionCode s h budget area r area₂ → (q ≡ r) × (area₁ ≡ area₂)
admission_code_unique s h budget area q r area₁ area₂ a b =
    let same = admits_unique s h budget area a.answer b.answer area₁ area₂ a.admits b.admits in
    (a.code ∙ ap admission_code same.0 ∙ sym b.code, same.1)

pub verdict_code_unique : (s : List ℕ) (h budget : ℕ) (list area : List ℕ) (q r : ℕ) (list₁ area₁ list₂ area₂ : List ℕ)
    → VerdictCode s h budget list area q list₁ area₁ → VerdictCode s h budget list area r list₂ area₂
    → (q ≡ r) × (list₁ ≡ list₂) × (area₁ ≡ area₂)
verdict_code_unique s h budget list area q r list₁ area₁ list₂ area₂ a b =
    let same = verdicts_unique s h budget list area a.answer b.answer list₁ area₁ list₂ area₂ a.verdicts b.verdicts in
    (a.code ∙ ap verdict_code same.0 ∙ sym b.code, same.1, same.2)

pub joined_code_unique : (left right out : List ℕ) (q r : ℕ) (after₁ after₂ : List ℕ)
    → JoinedCode left right out q after₁ → JoinedCode left right out r after₂ → (q ≡ r) × (after₁ ≡ after₂)
joined_code_unique left right out q r after₁ after₂ a b =
    let same = joins_unique a.joins b.joins in
    (a.code ∙ ap joined_code same.0 ∙ sym b.code, same.1)

pub writing_code_unique : (what : Document → List ℕ) (text room : List ℕ) (q r : ℕ) (after₁ after₂ : List ℕ)
    → WritingCode what text room q after₁ → WritingCode what text room r after₂ → (q ≡ r) × (after₁ ≡ after₂)
writing_code_unique what text room q r after₁ after₂ a b =
    let same = writes_unique what text room a.answer b.answer after₁ after₂ a.writes b.writes in
    (a.code ∙ ap writing_code same.0 ∙ sym b.code, same.1)

-- ---- an answer read back from its code, by the kind and by what stands below it

told : {A : Type 0} (read : ℕ → ℕ → A) (code kind rest : ℕ) → code ≡ kind * kind_codes + rest → rest < kind_codes
    → read (code / kind_codes) (code % kind_codes) ≡ read kind rest
told read code kind rest e h =
    let high : code / kind_codes ≡ kind = omega arith in
    let low : code % kind_codes ≡ rest = omega arith in
    ap₂ read high low

parted : {A : Type 0} (read : ℕ → ℕ → A) (code k n : ℕ) → code ≡ node_codes * k + n → n < node_codes
    → read (code / node_codes) (code % node_codes) ≡ read k n
parted read code k n e h =
    let high : code / node_codes ≡ k = omega arith in
    let low : code % node_codes ≡ n = omega arith in
    ap₂ read high low

reading_at : ℕ → ℕ → Reading
reading_at zero at = reading.Accepted
reading_at (suc n) at = reading.Refused (suc n) at

reading_back : (r : Reading) → ReadingWithin r → reading_at (reading_code r / node_codes) (reading_code r % node_codes) ≡ r
unfolding reading_at
reading_back reading.Accepted k = refl
reading_back (reading.Refused zero at) k = absurd (omega (arith, k.number.some))
reading_back (reading.Refused (suc n) at) k = parted reading_at (broken_code (suc n) at) (suc n) at refl (omega (arith, k.place))

judgement_at : ℕ → ℕ → Judgement
judgement_at zero p = judgement.Explains
judgement_at (suc zero) p = judgement.FalseGoal p
judgement_at (suc (suc zero)) p = judgement.BrokenConstraint p
judgement_at (suc (suc (suc zero))) n = judgement.Refused n
judgement_at (suc (suc (suc (suc kind)))) rest = judgement.Broken (rest / node_codes) (rest % node_codes)

judgement_back : (r : Judgement) → JudgementWithin r → judgement_at (judgement_code r / kind_codes) (judgement_code r % kind_codes) ≡ r
unfolding judgement_at
judgement_back judgement.Explains k = refl
judgement_back (judgement.FalseGoal p) k = told judgement_at (false_goal + p) 1 p (omega arith) (omega arith)
judgement_back (judgement.BrokenConstraint p) k = told judgement_at (broken_constraint + p) 2 p (omega arith) (omega arith)
judgement_back (judgement.Broken n at) k =
    told judgement_at (judge_broken + broken_code n at) 4 (broken_code n at) (omega arith) (omega arith)
    ∙ parted judgement.Broken (broken_code n at) n at refl (omega arith)
judgement_back (judgement.Refused n) k = told judgement_at (judge_refused + n) 3 n (omega arith) (omega arith)

listing_at : ℕ → ℕ → Listing
listing_at zero rest = listing.Listed (rest / node_codes) (rest % node_codes)
listing_at (suc zero) rest = listing.Refused (rest / node_codes) (rest % node_codes)
listing_at (suc (suc kind)) rest = listing.Broken (rest / node_codes) (rest % node_codes)

listing_back : (r : Listing) → ListingWithin r → listing_at (listing_code r / kind_codes) (listing_code r % kind_codes) ≡ r
unfolding listing_at
listing_back (listing.Listed k n) w =
    told listing_at (node_codes * k + n) 0 (node_codes * k + n) (omega arith) (omega arith) ∙ parted listing.Listed (node_codes * k + n) k n refl (omega arith)
listing_back (listing.Broken n at) w =
    told listing_at (list_broken + broken_code n at) 2 (broken_code n at) (omega arith) (omega arith)
    ∙ parted listing.Broken (broken_code n at) n at refl (omega arith)
listing_back (listing.Refused m n) w =
    told listing_at (list_refused + node_codes * m + n) 1 (node_codes * m + n) (omega arith) (omega arith) ∙ parted listing.Refused (node_codes * m + n) m n refl (omega arith)

admission_at : ℕ → ℕ → Admission
admission_at zero n = admission.Admitted n
admission_at (suc zero) n = admission.Excluded n
admission_at (suc (suc zero)) rest = admission.Refused (rest / node_codes) (rest % node_codes)
admission_at (suc (suc (suc kind))) rest = admission.Broken (rest / node_codes) (rest % node_codes)

admission_back : (r : Admission) → AdmissionWithin r → admission_at (admission_code r / kind_codes) (admission_code r % kind_codes) ≡ r
unfolding admission_at
admission_back (admission.Admitted n) w = told admission_at n 0 n (omega arith) (omega arith)
admission_back (admission.Excluded n) w = told admission_at (excluded + n) 1 n (omega arith) (omega arith)
admission_back (admission.Broken n at) w =
    told admission_at (admits_broken + broken_code n at) 3 (broken_code n at) (omega arith) (omega arith)
    ∙ parted admission.Broken (broken_code n at) n at refl (omega arith)
admission_back (admission.Refused m n) w =
    told admission_at (admits_refused + node_codes * m + n) 2 (node_codes * m + n) (omega arith) (omega arith) ∙ parted admission.Refused (node_codes * m + n) m n refl (omega arith)

verdict_at : ℕ → ℕ → Verdict
verdict_at zero n = verdict.Unexplained n
verdict_at (suc zero) n = verdict.Needed n
verdict_at (suc (suc zero)) n = verdict.Possible n
verdict_at (suc (suc (suc zero))) n = verdict.RuledOut n
verdict_at (suc (suc (suc (suc zero)))) rest = verdict.Refused (rest / node_codes) (rest % node_codes)
verdict_at (suc (suc (suc (suc (suc kind))))) rest = verdict.Broken (rest / node_codes) (rest % node_codes)

verdict_back : (r : Verdict) → VerdictWithin r → verdict_at (verdict_code r / kind_codes) (verdict_code r % kind_codes) ≡ r
unfolding verdict_at
verdict_back (verdict.Unexplained n) w = told verdict_at n 0 n (omega arith) (omega arith)
verdict_back (verdict.Needed n) w = told verdict_at (needed + n) 1 n (omega arith) (omega arith)
verdict_back (verdict.Possible n) w = told verdict_at (possible + n) 2 n (omega arith) (omega arith)
verdict_back (verdict.RuledOut n) w = told verdict_at (ruled_out + n) 3 n (omega arith) (omega arith)
verdict_back (verdict.Broken n at) w =
    told verdict_at (verdict_broken + broken_code n at) 5 (broken_code n at) (omega arith) (omega arith)
    ∙ parted verdict.Broken (broken_code n at) n at refl (omega arith)
verdict_back (verdict.Refused m n) w =
    told verdict_at (verdict_refused + node_codes * m + n) 4 (node_codes * m + n) (omega arith) (omega arith) ∙ parted verdict.Refused (node_codes * m + n) m n refl (omega arith)

joined_at : ℕ → ℕ → Joined
joined_at zero k = Count k
joined_at (suc n) k = Refused (suc n)

joined_back : (r : Joined) → JoinedWithin r → joined_at (joined_code r / node_codes) (joined_code r % node_codes) ≡ r
unfolding joined_at
joined_back (Count k) w = parted joined_at k 0 k (omega arith) (omega arith)
joined_back (Refused zero) w = absurd (omega (arith, w.some))
joined_back (Refused (suc n)) w = parted joined_at (node_codes * suc n) (suc n) 0 (omega arith) (omega arith)

writing_at : ℕ → ℕ → Writing
writing_at zero n = writing.Written n
writing_at (suc n) k = writing.Refused (suc n)

writing_back : (r : Writing) → WritingWithin r → writing_at (writing_code r / node_codes) (writing_code r % node_codes) ≡ r
unfolding writing_at
writing_back (writing.Written n) w = parted writing_at n 0 n (omega arith) (omega arith)
writing_back (writing.Refused zero) w = absurd (omega (arith, w.0))
writing_back (writing.Refused (suc n)) w = parted writing_at (node_codes * suc n) (suc n) 0 (omega arith) (omega arith)

-- ---- so no two answers that meet the promise of a call, on whatever inputs, have one code

pub reading_code_tells : (s t : List ℕ) (a c : Reading) → Reads s a → Reads t c → reading_code a ≡ reading_code c → a ≡ c
reading_code_tells s t a c p q e = sym (reading_back a (reading_within s a p)) ∙ ap (λ (x : ℕ). reading_at (x / node_codes) (x % node_codes)) e ∙ reading_back c (reading_within t c q)

pub judgement_code_tells : (s : List ℕ) (d : ℕ) (t : List ℕ) (f : ℕ) (a c : Judgement) → Judges s d a → Judges t f c → judgement_code a ≡ judgement_code c → a ≡ c
judgement_code_tells s d t f a c p q e =
    sym (judgement_back a (judgement_within s d a p))
    ∙ ap (λ (x : ℕ). judgement_at (x / kind_codes) (x % kind_codes)) e
    ∙ judgement_back c (judgement_within t f c q)

pub listing_code_tells : (s : List ℕ) (budget : ℕ) (list area list₁ area₁ : List ℕ) (t : List ℕ) (budget' : ℕ) (list' area' list₂ area₂ : List ℕ) (a c : Listing)
    → Lists s budget list area a list₁ area₁ → Lists t budget' list' area' c list₂ area₂ → listing_code a ≡ listing_code c → a ≡ c
listing_code_tells s budget list area list₁ area₁ t budget' list' area' list₂ area₂ a c p q e =
    sym (listing_back a (listing_within s budget list area a list₁ area₁ p))
    ∙ ap (λ (x : ℕ). listing_at (x / kind_codes) (x % kind_codes)) e
    ∙ listing_back c (listing_within t budget' list' area' c list₂ area₂ q)

pub admission_code_tells : (s : List ℕ) (h budget : ℕ) (area area₁ : List ℕ) (t : List ℕ) (h' budget' : ℕ) (area' area₂ : List ℕ) (a c : Admission)
    → Admits s h budget area a area₁ → Admits t h' budget' area' c area₂ → admission_code a ≡ admission_code c → a ≡ c
admission_code_tells s h budget area area₁ t h' budget' area' area₂ a c p q e =
    sym (admission_back a (admission_within s h budget area a area₁ p))
    ∙ ap (λ (x : ℕ). admission_at (x / kind_codes) (x % kind_codes)) e
    ∙ admission_back c (admission_within t h' budget' area' c area₂ q)

pub verdict_code_tells : (s : List ℕ) (h budget : ℕ) (list area list₁ area₁ : List ℕ) (t : List ℕ) (h' budget' : ℕ) (list' area' list₂ area₂ : List ℕ) (a c : Verdict)
    → Verdicts s h budget list area a list₁ area₁ → Verdicts t h' budget' list' area' c list₂ area₂ → verdict_code a ≡ verdict_code c → a ≡ c
verdict_code_tells s h budget list area list₁ area₁ t h' budget' list' area' list₂ area₂ a c p q e =
    sym (verdict_back a (verdict_within s h budget list area a list₁ area₁ p))
    ∙ ap (λ (x : ℕ). verdict_at (x / kind_codes) (x % kind_codes)) e
    ∙ verdict_back c (verdict_within t h' budget' list' area' c list₂ area₂ q)

pub joined_code_tells : (left right out after left' right' out' after' : List ℕ) (a c : Joined)
    → Joins left right out a after → Joins left' right' out' c after' → joined_code a ≡ joined_code c → a ≡ c
joined_code_tells left right out after left' right' out' after' a c p q e =
    sym (joined_back a (joined_within left right out a after p))
    ∙ ap (λ (x : ℕ). joined_at (x / node_codes) (x % node_codes)) e
    ∙ joined_back c (joined_within left' right' out' c after' q)

pub writing_code_tells : (what : Document → List ℕ) → Short what → (text room after text' room' after' : List ℕ) (a c : Writing)
    → Writes what text room a after → Writes what text' room' c after' → writing_code a ≡ writing_code c → a ≡ c
writing_code_tells what few text room after text' room' after' a c p q e =
    sym (writing_back a (writing_within what few text room a after p))
    ∙ ap (λ (x : ℕ). writing_at (x / node_codes) (x % node_codes)) e
    ∙ writing_back c (writing_within what few text' room' c after' q)

pub text_code_tells : (text room after text' room' after' : List ℕ) (a c : Writing)
    → Writes image_of text room a after → Writes image_of text' room' c after' → writing_code a ≡ writing_code c → a ≡ c
text_code_tells = writing_code_tells image_of image_short

pub names_code_tells : (text room after text' room' after' : List ℕ) (a c : Writing)
    → Writes name_lines text room a after → Writes name_lines text' room' c after' → writing_code a ≡ writing_code c → a ≡ c
names_code_tells = writing_code_tells name_lines lines_short
