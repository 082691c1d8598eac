-- The joiner's laws: its promise fixes the result, and says the same as the words of sets.
-- Assumes nothing.
use Rattle.std.specs.Prelude.{◌≡◌, refl, Bool, true, false, ◌||◌, ◌⊎◌, List, [], ◌∷◌, ◌++◌, ℕ, ◌≤◌, ◌<◌, ltb, length, Result, Ok, Err}
use Rattle.std.proofs.Common.{sym, ap, subst, ◌∙◌, inl, inr, ⊎_elim}
use borrow.Author.Tests.{ltb-true, ltb-false, lt-ltb, le-ltb}
use Rattle.std.specs.Int.Count.{ones}
use Rattle.base.specs.paper.Order
use Rattle.base.specs.paper.Least
use Rattle.base.specs.Bools.{clash, decide, either, either_left, either_right}
use Rattle.base.specs.paper.Lists.{◌∈◌}
use Rattle.base.specs.Lists.{∈_left, ∈_right, ∈_split}
use Rattle.sets.specs.paper.Sets.{Proper}
use Rattle.sets.specs.paper.Kept.{sort, longest}
use Rattle.sets.specs.KeptLaws.{Keeps, keeps_members, keeps_once, smallest_keeps, smallest_proper, sort_members, sort_ordered, ordered_once, ordered_unique}
use Rattle.image.specs.declared.refusals.Refusal.{Refusal}
use Rattle.image.specs.RefusalLaws.{number_tells}
use Rattle.joiner.specs.paper.Join.{Joined, joined, joint, Ending, too_long, no_room, result, long, ending, answer_of, entries_of, Joins, Either, Joint, Long, Outcome, refused20, refused31, counted}

-- Two results that meet it are equal.
pub joins_unique : {left right out : List ℕ} {r s : Joined} {a b : List ℕ} → Joins left right out r a → Joins left right out s b → (r ≡ s) × (a ≡ b)
joins_unique p q = (p.answer ∙ sym q.answer, p.sets ∙ sym q.sets)

-- The answers tell the results apart, so two results of the code that meet it are equal too.
pub joined_tells : (r s : Result ℕ Refusal) → joined r ≡ joined s → r ≡ s
joined_tells (Ok m) (Ok n) e = cc
joined_tells (Ok m) (Err b) e = cc
joined_tells (Err a) (Ok n) e = cc
joined_tells (Err a) (Err b) e = ap Err (number_tells a b (cc))

pub results_unique : {left right out : List ℕ} {r s : Result ℕ Refusal} {a b : List ℕ} → Joins left right out (joined r) a → Joins left right out (joined s) b
    → (r ≡ s) × (a ≡ b)
results_unique {r = r} {s = s} p q = let same = joins_unique p q in (joined_tells r s same.0, same.1)

-- A result meets it by the way it ends.
pub joins_by : {left right out : List ℕ} {r : Joined} {after : List ℕ} (e : Ending) → ending left right (length out) ≡ e
    → r ≡ answer_of e → after ≡ entries_of e out → Joins left right out r after
joins_by {out = out} e h a s = record {
  answer = a ∙ sym (ap answer_of h);
  sets = s ∙ sym (ap (λ (x : Ending). entries_of x out) h);
}

-- The smallest sets of both lists, in order, are what the words name,
pub keeps_joint : (left right : List ℕ) {kept : List ℕ} → Keeps (λ s. s ∈ left ++ right) kept → Joint left right (sort kept)
keeps_joint left right {kept} k = record {
  members = λ s. (λ m. to s ((sort_members kept s).0 m), λ w. (sort_members kept s).1 (back s w));
  once = ordered_once (sort kept) (sort_ordered kept (keeps_once k));
  ordered = sort_ordered kept (keeps_once k);
}
  where
    join_either : {s : ℕ} → Either left right s → s ∈ left ++ right
    join_either (inl m) = ∈_left right m
    join_either (inr m) = ∈_right left m

    to : (s : ℕ) → s ∈ kept → Either left right s × ((t : ℕ) → Either left right t → Proper t s → ⊥)
    to s m =
        let w = (smallest_proper (λ x. x ∈ left ++ right) s).0 ((keeps_members k s).0 m) in
        (∈_split left w.0, λ t e. w.1 t (join_either e))

    back : (s : ℕ) → Either left right s × ((t : ℕ) → Either left right t → Proper t s → ⊥) → s ∈ kept
    back s w =
        (keeps_members k s).1 ((smallest_proper (λ x. x ∈ left ++ right) s).1 (join_either w.0, λ t e. w.1 t (∈_split left e)))

pub joint_is : (left right : List ℕ) → Joint left right (joint left right)
unfolding joint
joint_is left right = keeps_joint left right (smallest_keeps (left ++ right))

-- and the only such list.
pub joint_unique : {left right l m : List ℕ} → Joint left right l → Joint left right m → l ≡ m
joint_unique {l = l} {m = m} p q =
    ordered_unique l m p.ordered q.ordered (λ s. (λ i. (q.members s).1 ((p.members s).0 i), λ i. (p.members s).1 ((q.members s).0 i)))

-- So in whatever way they are kept, in order they are the result.
pub keeps_result : (left right : List ℕ) {kept : List ℕ} → Keeps (λ s. s ∈ left ++ right) kept → sort kept ≡ joint left right
keeps_result left right k = joint_unique (keeps_joint left right k) (joint_is left right)

long_test : (left right out : List ℕ) → Long left right out → (long (length left) || (long (length right) || long (length out))) ≡ true
long_test left right out (inl h) = either_left (long (length left)) (long (length right) || long (length out)) (lt-ltb longest (length left) h)
long_test left right out (inr (inl h)) =
    either_right (long (length left)) (long (length right) || long (length out)) (either_left (long (length right)) (long (length out)) (lt-ltb longest (length right) h))
long_test left right out (inr (inr h)) =
    either_right (long (length left)) (long (length right) || long (length out)) (either_right (long (length right)) (long (length out)) (lt-ltb longest (length out) h))

test_long : (left right out : List ℕ) → (long (length left) || (long (length right) || long (length out))) ≡ true → Long left right out
test_long left right out h =
    ⊎_elim
    (λ (t : long (length left) ≡ true). inl (ltb-true longest (length left) t))
    (λ (t : (long (length right) || long (length out)) ≡ true).
    inr
    (⊎_elim
    (λ (u : long (length right) ≡ true). inl (ltb-true longest (length right) u))
    (λ (u : long (length out) ≡ true). inr (ltb-true longest (length out) u))
    (either (long (length right)) (long (length out)) t)))
    (either (long (length left)) (long (length right) || long (length out)) h)

test_false : {t : Bool} → (t ≡ true → ⊥) → t ≡ false
test_false {t = true} f = absurd (f refl)
test_false {t = false} f = refl

-- which ending it is
pub ending_long : (left right out : List ℕ) → Long left right out → ending left right (length out) ≡ too_long
unfolding ending
ending_long left right out h = rw (long_test left right out h)

module _ (left right out : List ℕ) (fits : Long left right out → ⊥) where
  short : (long (length left) || (long (length right) || long (length out))) ≡ false
  short = test_false (λ t. fits (test_long left right out t))

  pub ending_full : length out < length (joint left right) → ending left right (length out) ≡ no_room
  unfolding ending
  ending_full h = rw (short, lt-ltb (length out) (length (joint left right)) h)

  pub ending_result : length (joint left right) ≤ length out → ending left right (length out) ≡ result (joint left right)
  unfolding ending
  ending_result h = rw (short, le-ltb (length out) (length (joint left right)) h)

-- The promise and the words say the same.
pub joins_outcome : {left right out : List ℕ} {r : Joined} {after : List ℕ} → Joins left right out r after → Outcome left right out r after
joins_outcome {left} {right} {out} {r} {after} p =
    go (decide (long (length left) || (long (length right) || long (length out)))) (decide (ltb (length out) (length (joint left right))))
  where
    ends : (e : Ending) → ending left right (length out) ≡ e → (r ≡ answer_of e) × (after ≡ entries_of e out)
    ends e h = (p.answer ∙ ap answer_of h, p.sets ∙ ap (λ (x : Ending). entries_of x out) h)

    go : ((long (length left) || (long (length right) || long (length out))) ≡ true) ⊎ ((long (length left) || (long (length right) || long (length out))) ≡ false)
        → (ltb (length out) (length (joint left right)) ≡ true) ⊎ (ltb (length out) (length (joint left right)) ≡ false) → Outcome left right out r after
    go (inl t) w =
        let e = ends too_long (ending_long left right out (test_long left right out t)) in
        refused20 (test_long left right out t) e.0 e.1
    go (inr t) (inl w) =
        let fits : Long left right out → ⊥ = λ h. clash (long_test left right out h) t in
        let more : length out < length (joint left right) = ltb-true (length out) (length (joint left right)) w in
        let e = ends no_room (ending_full left right out fits more) in
        refused31 (joint left right) fits (joint_is left right) more e.0 e.1
    go (inr t) (inr w) =
        let fits : Long left right out → ⊥ = λ h. clash (long_test left right out h) t in
        let room : length (joint left right) ≤ length out = ltb-false (length out) (length (joint left right)) w in
        let e = ends (result (joint left right)) (ending_result left right out fits room) in
        counted (joint left right) fits (joint_is left right) room e.0 e.1

pub outcome_joins : {left right out : List ℕ} {r : Joined} {after : List ℕ} → Outcome left right out r after → Joins left right out r after
outcome_joins {left} {right} {out} (refused20 h a s) = joins_by too_long (ending_long left right out h) a s
outcome_joins {left} {right} {out} (refused31 l fits j more a s) =
    joins_by no_room (ending_full left right out fits (subst (λ (m : List ℕ). length out < length m) (joint_unique j (joint_is left right)) more)) a s
outcome_joins {left} {right} {out} (counted l fits j room a s) =
    let same : l ≡ joint left right = joint_unique j (joint_is left right) in
    joins_by (result l) (ending_result left right out fits (subst (λ (m : List ℕ). length m ≤ length out) same room) ∙ ap result (sym same)) a s

-- {0,1,2} and {2} joined with {0,1} and {2}: {2} before {0,1}, where there is room for two
two_lists : (ending (7 ∷ 4 ∷ []) (3 ∷ 4 ∷ []) 2 ≡ result (4 ∷ 3 ∷ [])) × (ending (7 ∷ 4 ∷ []) (3 ∷ 4 ∷ []) 1 ≡ no_room)
unfolding ending joint Order.sort Order.place Least.smallest Least.insert ones
two_lists = (refl, refl)
