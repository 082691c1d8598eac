-- The verdicts one after the other: how they end, what they leave sorted, and that this is so by the meaning where each verdict is.
-- Assumes nothing.
use Rattle.std.specs.Prelude.{ℕ, zero, suc, ◌+◌, ◌-◌, ◌^◌, ◌≤◌, ◌<◌, Bool, ◌||◌, ◌⊎◌, eqb}
use native.Mathlib.Omega.{arith}
use Rattle.std.proofs.Math.Path.{◌≡◌, refl, ap, subst}
use Rattle.std.proofs.Common.{sym, ◌∙◌, inl, inr, eqb-true, eq-eqb}
use Rattle.std.proofs.Math.Bool.{true, false}
use Rattle.std.proofs.Math.Logic.{⊎_elim}
use mathlib.Core.List.Memᴰ
use mathlib.Core.List.{List, [], ◌∷◌}
use Rattle.std.proofs.lemmas.Bool.{eqb-false}
use Rattle.base.specs.paper.Bools.{choose}
use Rattle.base.specs.Bools.{clash, decide, either, either_left, either_right}
use Rattle.base.specs.paper.Lists.{◌∈◌, any}
use Rattle.base.specs.Lists.{here, there, any_some, some_any}
use Rattle.base.specs.Parts.{filter_has, filter_from}
use Rattle.base.specs.paper.Members.{has}
use Rattle.image.specs.paper.Book.{Book}
use Rattle.image.specs.paper.Faults.{limits}
use Rattle.sets.specs.SetLaws.{within_has, same_members}
use Rattle.sets.specs.Bits.{has_none, has_one, has_or}
use Rattle.engine.specs.paper.Verdict.{Verdict, Unexplained, Needed, Possible, RuledOut, Broken, Refused}
use Rattle.engine.specs.paper.Verdict.{Says, Refusal}
use Rattle.cleaner.specs.declared.Sorted.{Sorted}
use Rattle.cleaner.specs.paper.Cleaning as paper
use Rattle.cleaner.specs.paper.Cleaning.{numbers_from, ascending, unsorted, with, with_unexplained, with_needed, with_possible, with_ruled_out, Noted, sorted, number, noted, turned, all_sorted, stopped, after, in_turn, Means}

-- ---- the hypotheses of a set

pub numbers_next : (at n : ℕ) → at < n → numbers_from at (n - at) ≡ at ∷ numbers_from (suc at) (n - suc at)
unfolding numbers_from
numbers_next at n h = let e : n - at ≡ suc (n - suc at) = omega arith in ap (numbers_from at) e

numbers_have : (at n x : ℕ) → at ≤ x → x < at + n → x ∈ numbers_from at n
unfolding numbers_from
numbers_have at zero x p q = absurd (omega arith)
numbers_have at (suc n) x p q =
    ⊎_elim (λ (e : eqb at x ≡ true). subst (λ (y : ℕ). y ∈ at ∷ numbers_from (suc at) n) (eqb-true at x e) here)
    (λ (e : eqb at x ≡ false). there (numbers_have (suc at) n x (omega (arith, p, eqb-false at x e)) (omega arith)))
    (decide (eqb at x))

module _ (hypotheses : ℕ) where
  pub ascending_member : {h : ℕ} → h ∈ ascending hypotheses → has hypotheses h ≡ true
  unfolding ascending
  ascending_member m = (filter_from (has hypotheses) (numbers_from 0 limits.abducibles) m).1

  pub member_ascending : {h : ℕ} → h < limits.abducibles → has hypotheses h ≡ true → h ∈ ascending hypotheses
  unfolding ascending
  member_ascending {h} p e = filter_has (has hypotheses) (numbers_from 0 limits.abducibles) (numbers_have 0 limits.abducibles h (omega arith) (omega arith)) e

  -- a set that is not empty has a first one
  pub some_member : 0 < hypotheses → (k : ℕ) → hypotheses < 2 ^ k → k ≤ limits.abducibles → (h : ℕ) × (h ∈ ascending hypotheses)
  unfolding ascending
  some_member p k q few =
      ⊎_elim
      (λ (t : any (has hypotheses) (numbers_from 0 limits.abducibles) ≡ true).
      let w = any_some (has hypotheses) (numbers_from 0 limits.abducibles) t in
      (w.0, filter_has (has hypotheses) (numbers_from 0 limits.abducibles) w.1 w.2))
      (λ (t : any (has hypotheses) (numbers_from 0 limits.abducibles) ≡ false). absurd (omega (arith, p, empty t)))
      (decide (any (has hypotheses) (numbers_from 0 limits.abducibles)))
    where
      none : any (has hypotheses) (numbers_from 0 limits.abducibles) ≡ false → (j : ℕ) → (t : Bool) → has hypotheses j ≡ t → t ≡ false
      none f j false e = refl
      none f j true e =
          let small : j < k = within_has hypotheses k q j e in
          clash (some_any (has hypotheses) (numbers_from 0 limits.abducibles) (j, numbers_have 0 limits.abducibles j (omega arith) (omega arith), e)) f

      empty : any (has hypotheses) (numbers_from 0 limits.abducibles) ≡ false → hypotheses ≡ 0
      empty f = same_members hypotheses 0 (λ j. none f j (has hypotheses j) refl ∙ sym (has_none j))

-- ---- one verdict

pub noted_verdict : (h : ℕ) (v : Verdict) (s t : Sorted) → noted h v s ≡ sorted t → Refusal v → ⊥
noted_verdict h (Unexplained n) s t e r = r
noted_verdict h (Needed n) s t e r = r
noted_verdict h (Possible n) s t e r = r
noted_verdict h (RuledOut n) s t e r = r
noted_verdict h (Broken n at) s t e r = cc
noted_verdict h (Refused n m) s t e r = cc

-- a refusal does not depend on what is sorted already
noted_number : (h : ℕ) (v : Verdict) (s : Sorted) (n : ℕ) → noted h v s ≡ number n → (t : Sorted) → noted h v t ≡ number n
noted_number h (Unexplained m) s n e t = cc
noted_number h (Needed m) s n e t = cc
noted_number h (Possible m) s n e t = cc
noted_number h (RuledOut m) s n e t = cc
noted_number h (Broken m at) s n e t = e
noted_number h (Refused m k) s n e t = e

-- ---- how they end

module _ (verdict : ℕ → Verdict) where
  -- after all, the last one's was no refusal
  pub ends_sorted : (hs : List ℕ) (last h : ℕ) (s : Sorted) (k : ℕ) (t : Sorted) → in_turn verdict last (h ∷ hs) s ≡ all_sorted k t
      → (k ∈ h ∷ hs) × (Refusal (verdict k) → ⊥)
  unfolding in_turn
  ends_sorted [] last h s k t e = go (noted h (verdict h) s) refl e
    where
      go : (x : Noted) → noted h (verdict h) s ≡ x → after x (in_turn verdict h []) (stopped h) ≡ all_sorted k t → (k ∈ h ∷ []) × (Refusal (verdict k) → ⊥)
      go (sorted u) q e =
          let is : h ≡ k = cc in
          subst (λ (j : ℕ). (j ∈ h ∷ []) × (Refusal (verdict j) → ⊥)) is (here, noted_verdict h (verdict h) s u q)
      go (number n) q e = cc
  ends_sorted (g ∷ gs) last h s k t e = go (λ u i. ends_sorted gs h g u k t i) (noted h (verdict h) s) e
    where
      go : ((u : Sorted) → in_turn verdict h (g ∷ gs) u ≡ all_sorted k t → (k ∈ g ∷ gs) × (Refusal (verdict k) → ⊥))
          → (x : Noted) → after x (in_turn verdict h (g ∷ gs)) (stopped h) ≡ all_sorted k t → (k ∈ h ∷ g ∷ gs) × (Refusal (verdict k) → ⊥)
      go rest (sorted u) e = let w = rest u e in (there w.0, w.1)
      go rest (number n) e = cc

  -- at a refusal
  pub ends_stopped : (hs : List ℕ) (last : ℕ) (s : Sorted) (k n : ℕ) → in_turn verdict last hs s ≡ stopped k n
      → (k ∈ hs) × ((t : Sorted) → noted k (verdict k) t ≡ number n)
  unfolding in_turn
  ends_stopped [] last s k n e = cc
  ends_stopped (h ∷ hs) last s k n e = go (λ u i. ends_stopped hs h u k n i) (noted h (verdict h) s) refl e
    where
      go : ((u : Sorted) → in_turn verdict h hs u ≡ stopped k n → (k ∈ hs) × ((t : Sorted) → noted k (verdict k) t ≡ number n))
          → (x : Noted) → noted h (verdict h) s ≡ x → after x (in_turn verdict h hs) (stopped h) ≡ stopped k n → (k ∈ h ∷ hs) × ((t : Sorted) → noted k (verdict k) t ≡ number n)
      go rest (sorted u) q e = let w = rest u e in (there w.0, w.1)
      go rest (number m) q e =
          let is : h ≡ k = cc in
          let many : m ≡ n = cc in
          subst (λ (j : ℕ). (j ∈ h ∷ hs) × ((t : Sorted) → noted j (verdict j) t ≡ number n)) is (here, noted_number h (verdict h) s n (q ∙ ap number many))

  -- never turned away
  pub never_turned : (hs : List ℕ) (last : ℕ) (s : Sorted) (n : ℕ) → in_turn verdict last hs s ≡ turned n → ⊥
  unfolding in_turn
  never_turned [] last s n e = cc
  never_turned (h ∷ hs) last s n e = go (λ u. never_turned hs h u n) (noted h (verdict h) s) e
    where
      go : ((u : Sorted) → in_turn verdict h hs u ≡ turned n → ⊥) → (x : Noted) → after x (in_turn verdict h hs) (stopped h) ≡ turned n → ⊥
      go rest (sorted u) e = rest u e
      go rest (number m) e = cc

  -- what each verdict keeps is so in the end
  pub in_turn_keeps : (P : Sorted → Type 0) (hs : List ℕ) → ((h : ℕ) → h ∈ hs → (s t : Sorted) → noted h (verdict h) s ≡ sorted t → P s → P t)
      → (last : ℕ) (s : Sorted) (k : ℕ) (t : Sorted) → in_turn verdict last hs s ≡ all_sorted k t → P s → P t
  unfolding in_turn
  in_turn_keeps P [] step last s k t e p = let is : s ≡ t = cc in subst P is p
  in_turn_keeps P (h ∷ hs) step last s k t e p = go (λ u i. in_turn_keeps P hs (λ g m. step g (there m)) h u k t i) (noted h (verdict h) s) refl e
    where
      go : ((u : Sorted) → in_turn verdict h hs u ≡ all_sorted k t → P u → P t)
          → (x : Noted) → noted h (verdict h) s ≡ x → after x (in_turn verdict h hs) (stopped h) ≡ all_sorted k t → P t
      go rest (sorted u) q e = rest u e (step h here s u q p)
      go rest (number n) q e = cc

-- verdicts that are the same end the same
pub in_turn_same : (v w : ℕ → Verdict) (hs : List ℕ) → ((h : ℕ) → h ∈ hs → v h ≡ w h) → (last : ℕ) (s : Sorted) → in_turn v last hs s ≡ in_turn w last hs s
unfolding in_turn
in_turn_same v w [] same last s = refl
in_turn_same v w (h ∷ hs) same last s =
    ap (λ (x : Verdict). after (noted h x s) (in_turn v h hs) (stopped h)) (same h here)
    ∙ go (in_turn_same v w hs (λ g m. same g (there m)) h) (noted h (w h) s)
  where
    go : ((u : Sorted) → in_turn v h hs u ≡ in_turn w h hs u) → (x : Noted) → after x (in_turn v h hs) (stopped h) ≡ after x (in_turn w h hs) (stopped h)
    go rest (sorted u) = rest u
    go rest (number n) = refl

-- ---- what is sorted

with_has : (h set j : ℕ) → has (with h set) j ≡ (eqb h j || has set j)
with_has h set j = has_or (2 ^ h) set j ∙ ap (λ (t : Bool). t || has set j) (has_one h j)

-- a member of a set with h is h, or was a member
module _ (X : ℕ → Type 0) (h set j : ℕ) where
  added : X h → (has set j ≡ true → X j) → has (with h set) j ≡ true → X j
  added x old e =
      ⊎_elim (λ (i : eqb h j ≡ true). subst X (eqb-true h j i) x) old (either (eqb h j) (has set j) (sym (with_has h set j) ∙ e))

-- what the four sets say of every hypothesis is so
pub record Right (b : Book) (s : Sorted) (j : ℕ) : Type 0 where
  pub unexplained : has s.unexplained j ≡ true → Says b j (Unexplained 0)
  pub needed : has s.needed j ≡ true → Says b j (Needed 0)
  pub possible : has s.possible j ≡ true → Says b j (Possible 0)
  pub ruled_out : has s.excluded j ≡ true → Says b j (RuledOut 0)

module _ (b : Book) where
  noted_right : (h : ℕ) (v : Verdict) → Says b h v → (s t : Sorted) → noted h v s ≡ sorted t → ((j : ℕ) → Right b s j) → (j : ℕ) → Right b t j
  noted_right h (Unexplained n) says s t e old j =
      let is : with_unexplained h s ≡ t = cc in
      subst (λ (u : Sorted). Right b u j) is
      (record {
        unexplained = added (λ i. Says b i (Unexplained 0)) h s.unexplained j says (old j).unexplained;
        needed = (old j).needed;
        possible = (old j).possible;
        ruled_out = (old j).ruled_out;
      })
  noted_right h (Needed n) says s t e old j =
      let is : with_needed h s ≡ t = cc in
      subst (λ (u : Sorted). Right b u j) is
      (record {
        unexplained = (old j).unexplained;
        needed = added (λ i. Says b i (Needed 0)) h s.needed j says (old j).needed;
        possible = (old j).possible;
        ruled_out = (old j).ruled_out;
      })
  noted_right h (Possible n) says s t e old j =
      let is : with_possible h s ≡ t = cc in
      subst (λ (u : Sorted). Right b u j) is
      (record {
        unexplained = (old j).unexplained;
        needed = (old j).needed;
        possible = added (λ i. Says b i (Possible 0)) h s.possible j says (old j).possible;
        ruled_out = (old j).ruled_out;
      })
  noted_right h (RuledOut n) says s t e old j =
      let is : with_ruled_out h s ≡ t = cc in
      subst (λ (u : Sorted). Right b u j) is
      (record {
        unexplained = (old j).unexplained;
        needed = (old j).needed;
        possible = (old j).possible;
        ruled_out = added (λ i. Says b i (RuledOut 0)) h s.excluded j says (old j).ruled_out;
      })
  noted_right h (Broken n at) says s t e old j = absurd says
  noted_right h (Refused n m) says s t e old j = absurd says

-- nothing is sorted at first
none_right : (b : Book) (j : ℕ) → Right b unsorted j
none_right b j =
    record {
      unexplained = λ e. clash e (has_none j);
      needed = λ e. clash e (has_none j);
      possible = λ e. clash e (has_none j);
      ruled_out = λ e. clash e (has_none j);
    }

-- a hypothesis is in one of the four sets
abbrev pub Covered : Sorted → ℕ → Type 0
Covered s j = (has s.unexplained j || (has s.needed j || (has s.possible j || has s.excluded j))) ≡ true

or_left : (a a' r : Bool) → (a ≡ true → a' ≡ true) → (a || r) ≡ true → (a' || r) ≡ true
or_left a a' r f e = ⊎_elim (λ (t : a ≡ true). either_left a' r (f t)) (λ (t : r ≡ true). either_right a' r t) (either a r e)

or_right : (a r r' : Bool) → (r ≡ true → r' ≡ true) → (a || r) ≡ true → (a || r') ≡ true
or_right a r r' f e = ⊎_elim (λ (t : a ≡ true). either_left a r' t) (λ (t : r ≡ true). either_right a r' (f t)) (either a r e)

-- a member stays, and the new one is there
stays : (h set j : ℕ) → has set j ≡ true → has (with h set) j ≡ true
stays h set j e = with_has h set j ∙ either_right (eqb h j) (has set j) e

is_there : (h set : ℕ) → has (with h set) h ≡ true
is_there h set = with_has h set h ∙ either_left (eqb h h) (has set h) (eq-eqb h h refl)

-- as a test of the four sets, each of which may grow
covered_more : (s t : Sorted) (j : ℕ) → (has s.unexplained j ≡ true → has t.unexplained j ≡ true) → (has s.needed j ≡ true → has t.needed j ≡ true)
    → (has s.possible j ≡ true → has t.possible j ≡ true) → (has s.excluded j ≡ true → has t.excluded j ≡ true) → Covered s j → Covered t j
covered_more s t j f g h k c =
    let u : Bool = has s.unexplained j in
    let n : Bool = has s.needed j in
    let p : Bool = has s.possible j in
    let u' : Bool = has t.unexplained j in
    let n' : Bool = has t.needed j in
    let p' : Bool = has t.possible j in
    let x : Bool = has s.excluded j in
    let x' : Bool = has t.excluded j in
    or_left u u' (n' || (p' || x')) f
    (or_right u (n || (p || x)) (n' || (p' || x')) (λ e. or_left n n' (p' || x') g (or_right n (p || x) (p' || x') (λ i. or_left p p' x' h (or_right p x x' k i)) e)) c)

noted_stays : (h : ℕ) (v : Verdict) (s t : Sorted) → noted h v s ≡ sorted t → (j : ℕ) → Covered s j → Covered t j
noted_stays h (Unexplained n) s t e j c =
    let is : with_unexplained h s ≡ t = cc in
    subst (λ (u : Sorted). Covered u j) is (covered_more s (with_unexplained h s) j (stays h s.unexplained j) (λ m. m) (λ m. m) (λ m. m) c)
noted_stays h (Needed n) s t e j c =
    let is : with_needed h s ≡ t = cc in
    subst (λ (u : Sorted). Covered u j) is (covered_more s (with_needed h s) j (λ m. m) (stays h s.needed j) (λ m. m) (λ m. m) c)
noted_stays h (Possible n) s t e j c =
    let is : with_possible h s ≡ t = cc in
    subst (λ (u : Sorted). Covered u j) is (covered_more s (with_possible h s) j (λ m. m) (λ m. m) (stays h s.possible j) (λ m. m) c)
noted_stays h (RuledOut n) s t e j c =
    let is : with_ruled_out h s ≡ t = cc in
    subst (λ (u : Sorted). Covered u j) is (covered_more s (with_ruled_out h s) j (λ m. m) (λ m. m) (λ m. m) (stays h s.excluded j) c)
noted_stays h (Broken n at) s t e j c = cc
noted_stays h (Refused n m) s t e j c = cc

noted_covers : (h : ℕ) (v : Verdict) (s t : Sorted) → noted h v s ≡ sorted t → Covered t h
noted_covers h v s t e = go v e
  where
    go : (v : Verdict) → noted h v s ≡ sorted t → (has t.unexplained h || (has t.needed h || (has t.possible h || has t.excluded h))) ≡ true
    go (Unexplained m) e =
        let is : with_unexplained h s ≡ t = cc in
        either_left (has t.unexplained h) (has t.needed h || (has t.possible h || has t.excluded h))
        (subst (λ (y : Sorted). has y.unexplained h ≡ true) is (is_there h s.unexplained))
    go (Needed m) e =
        let is : with_needed h s ≡ t = cc in
        either_right (has t.unexplained h) (has t.needed h || (has t.possible h || has t.excluded h))
        (either_left (has t.needed h) (has t.possible h || has t.excluded h) (subst (λ (y : Sorted). has y.needed h ≡ true) is (is_there h s.needed)))
    go (Possible m) e =
        let is : with_possible h s ≡ t = cc in
        either_right (has t.unexplained h) (has t.needed h || (has t.possible h || has t.excluded h))
        (either_right (has t.needed h) (has t.possible h || has t.excluded h)
        (either_left (has t.possible h) (has t.excluded h) (subst (λ (y : Sorted). has y.possible h ≡ true) is (is_there h s.possible))))
    go (RuledOut m) e =
        let is : with_ruled_out h s ≡ t = cc in
        either_right (has t.unexplained h) (has t.needed h || (has t.possible h || has t.excluded h))
        (either_right (has t.needed h) (has t.possible h || has t.excluded h)
        (either_right (has t.possible h) (has t.excluded h) (subst (λ (y : Sorted). has y.excluded h ≡ true) is (is_there h s.excluded))))
    go (Broken m at) e = cc
    go (Refused m k) e = cc

module _ (verdict : ℕ → Verdict) where
  -- in the end each hypothesis is in one of the four
  covers : (hs : List ℕ) (last : ℕ) (s : Sorted) (k : ℕ) (t : Sorted) → in_turn verdict last hs s ≡ all_sorted k t → (j : ℕ) → j ∈ hs → Covered t j
  unfolding in_turn
  covers [] last s k t e j m = absurd (Memᴰ.not-nil m)
  covers (h ∷ hs) last s k t e j m = go (λ u i. covers hs h u k t i j) (noted h (verdict h) s) refl e (Memᴰ.cases_cons m)
    where
      keep : (u : Sorted) → in_turn verdict h hs u ≡ all_sorted k t → Covered u j → Covered t j
      keep u i = in_turn_keeps verdict (λ (x : Sorted). Covered x j) hs (λ g n x y q. noted_stays g (verdict g) x y q j) h u k t i

      go : ((u : Sorted) → in_turn verdict h hs u ≡ all_sorted k t → j ∈ hs → Covered t j)
          → (x : Noted) → noted h (verdict h) s ≡ x → after x (in_turn verdict h hs) (stopped h) ≡ all_sorted k t → (j ≡ h) ⊎ (j ∈ hs) → Covered t j
      go rest (sorted u) q e (inl i) = keep u e (subst (Covered u) (sym i) (noted_covers h (verdict h) s u q))
      go rest (sorted u) q e (inr n) = rest u e n
      go rest (number n) q e c = cc

-- ---- by the meaning

module _ (b : Book) (hypotheses : ℕ) (some : 0 < hypotheses) (named : hypotheses < 2 ^ b.abducibles) (few : b.abducibles ≤ limits.abducibles) (verdict : ℕ → Verdict)
    (says : (h : ℕ) → h < b.abducibles → (Refusal (verdict h) → ⊥) → Says b h (verdict h)) where
  -- the four sets say what is so
  right : (last k : ℕ) (t : Sorted) → in_turn verdict last (ascending hypotheses) unsorted ≡ all_sorted k t → (j : ℕ) → Right b t j
  right last k t e =
      in_turn_keeps verdict (λ (s : Sorted). (j : ℕ) → Right b s j) (ascending hypotheses)
      (λ h m s u q. noted_right b h (verdict h) (says h (within_has hypotheses b.abducibles named h (ascending_member hypotheses m)) (noted_verdict h (verdict h) s u q)) s u q)
      last unsorted k t e (none_right b)

  pub sorted_means : (last k : ℕ) (t : Sorted) → in_turn verdict last (ascending hypotheses) unsorted ≡ all_sorted k t
      → Means b hypotheses (choose (eqb t.excluded hypotheses) paper.Deleted (paper.Held t))
  sorted_means last k t e = go (eqb t.excluded hypotheses) refl
    where
      one : (h : ℕ) × (h ∈ ascending hypotheses)
      one = some_member hypotheses some b.abducibles named few

      out : t.excluded ≡ hypotheses → (h : ℕ) → has hypotheses h ≡ true → Says b h (RuledOut 0)
      out i h m = (right last k t e h).ruled_out (ap (λ (d : ℕ). has d h) i ∙ m)

      go : (x : Bool) → eqb t.excluded hypotheses ≡ x → Means b hypotheses (choose x paper.Deleted (paper.Held t))
      go true q =
          let i : t.excluded ≡ hypotheses = eqb-true t.excluded hypotheses q in
          ((out i one.0 (ascending_member hypotheses one.1)).0, λ h m. (out i h m).1)
      go false q =
          λ h m.
          let r = right last k t e h in
          let small : h < b.abducibles = within_has hypotheses b.abducibles named h m in
          record {
            unexplained = r.unexplained;
            needed = r.needed;
            possible = r.possible;
            ruled_out = r.ruled_out;
            some = covers verdict (ascending hypotheses) last unsorted k t e h (member_ascending hypotheses (omega arith) m);
          }
