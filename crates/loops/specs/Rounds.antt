-- The rounds of the loop check. What is held after n rounds is pending after as many; a late atom that depends on itself is never let go.
-- Assumes nothing.
use Prim.Native.Nat.{ℕ, zero, suc, ◌+◌, ◌≤◌, ◌<◌}
use Rattle.std.specs.Prelude.{◌≡◌, Bool, false, ◌⊎◌, eqb}
use Rattle.std.proofs.Math.Path.{refl, sym, subst}
use Rattle.std.proofs.Common.{◌∙◌, inr, add-one, arith, eqb-true}
use Rattle.std.proofs.Math.Bool.{true}
use Rattle.std.proofs.Math.Logic.{inl, ⊎_elim}
use mathlib.Core.List.Memᴰ
use mathlib.Core.List.{List, [], ◌∷◌}
use Rattle.base.specs.paper.Bools.{choose}
use Rattle.base.specs.Bools.{decide, clash, choose_true, choose_false, either}
use Rattle.base.specs.paper.Lists.{◌∈◌, Every}
use Rattle.base.specs.Lists.{any_some, every_first, every_rest}
use Rattle.image.specs.paper.Book.{Lit, Clause}
use Rattle.image.specs.paper.Loops.{Depends, pending, quiet, loop_free}
use Rattle.image.specs.LoopLaws.{quiet_none}
use Rattle.image.proofs.LoopLaws.{pending_more, pending_from, pending_less, loopless_free}
use Rattle.loops.specs.Records.{Known}
use Rattle.loops.specs.Naming.{names_marked, unmarked, adding, added, adding_keeps, names_marked_lem}
use Rattle.loops.specs.Order.{Looping, own, Late, over, next, late_free, descends, descends_free}

-- The marks behind a round: of the held heads, those of clauses that name a held atom, or another head of such a clause before. `all` has both, and `left`
-- the held heads so far.
unfoldable pub round : List Clause → (ℕ → Bool) → (ℕ → Bool) → (ℕ → Bool) → ℕ → Bool
round [] held all left = left
round (c ∷ cs) held all left =
    choose (names_marked all c) (choose (held c.head) (round cs held all (adding c.head left)) (round cs held (adding c.head all) left))
    (round cs held all left)

-- each marked atom is among others
abbrev Inside : (ℕ → Bool) → (ℕ → Bool) → Type 0
Inside f g = (q : ℕ) → f q ≡ true → g q ≡ true

adding_inside : (a : ℕ) (f g : ℕ → Bool) → g a ≡ true → Inside f g → Inside (adding a f) g
adding_inside a f g h i q k = ⊎_elim (λ e. subst (λ (x : ℕ). g x ≡ true) (eqb-true a q e) h) (λ e. i q e) (either (eqb a q) (f q) k)

module _ (cs : List Clause) (held : ℕ → Bool) where
  -- what a round leaves is pending one round longer
  round_pending : (n : ℕ) → Inside held (pending cs n) → Inside (round cs held held unmarked) (pending cs (suc n))
  unfolding round
  round_pending n h = go cs (λ c m. m) held unmarked h (λ q e. clash e refl)
    where
      go : (rest : List Clause) → Every (λ (c : Clause). c ∈ cs) rest → (all left : ℕ → Bool) → Inside all (pending cs n) → Inside left (pending cs (suc n))
          → Inside (round rest held all left) (pending cs (suc n))
      go [] m all left a l q = l q
      go (c ∷ rest) m all left a l q = pick (λ f g i j. go rest (every_rest m) f g i j q) (names_marked all c) refl (held c.head)
        where
          up : names_marked all c ≡ true → pending cs (suc n) c.head ≡ true
          up e = let s = any_some (λ (k : Lit). all k.atom) c.body e in pending_more cs n c s.0 (every_first m) s.1 (a s.0.atom s.2)

          pick : ((f g : ℕ → Bool) → Inside f (pending cs n) → Inside g (pending cs (suc n)) → round rest held f g q ≡ true → pending cs (suc n) q ≡ true)
              → (t : Bool) → names_marked all c ≡ t → (s : Bool)
              → choose t (choose s (round rest held all (adding c.head left)) (round rest held (adding c.head all) left)) (round rest held all left) q ≡ true
              → pending cs (suc n) q ≡ true
          pick later false e s = later all left a l
          pick later true e true = later all (adding c.head left) a (adding_inside c.head left (pending cs (suc n)) (up e) l)
          pick later true e false = later (adding c.head all) left (adding_inside c.head all (pending cs n) (pending_less cs n c.head (up e)) a) l

  module _ (w : ℕ → Bool) (late : Late w cs) (kept : (q : ℕ) → Depends cs q q → w q ≡ true → held q ≡ true) where
    -- the head is found to wait
    abbrev Waits : (ℕ → Bool) → (ℕ → Bool) → ℕ → Type 0
    Waits all left h = choose (held h) (left h) (all h) ≡ true

    waits_more : (all left all' left' : ℕ → Bool) → Inside all all' → Inside left left' → (h : ℕ) → Waits all left h → Waits all' left' h
    waits_more all left all' left' a l h = go (held h)
      where
        go : (t : Bool) → choose t (left h) (all h) ≡ true → choose t (left' h) (all' h) ≡ true
        go true e = l h e
        go false e = a h e

    round_keeps : (q : ℕ) → Depends cs q q → w q ≡ true → round cs held held unmarked q ≡ true
    unfolding round
    round_keeps = go cs late held unmarked (λ q h. h) (λ c k. inl k.among)
      where
        go : (rest : List Clause) → Late w rest → (all left : ℕ → Bool) → Inside held all
            → ((c : Clause) → Looping cs c → (c ∈ rest) ⊎ Waits all left c.head) → (q : ℕ) → Depends cs q q → w q ≡ true → round rest held all left q ≡ true
        go [] over all left a done q d h =
            let o = own cs d in
            ⊎_elim (λ m. absurd (Memᴰ.not-nil m))
            (λ e. sym (choose_true (left q) (all q) (kept q d h)) ∙ subst (Waits all left) o.heads e) (done o.clause o.looping)
        go (c ∷ rest) (next found behind) all left a done q d h =
            pick (λ f g i j. go rest behind f g i j q d h) (names_marked all c) refl (held c.head) refl
          where
            named : Looping cs c → names_marked all c ≡ true
            named j =
                let p : ℕ = j.lit.atom in
                let o = own cs j.loops in
                names_marked_lem all c j.lit j.within
                (⊎_elim (λ e. a p e)
                (λ e.
                ⊎_elim
                (λ m. clash (kept p j.loops (found j.lit j.within o.clause m o.looping.lit o.looping.within o.heads)) e)
                (λ k. sym (choose_false (left p) (all p) e) ∙ subst (Waits all left) o.heads k) (done o.clause o.looping)) (decide (held p)))

            -- the rest is left, and this head waits if its clause is one of a loop
            onward : (all' left' : ℕ → Bool) → Inside all all' → Inside left left' → (Looping cs c → Waits all' left' c.head)
                → (e : Clause) → Looping cs e → (e ∈ rest) ⊎ Waits all' left' e.head
            onward all' left' more more' this e j =
                ⊎_elim
                (λ m.
                ⊎_elim (λ (s : e ≡ c). inr (subst (λ (x : Clause). Waits all' left' x.head) (sym s) (this (subst (Looping cs) s j)))) (λ i. inl i)
                (Memᴰ.cases_cons m))
                (λ k. inr (waits_more all left all' left' more more' e.head k)) (done e j)

            pick : ((f g : ℕ → Bool) → Inside held f → ((e : Clause) → Looping cs e → (e ∈ rest) ⊎ Waits f g e.head) → round rest held f g q ≡ true)
                → (t : Bool) → names_marked all c ≡ t → (s : Bool) → held c.head ≡ s
                → choose t (choose s (round rest held all (adding c.head left)) (round rest held (adding c.head all) left)) (round rest held all left) q ≡ true
            pick later false e s i = later all left a (onward all left (λ p k. k) (λ p k. k) (λ j. clash (named j) e))
            pick later true e true i =
                later all (adding c.head left) a
                (onward all (adding c.head left) (λ p k. k) (adding_keeps c.head left)
                (λ j. choose_true (adding c.head left c.head) (all c.head) i ∙ added c.head left))
            pick later true e false i =
                later (adding c.head all) left (λ p k. adding_keeps c.head all p (a p k))
                (onward (adding c.head all) left (adding_keeps c.head all) (λ p k. k)
                (λ j. choose_false (left c.head) (adding c.head all c.head) i ∙ added c.head all))

-- ---- all rounds

-- what is held after n rounds, where w has the late atoms
pub record Holding (cs : List Clause) (w held : ℕ → Bool) (n : ℕ) : Type 0 where
  pub late : Late w cs
  pub kept : (q : ℕ) → Depends cs q q → w q ≡ true → held q ≡ true
  pub waits : (q : ℕ) → held q ≡ true → pending cs n q ≡ true

pub holding_start : {cs : List Clause} {w : ℕ → Bool} → Late w cs → Holding cs w w 0
unfolding pending
holding_start l = record { late = l; kept = λ q d h. h; waits = λ q h. refl }

pub holding_next : {cs : List Clause} {w held : ℕ → Bool} {n : ℕ} → Holding cs w held n → (left : ℕ → Bool) → ((q : ℕ) → left q ≡ round cs held held unmarked q)
    → Holding cs w left (n + 1)
holding_next {cs} {w} {held} {n} h left e =
    record {
      late = h.late;
      kept = λ q d k. e q ∙ round_keeps cs held w h.late h.kept q d k;
      waits = λ q k. subst (λ (m : ℕ). pending cs m q ≡ true) (sym (add-one n)) (round_pending cs held n h.waits q (sym (e q) ∙ k));
    }

-- ---- the answers

module _ (atoms : ℕ) (cs : List Clause) (known : Known atoms cs) where
  -- no atom depends on itself
  free : ((p : ℕ) → Depends cs p p → ⊥) → true ≡ quiet cs atoms atoms
  unfolding loop_free
  free none =
      sym
      (loopless_free (record { atoms = atoms; abducibles = 0; goal = []; clauses = cs; constraints = [] }) (record { heads = known.heads; bodies = known.bodies })
      none)

  pub answer_descends : descends cs unmarked ≡ true → true ≡ quiet cs atoms atoms
  answer_descends h = free (descends_free cs h)

  pub answer_none : {w held : ℕ → Bool} {n : ℕ} → Holding cs w held n → ((p : ℕ) → held p ≡ false) → true ≡ quiet cs atoms atoms
  answer_none {w} h none = free (late_free cs w h.late (λ q d k. clash (h.kept q d k) (none q)))

  -- some atom is pending at the end
  stuck : 1 ≤ atoms → (held : ℕ → Bool) → Inside held (pending cs atoms) → (((p : ℕ) → held p ≡ false) → ⊥) → false ≡ quiet cs atoms atoms
  stuck one held waits some =
      ⊎_elim
      (λ t. absurd (some (λ p. ⊎_elim (λ h. clash (waits p h) (quiet_none cs atoms atoms t p (within atoms one (waits p h)))) (λ h. h) (decide (held p)))))
      (λ t. sym t) (decide (quiet cs atoms atoms))
    where
      within : {p : ℕ} (n : ℕ) → 1 ≤ n → pending cs n p ≡ true → p < atoms
      within zero o h = absurd (omega arith)
      within {p} (suc n) o h = let k = pending_from cs n p h in subst (λ (x : ℕ). x < atoms) k.heads (known.heads k.clause k.among)

  -- g has what a round leaves of f, and that is f
  pub answer_same : 1 ≤ atoms → (f g : ℕ → Bool) → ((q : ℕ) → g q ≡ round cs f f unmarked q) → ((q : ℕ) → g q ≡ f q) → (((p : ℕ) → f p ≡ false) → ⊥)
      → false ≡ quiet cs atoms atoms
  unfolding pending
  answer_same one f g e same = stuck one f (forever atoms)
    where
      forever : (n : ℕ) → Inside f (pending cs n)
      forever zero q h = refl
      forever (suc n) q h = round_pending cs f n (forever n) q (sym (e q) ∙ same q ∙ h)

  pub answer_over : 1 ≤ atoms → {w held : ℕ → Bool} → Holding cs w held atoms → (((p : ℕ) → held p ≡ false) → ⊥) → false ≡ quiet cs atoms atoms
  answer_over one {held = held} h some = stuck one held h.waits some
