-- Marking what an atom depends on, by rounds over the clauses. Each mark is an atom that it depends on; after n rounds those that it
-- reaches in n steps are marked, and once a round marks nothing more, all of them.
-- Assumes nothing.
use Prim.Native.Nat.{ℕ, zero, suc, ◌+◌, ◌<◌}
use Rattle.std.specs.Prelude.{◌≡◌, Bool, true, false, ◌||◌, ◌⊎◌, eqb}
use Rattle.std.proofs.Math.Path.{refl, sym, subst}
use Rattle.std.proofs.Common.{ap, ap₂, ◌∙◌, add-one, eqb-true, eq-eqb, ne_eqb}
use Rattle.std.proofs.Math.Logic.{inl, inr, ⊎_elim}
use mathlib.Core.List.Memᴰ
use mathlib.Core.List.{List, [], ◌∷◌}
use Rattle.base.specs.paper.Bools.{choose}
use Rattle.base.specs.Bools.{decide, clash, choose_true, choose_false, either, either_left, either_right}
use Rattle.base.specs.paper.Lists.{◌∈◌, Every}
use Rattle.base.specs.Lists.{any_some, some_any, every_first, every_rest}
use Rattle.image.specs.paper.Book.{Lit, Clause}
use Rattle.image.specs.paper.Loops.{Depends, direct, through, reached}
use Rattle.image.specs.Reached.{Step, reached_step, step_reached, depends_reached}
use Rattle.loops.specs.Naming.{names}

-- the marks behind one clause: with its body's atoms, if its head is p or is marked
abbrev pub follow : ℕ → Clause → (ℕ → Bool) → ℕ → Bool
follow p c f = choose (eqb c.head p || f c.head) (λ (q : ℕ). f q || names c q) f

-- the marks behind a round
unfoldable pub spread : List Clause → ℕ → (ℕ → Bool) → ℕ → Bool
spread [] p f = f
spread (c ∷ cs) p f = spread cs p (follow p c f)

-- ---- one clause

-- what leads on from p: its own clauses, and those of what is marked
abbrev pub Leading : ℕ → (ℕ → Bool) → Clause → Type 0
Leading p f c = (c.head ≡ p) ⊎ (f c.head ≡ true)

follow_grows : (p : ℕ) (c : Clause) (f : ℕ → Bool) (q : ℕ) → f q ≡ true → follow p c f q ≡ true
follow_grows p c f q h = go (eqb c.head p || f c.head)
  where
    go : (t : Bool) → choose t (λ (r : ℕ). f r || names c r) f q ≡ true
    go true = either_left (f q) (names c q) h
    go false = h

leading : (p : ℕ) (c : Clause) (f : ℕ → Bool) → Leading p f c → (eqb c.head p || f c.head) ≡ true
leading p c f (inl e) = either_left (eqb c.head p) (f c.head) (eq-eqb c.head p e)
leading p c f (inr e) = either_right (eqb c.head p) (f c.head) e

pub follow_leading : (p : ℕ) (c : Clause) (f : ℕ → Bool) → Leading p f c → (q : ℕ) → follow p c f q ≡ (f q || names c q)
follow_leading p c f h q = ap (λ (g : ℕ → Bool). g q) (choose_true (λ (r : ℕ). f r || names c r) f (leading p c f h))

pub follow_other : (p : ℕ) (c : Clause) (f : ℕ → Bool) → (c.head ≡ p → ⊥) → f c.head ≡ false → (q : ℕ) → follow p c f q ≡ f q
follow_other p c f other unmarked q =
    ap (λ (g : ℕ → Bool). g q)
    (choose_false (λ (r : ℕ). f r || names c r) f (ap₂ ◌||◌ (ne_eqb c.head p other) unmarked))

follow_closed : (p : ℕ) (c : Clause) (f : ℕ → Bool) → Leading p f c → (l : Lit) → l ∈ c.body → follow p c f l.atom ≡ true
follow_closed p c f h l m =
    follow_leading p c f h l.atom
    ∙ either_right (f l.atom) (names c l.atom) (some_any (λ (k : Lit). eqb k.atom l.atom) c.body (l, m, eq-eqb l.atom l.atom refl))

module _ (cs : List Clause) (p : ℕ) where
  -- each mark is an atom that p depends on
  abbrev pub Sound : (ℕ → Bool) → Type 0
  Sound f = (q : ℕ) → f q ≡ true → Depends cs p q

  follow_sound : (c : Clause) → c ∈ cs → (f : ℕ → Bool) → Sound f → Sound (follow p c f)
  follow_sound c m f sound q = go (eqb c.head p || f c.head) refl
    where
      step : (l : Lit) → l ∈ c.body → l.atom ≡ q → (eqb c.head p ≡ true) ⊎ (f c.head ≡ true) → Depends cs p q
      step l k e (inl h) = direct c l m (eqb-true c.head p h) k e
      step l k e (inr h) = through (sound c.head h) (direct c l m refl k e)

      go : (t : Bool) → (eqb c.head p || f c.head) ≡ t → choose t (λ (r : ℕ). f r || names c r) f q ≡ true → Depends cs p q
      go true e h =
          ⊎_elim (λ (g : f q ≡ true). sound q g)
          (λ (g : names c q ≡ true).
          let s = any_some (λ (l : Lit). eqb l.atom q) c.body g in
          step s.0 s.1 (eqb-true s.0.atom q s.2) (either (eqb c.head p) (f c.head) e))
          (either (f q) (names c q) h)
      go false e h = sound q h

  -- ---- one round

  spread_sound : (ds : List Clause) → Every (λ (c : Clause). c ∈ cs) ds → (f : ℕ → Bool) → Sound f → Sound (spread ds p f)
  unfolding spread
  spread_sound [] m f sound = sound
  spread_sound (c ∷ ds) m f sound = spread_sound ds (every_rest m) (follow p c f) (follow_sound c (every_first m) f sound)

  spread_grows : (ds : List Clause) (f : ℕ → Bool) (q : ℕ) → f q ≡ true → spread ds p f q ≡ true
  unfolding spread
  spread_grows [] f q h = h
  spread_grows (c ∷ ds) f q h = spread_grows ds (follow p c f) q (follow_grows p c f q h)

  spread_closed : (ds : List Clause) (f : ℕ → Bool) (c : Clause) → c ∈ ds → Leading p f c → (l : Lit) → l ∈ c.body → spread ds p f l.atom ≡ true
  unfolding spread
  spread_closed [] f c m h l k = absurd (Memᴰ.not-nil m)
  spread_closed (d ∷ ds) f c m h l k =
      ⊎_elim
      (λ (e : c ≡ d). spread_grows ds (follow p d f) l.atom (subst (λ (x : Clause). follow p x f l.atom ≡ true) e (follow_closed p c f h l k)))
      (λ (i : c ∈ ds). spread_closed ds (follow p d f) c i (⊎_elim (λ e. inl e) (λ e. inr (follow_grows p d f c.head e)) h) l k)
      (Memᴰ.cases_cons m)

  -- a round goes one step on
  step_on : (f : ℕ → Bool) (r q : ℕ) → (r ≡ p) ⊎ (f r ≡ true) → Step cs r q → spread cs p f q ≡ true
  step_on f r q h s =
      subst (λ (x : ℕ). spread cs p f x ≡ true) s.leads
      (spread_closed cs f s.clause s.among
      (⊎_elim (λ e. inl (s.heads ∙ e)) (λ e. inr (ap f s.heads ∙ e)) h) s.lit s.within)

  -- ---- the rounds

  -- what is reached in one step more is reached by a last step
  record Last (n a q : ℕ) : Type 0 where
    from : ℕ
    comes : reached cs n a from ≡ true
    step : Step cs from q

  last_step : (n a q : ℕ) → reached cs (suc n) a q ≡ true → Step cs a q ⊎ Last n a q
  unfolding reached
  last_step zero a q h = let s = step_reached cs 0 a q h in inl (⊎_elim (λ e. subst (Step cs a) e s.1) (λ e. clash e refl) s.2)
  last_step (suc n) a q h =
      let s = step_reached cs (suc n) a q h in
      ⊎_elim (λ e. inl (subst (Step cs a) e s.1)) (λ e. inr (behind s.0 s.1 (last_step n s.0 q e))) s.2
    where
      behind : (r : ℕ) → Step cs a r → Step cs r q ⊎ Last n r q → Last (suc n) a q
      behind r s (inl t) = record { from = r; comes = reached_step cs n a r r s (inl refl); step = t }
      behind r s (inr t) = record { from = t.from; comes = reached_step cs n a t.from r s (inr t.comes); step = t.step }

  -- the marks after n rounds
  pub record Rounds (n : ℕ) (f : ℕ → Bool) : Type 0 where
    pub sound : Sound f
    pub enough : (q : ℕ) → reached cs n p q ≡ true → f q ≡ true

  -- where what p reaches in n steps is marked, a round marks what it reaches in one more
  one_more : (n : ℕ) (f : ℕ → Bool) → ((q : ℕ) → reached cs n p q ≡ true → f q ≡ true) → (q : ℕ) → reached cs (suc n) p q ≡ true → spread cs p f q ≡ true
  one_more n f enough q h =
      ⊎_elim (λ (s : Step cs p q). step_on f p q (inl refl) s)
      (λ (s : Last n p q). step_on f s.from q (inr (enough s.from s.comes)) s.step) (last_step n p q h)

  pub rounds_none : (f : ℕ → Bool) → ((q : ℕ) → f q ≡ false) → Rounds 0 f
  unfolding reached
  rounds_none f none = record { sound = λ q h. clash h (none q); enough = λ q h. clash h refl }

  pub rounds_next : (n : ℕ) (f g : ℕ → Bool) → ((q : ℕ) → g q ≡ spread cs p f q) → Rounds n f → Rounds (n + 1) g
  rounds_next n f g e r =
      record {
        sound = λ q h. spread_sound cs (λ c m. m) f r.sound q (sym (e q) ∙ h);
        enough = λ q h. e q ∙ one_more n f r.enough q (subst (λ (k : ℕ). reached cs k p q ≡ true) (add-one n) h);
      }

  -- where a round marks nothing more, all is marked
  closed : (f : ℕ → Bool) → ((q : ℕ) → spread cs p f q ≡ f q) → (n q : ℕ) → reached cs n p q ≡ true → f q ≡ true
  unfolding reached
  closed f same zero q h = clash h refl
  closed f same (suc n) q h = sym (same q) ∙ one_more n f (closed f same n) q h

  -- ---- the answers

  pub answer_true : (n atoms : ℕ) → Every (λ (c : Clause). c.head < atoms) cs → (f : ℕ → Bool) → Rounds n f → f p ≡ true → true ≡ reached cs atoms p p
  answer_true n atoms heads f r h = sym (depends_reached cs atoms heads (r.sound p h))

  not_reached : (n : ℕ) (f : ℕ → Bool) → (reached cs n p p ≡ true → f p ≡ true) → f p ≡ false → false ≡ reached cs n p p
  not_reached n f all h = ⊎_elim (λ t. clash (all t) h) (λ t. sym t) (decide (reached cs n p p))

  -- g has the marks after a round more, and they are f's
  pub answer_same : (f g : ℕ → Bool) → ((q : ℕ) → g q ≡ spread cs p f q) → ((q : ℕ) → g q ≡ f q) → (n : ℕ) → f p ≡ false → false ≡ reached cs n p p
  answer_same f g e same n = not_reached n f (closed f (λ q. sym (e q) ∙ same q) n p)

  pub answer_over : (n : ℕ) (f : ℕ → Bool) → Rounds n f → f p ≡ false → false ≡ reached cs n p p
  answer_over n f r = not_reached n f (r.enough p)
