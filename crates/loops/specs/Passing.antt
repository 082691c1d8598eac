-- The marks of a pass over the clauses, one clause at a time.
-- Assumes nothing.
use Rattle.std.specs.Prelude.{ℕ, ◌≡◌, Bool, true, false, ◌&&◌, ◌||◌, List, [], ◌∷◌, eqb}
use Rattle.std.proofs.Common.{sym, ap, ap₂, ◌∙◌}
use Rattle.std.proofs.Math.Path.{fun_ext}
use Rattle.base.specs.paper.Bools.{choose}
use Rattle.base.specs.Bools.{both, choose_true, choose_false}
use Rattle.base.specs.paper.Lists.{any}
use Rattle.image.specs.paper.Book.{Lit, Clause}
use Rattle.loops.specs.Naming.{names, names_marked, adding, body_over, bodied, bodied_not}
use Rattle.loops.specs.Order.{descends, behind, late}
use Rattle.loops.specs.Rounds.{round}

-- ---- nothing is left

module _ (cs : List Clause) (over : cs ≡ []) where
  pub descends_over : (f : ℕ → Bool) → true ≡ descends cs f
  unfolding descends
  descends_over f = ap (λ (l : List Clause). descends l f) (sym over)

  pub late_over : (named f : ℕ → Bool) → f ≡ late cs named f
  unfolding late
  late_over named f = ap (λ (l : List Clause). late l named f) (sym over)

  pub round_over : (held all left : ℕ → Bool) → left ≡ round cs held all left
  unfolding round
  round_over held all left = ap (λ (l : List Clause). round l held all left) (sym over)

module _ (c : Clause) (cs : List Clause) where
  -- ---- a fact changes nothing

  module _ (fact : bodied c ≡ false) where
    pub descends_fact : (f : ℕ → Bool) → descends (c ∷ cs) f ≡ descends cs f
    unfolding descends
    descends_fact f =
        let same : choose (bodied c) (adding c.head f) f ≡ f = choose_false (adding c.head f) f fact in
        ap (λ (g : ℕ → Bool). choose (names_marked g c) false (descends cs g)) same
        ∙ choose_false false (descends cs f) (ap (λ (ls : List Lit). any (λ (l : Lit). f l.atom) ls) (bodied_not c fact))

    pub late_fact : (named f : ℕ → Bool) → late (c ∷ cs) named f ≡ late cs named f
    unfolding late
    late_fact named f =
        let same : (λ (q : ℕ). named q || names c q) ≡ named =
        fun_ext (λ q. ap (λ (ls : List Lit). named q || any (λ (l : Lit). eqb l.atom q) ls) (bodied_not c fact) ∙ sym (body_over (named q))) in
        ap₂ (λ (n g : ℕ → Bool). late cs n g) same (choose_false (adding c.head f) f (ap (λ (t : Bool). t && (named c.head || names c c.head)) fact))

  -- ---- a clause with a body

  module _ (long : bodied c ≡ true) where
    -- g has this head too
    module _ (f g : ℕ → Bool) (e : (q : ℕ) → g q ≡ adding c.head f q) where
      opened : descends (c ∷ cs) f ≡ choose (names_marked g c) false (descends cs g)
      unfolding descends
      opened =
          ap (λ (h : ℕ → Bool). choose (names_marked h c) false (descends cs h))
          (choose_true (adding c.head f) f long ∙ sym (fun_ext e))

      pub descends_next : names_marked g c ≡ false → descends (c ∷ cs) f ≡ descends cs g
      descends_next h = opened ∙ choose_false false (descends cs g) h

      pub descends_stop : names_marked g c ≡ true → descends (c ∷ cs) f ≡ false
      descends_stop h = opened ∙ choose_true false (descends cs g) h

    -- named' has this body too
    module _ (named named' f g : ℕ → Bool) (e : (q : ℕ) → named' q ≡ (named q || names c q)) where
      late_next : g ≡ behind c named' f → late (c ∷ cs) named f ≡ late cs named' g
      unfolding late
      late_next is =
          ap (λ (m : ℕ → Bool). late cs m (behind c m f)) (sym (fun_ext e)) ∙ ap (late cs named') (sym is)

      pub late_head : named' c.head ≡ true → ((q : ℕ) → g q ≡ adding c.head f q) → late (c ∷ cs) named f ≡ late cs named' g
      late_head h is = late_next (fun_ext is ∙ sym (choose_true (adding c.head f) f (both (bodied c) (named' c.head) long h)))

      pub late_other : named' c.head ≡ false → ((q : ℕ) → g q ≡ f q) → late (c ∷ cs) named f ≡ late cs named' g
      late_other h is = late_next (fun_ext is ∙ sym (choose_false (adding c.head f) f (ap₂ ◌&&◌ long h)))

  -- ---- in a round

  module _ (held all left : ℕ → Bool) where
    -- it names none, or its head is held, or another
    pub round_pass : names_marked all c ≡ false → round (c ∷ cs) held all left ≡ round cs held all left
    unfolding round
    round_pass h = choose_false _ (round cs held all left) h

    pub round_held : names_marked all c ≡ true → held c.head ≡ true → (g : ℕ → Bool) → ((q : ℕ) → g q ≡ adding c.head left q)
        → round (c ∷ cs) held all left ≡ round cs held all g
    unfolding round
    round_held h k g e =
        choose_true _ (round cs held all left) h ∙ choose_true _ (round cs held (adding c.head all) left) k
        ∙ ap (round cs held all) (sym (fun_ext e))

    pub round_other : names_marked all c ≡ true → held c.head ≡ false → (g : ℕ → Bool) → ((q : ℕ) → g q ≡ adding c.head all q)
        → round (c ∷ cs) held all left ≡ round cs held g left
    unfolding round
    round_other h k g e =
        choose_true _ (round cs held all left) h ∙ choose_false (round cs held all (adding c.head left)) _ k
        ∙ ap (λ (x : ℕ → Bool). round cs held x left) (sym (fun_ext e))
