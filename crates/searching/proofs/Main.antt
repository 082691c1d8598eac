-- The main theorem: on an accepted book a finished search lists exactly the smallest explaining sets by the meaning of crate meaning, each
-- once and in order; and no other list does.
-- Assumes nothing.
use Rattle.std.specs.Prelude.{ℕ, ◌≡◌, refl, true, ◌↔◌, List, [], ◌∷◌}
use Rattle.std.proofs.Common.{sym, ap, subst, ◌∙◌, arith}
use mathlib.Core.List.Memᴰ
use Rattle.base.specs.paper.Lists.{◌∈◌, Once}
use Rattle.base.specs.Lists.{Some, here}
use Rattle.base.specs.paper.Members.{Inside}
use Rattle.image.specs.paper.Book.{Book}
use Rattle.image.specs.Sound.{Orderly}
use Rattle.sets.specs.SetLaws.{inside_has, has_inside, inside_antisymmetric}
use Rattle.sets.specs.paper.Kept.{smallest, sort}
use Rattle.sets.specs.KeptLaws.{LeastOf, smallest_keeps, smallest_members, smallest_once, sort_members, sort_ordered, ordered_once, ordered_unique}
use Rattle.meaning.specs.paper.Meaning.{explains, Smallest}
use Rattle.searching.specs.paper.Rules.{root, Outcome, finished, used_up, no_room, run_from, sent, search_end}
use Rattle.searching.specs.paper.Tree.{size}
use Rattle.searching.proofs.Successes.{sets, root_starts, sets_explain, sets_under, root_agrees, sets_abducible}
use Rattle.searching.proofs.Outcomes.{kept_smallest, finished_exactly}
use Rattle.searching.specs.paper.Explanations.{Explanations}

pub explanations_once : (b : Book) (l : List ℕ) → Explanations b l → Once l
explanations_once b l e = ordered_once l e.ordered

-- No two lists are so.
pub explanations_unique : (b : Book) (l m : List ℕ) → Explanations b l → Explanations b m → l ≡ m
explanations_unique b l m e f =
    ordered_unique l m e.ordered f.ordered
    (λ d. (λ i. (f.members d).1 ((e.members d).0 i), λ i. (e.members d).1 ((f.members d).0 i)))

module _ (book : Book) (orderly : Orderly book) where
  -- the smallest of the sets that the tree reaches are the smallest explaining sets
  reached_smallest : (d : ℕ) → LeastOf (λ (s : ℕ). s ∈ sets book (root book)) d ↔ Smallest book d
  reached_smallest d = (to, back)
    where
      explain : (s : ℕ) → s ∈ sets book (root book) → explains book s ≡ true
      explain = sets_explain book orderly (root book) (root_starts book)

      under : (s : ℕ) → explains book s ≡ true → Some (λ (k : ℕ). Inside k s) (sets book (root book))
      under s e = sets_under book orderly (root book) s (root_agrees book orderly s e)

      to : LeastOf (λ (s : ℕ). s ∈ sets book (root book)) d → Smallest book d
      to h = record {
        abducibles = sets_abducible book (root book) d h.0;
        explaining = explain d h.0;
        least = λ s i e. least s i (under s e);
      }
        where
          least : (s : ℕ) → Inside s d → Some (λ (k : ℕ). Inside k s) (sets book (root book)) → s ≡ d
          least s i w =
              let e = h.1 w.0 w.1 (has_inside w.0 d (λ j p. i j (w.2 j p))) in
              inside_antisymmetric s d (has_inside s d i) (has_inside d s (subst (λ (k : ℕ). Inside k s) e w.2))

      back : Smallest book d → LeastOf (λ (s : ℕ). s ∈ sets book (root book)) d
      back h =
          let w = under d h.explaining in (
            subst (λ (k : ℕ). k ∈ sets book (root book)) (h.least w.0 w.2 (explain w.0 w.1)) w.1,
            λ s m i. h.least s (inside_has s d i) (explain s m),
          )

  kept_members : (d : ℕ) → d ∈ smallest (sets book (root book)) ↔ Smallest book d
  kept_members d =
      let k = smallest_members (sets book (root book)) d in
      (λ m. (reached_smallest d).0 (k.0 m), λ h. k.1 ((reached_smallest d).1 h))

  -- Inside every explaining set lies a smallest one.
  pub smallest_inside : (d : ℕ) → explains book d ≡ true → (s : ℕ) × Smallest book s × Inside s d
  smallest_inside d e =
      let w = sets_under book orderly (root book) d (root_agrees book orderly d e) in
      let k = (smallest_keeps (sets book (root book))).under w.0 w.1 in
      (k.0, (kept_members k.0).0 k.1, λ j p. w.2 j (inside_has k.0 w.0 k.2 j p))

  -- The list of explanations is empty if and only if no set explains.
  pub explanations_none : (l : List ℕ) → Explanations book l → (l ≡ []) ↔ ((d : ℕ) → explains book d ≡ true → ⊥)
  explanations_none l e = (to, back l e)
    where
      to : l ≡ [] → (d : ℕ) → explains book d ≡ true → ⊥
      to q d x =
          let w = smallest_inside d x in
          Memᴰ.not-nil (subst (λ (m : List ℕ). w.0 ∈ m) q ((e.members w.0).1 w.1))

      back : (m : List ℕ) → Explanations book m → ((d : ℕ) → explains book d ≡ true → ⊥) → m ≡ []
      back [] f h = refl
      back (d ∷ m) f h = absurd (h d ((f.members d).0 here).explaining)

  -- What a finished run keeps, sorted, is that list.
  kept_explanations : Explanations book (sort (smallest (sets book (root book))))
  kept_explanations = record {
    members = λ d. (
      λ m. (kept_members d).0 ((sort_members (smallest (sets book (root book))) d).0 m),
      λ h. (sort_members (smallest (sets book (root book))) d).1 ((kept_members d).1 h),
    );
    ordered = sort_ordered (smallest (sets book (root book)))
        (smallest_once (sets book (root book)));
  }

  -- A finished search lists exactly the smallest explaining sets, each once, in order; its node number is the size of the tree.
  pub listed : (room budget : ℕ) (l : List ℕ) (n : ℕ) → search_end book room budget ≡ finished l n → Explanations book l × (n ≡ size book (root book))
  listed room budget l n e = go (run_from book room budget (root book)) refl e
    where
      done : (kept : List ℕ) (k : ℕ) → run_from book room budget (root book) ≡ finished kept k → l ≡ sort kept → n ≡ k → Explanations book l × (n ≡ size book (root book))
      done kept k p q r =
          let w = (finished_exactly book room budget (root book) kept k).0 p in
          (subst (Explanations book) (sym (q ∙ ap (sort) (w.2 ∙ kept_smallest book (root book)))) kept_explanations, r ∙ w.3)

      go : (o : Outcome) → run_from book room budget (root book) ≡ o → sent o ≡ finished l n → Explanations book l × (n ≡ size book (root book))
      go (finished kept k) p q = done kept k p (cc) (cc)
      go (used_up k) p q = let z : ◌≡◌ {A = ℕ} 0 1 = cc in absurd (omega arith)
      go (no_room k) p q = let z : ◌≡◌ {A = ℕ} 0 1 = cc in absurd (omega arith)
