-- A join, from the sets of both lists to what stands in the third list.
-- Assumes nothing.
use mathlib.Core.Path.{◌≡◌, refl, sym, ap, ap₂, subst, ◌∙◌}
use mathlib.Core.Bool.{Bool, true, false}
use mathlib.Core.Logic.{◌⊎◌, inl, inr}
use mathlib.Core.List.{List, ◌++◌, ◌∷◌, append-nil, foldl, foldl-append, []}
use Prim.Native.Nat.{ℕ, ◌+◌, ◌-◌, ◌≤◌, ◌<◌}
use native.Mathlib.Omega.{arith}
use lib.ListN.{length, take, drop, get_or, set, length-set, length-append, length-drop, drop_of_length-le}
use lib.Seq.{length-take-le, take_at}
use Rattle.std.specs.Prelude.{Option, Some, None, IfSome, max}
use Rattle.std.proofs.lemmas.List.{take_rest}
use Rattle.base.specs.paper.Least
use Rattle.base.specs.paper.Lists.{any}
use Rattle.base.specs.Stores.{next_all, stored}
use Rattle.sets.specs.paper.Sets.{inside}
use Rattle.sets.specs.paper.Kept.{insert, smallest, sort, zeros, longest}
use Rattle.sets.specs.KeptLaws.{sort_length, smallest_keeps}
use Rattle.kept.specs.Agreed.{AtFront}
use borrow.Author.Tests.{ltb-true, ltb-false}
use Rattle.base.specs.Bools.{decide}
use Rattle.joiner.specs.paper.Join.{Count, Refused, joint, Joins, long, Long, no_room, result}
use Rattle.joiner.specs.JoinLaws.{joins_by, ending_full, ending_result, keeps_result}
use Rattle.joiner.specs.Gathering.{gathered, Fitted, FittedOf, gathered_stays, gathered_joins, gathered_length, gathered_append, gathered_keeps}

-- ---- inserting both lists

pub inserted_both : (left right : List ℕ) {k : List ℕ} (now : List ℕ) (r : Option ℕ) → k ≡ foldl insert [] left
    → IfSome r (λ n. AtFront (foldl insert k right) n now) → IfSome r (λ n. AtFront (smallest (left ++ right)) n now)
unfolding Least.smallest
inserted_both left right now None e s = tt
inserted_both left right {k} now (Some n) e s = subst (λ (l : List ℕ). AtFront l n now) both s
  where
    both : foldl insert k right ≡ smallest (left ++ right)
    both = ap (λ (m : List ℕ). foldl insert m right) e ∙ sym (foldl-append insert [] left right)

-- ---- gathering: the first i sets of the list are gathered, and those kept have room

pub record Gathering (behind old : List ℕ) (n : ℕ) (list now : List ℕ) (held i : ℕ) : Type 0 where
  pub fits : held ≤ length now
  pub size : length now ≡ length old
  pub kept : gathered behind (take n old) list ≡ gathered behind (take held now) (drop i list)

module _ (behind old : List ℕ) (n : ℕ) (list : List ℕ) where
  pub gathering_start : n ≤ length old → Gathering behind old n list old n 0
  gathering_start h = record { fits = h; size = refl; kept = refl }

  module _ {now : List ℕ} {held i : ℕ} (g : Gathering behind old n list now held i) where
    module _ (h : i < length list) where
      next : gathered behind (take n old) list ≡ gathered behind (take held now) (get_or list i 0 ∷ drop (i + 1) list)
      next = g.kept ∙ ap (gathered behind (take held now)) (next_all list i h)

      -- whether a kept set or a later one is inside the next one, as it was tested
      abbrev Tested : Bool → Type 0
      Tested t = t ≡ any (λ k. inside k (get_or list i 0)) (take held now ++ (take (length list - (i + 1)) (drop (i + 1) list) ++ behind))

      met : {t : Bool} → Tested t → any (λ k. inside k (get_or list i 0)) (take held now ++ (drop (i + 1) list ++ behind)) ≡ t
      met e = sym (rw (take_rest list (i + 1)) at e)

      pub gathering_stays : Tested true → Gathering behind old n list now held (i + 1)
      gathering_stays e = record {
        fits = g.fits;
        size = g.size;
        kept = next ∙ gathered_stays behind (take held now) (get_or list i 0) (drop (i + 1) list) (met e);
      }

      module _ (e : Tested false) where
        joined : gathered behind (take n old) list ≡ gathered behind (take held now ++ get_or list i 0 ∷ []) (drop (i + 1) list)
        joined = next ∙ gathered_joins behind (take held now) (get_or list i 0) (drop (i + 1) list) (met e)

        pub gathering_joins : held < length now → Gathering behind old n list (set now held (get_or list i 0)) (held + 1) (i + 1)
        gathering_joins room = record {
          fits = omega (arith, length-set now held (get_or list i 0));
          size = length-set now held (get_or list i 0) ∙ g.size;
          kept = joined ∙ ap (λ (k : List ℕ). gathered behind k (drop (i + 1) list)) (sym (stored now held (get_or list i 0) room));
        }

        -- there is no room for one more
        pub gathering_full : length now ≤ held → Fitted (gathered behind (take n old) list) None now
        gathering_full full =
            omega
            (arith, ap length joined, gathered_length behind (drop (i + 1) list) (take held now ++ get_or list i 0 ∷ []), length-append (take held now) (get_or list i 0 ∷ []), length-take-le held now g.fits)

    pub gathering_end : length list ≤ i → Fitted (gathered behind (take n old) list) (Some held) now
    unfolding gathered
    gathering_end h =
        let all : take held now ≡ gathered behind (take n old) list = sym (g.kept ∙ ap (gathered behind (take held now)) (drop_of_length-le list h)) in
        record { fits = g.fits; count = sym (length-take-le held now g.fits) ∙ ap length all; list = all }

-- both lists one after the other
module _ (left right : List ℕ) where
  whole : gathered [] [] (left ++ right) ≡ gathered [] (gathered right [] left) right
  whole =
      gathered_append [] left right [] ∙ ap (λ (b : List ℕ). gathered [] (gathered b [] left) right) (append-nil right)

  pub gathered_full : (now : List ℕ) → Fitted (gathered right [] left) None now → Fitted (gathered [] [] (left ++ right)) None now
  gathered_full now f = omega (arith, f, ap length whole, gathered_length [] right (gathered right [] left))

  pub gathered_both : {k : List ℕ} (r : Option ℕ) (now : List ℕ) → k ≡ gathered right [] left → Fitted (gathered [] k right) r now
      → Fitted (gathered [] [] (left ++ right)) r now
  gathered_both r now e f = subst (λ (l : List ℕ). Fitted l r now) (ap (λ (m : List ℕ). gathered [] m right) e ∙ sym whole) f

  -- ---- the smallest sets of both lists, in either way

  pub by_inserting : {now : List ℕ} {r : ℕ} → AtFront (smallest (left ++ right)) r now → FittedOf left right (Some r) now
  by_inserting s = record {
    kept = smallest (left ++ right);
    keeps = smallest_keeps (left ++ right);
    fitted = s;
  }

  pub by_gathering : (r : Option ℕ) (now : List ℕ) → Fitted (gathered [] [] (left ++ right)) r now → FittedOf left right r now
  by_gathering r now f = record {
    kept = gathered [] [] (left ++ right);
    keeps = gathered_keeps (left ++ right);
    fitted = f;
  }

-- ---- and from there to the end

module _ (left right out : List ℕ) (m n : ℕ) (e : m ≡ max (length left) (length right)) (f : n ≡ max m (length out)) where
  -- whether a list is too long, as it was tested
  pub too_long_lem : longest < n → Long left right out
  too_long_lem h = go (decide (long (length left))) (decide (long (length right)))
    where
      go : (long (length left) ≡ true) ⊎ (long (length left) ≡ false) → (long (length right) ≡ true) ⊎ (long (length right) ≡ false) → Long left right out
      go (inl p) t = inl (ltb-true longest (length left) p)
      go (inr p) (inl q) = inr (inl (ltb-true longest (length right) q))
      go (inr p) (inr q) = inr (inr (omega (arith, ltb-false longest (length left) p, ltb-false longest (length right) q)))

  pub short : n ≤ longest → Long left right out → ⊥
  short h (inl p) = omega arith
  short h (inr (inl p)) = omega arith
  short h (inr (inr p)) = omega arith

module _ (left right out : List ℕ) (fits : Long left right out → ⊥) {r : Option ℕ} {now : List ℕ} (g : FittedOf left right r now) (size : length now ≡ length out) where
  number : length g.kept ≡ length (joint left right)
  number = sym (sort_length g.kept) ∙ ap length (keeps_result left right g.keeps)

  pub no_room_lem : {after : List ℕ} → r ≡ None → after ≡ zeros (length now - 0) → Joins left right out (Refused 31) after
  no_room_lem e w =
      let full : Fitted g.kept None now = subst (λ (o : Option ℕ). Fitted g.kept o now) e g.fitted in
      let all : length now - 0 ≡ length out = omega (arith, size) in
      joins_by no_room (ending_full left right out fits (omega (arith, number, full, size))) refl (w ∙ ap zeros all)

  pub filled : {count : ℕ} {sorted after : List ℕ} → r ≡ Some count → sorted ≡ sort (take count now)
      → after ≡ take count (sorted ++ drop count now) ++ zeros (length (sorted ++ drop count now) - count) → Joins left right out (Count count) after
  filled {count} {sorted} {after} e s z =
      joins_by (result (joint left right)) (ending_result left right out fits (omega (arith, counted, front.fits, size))) (ap Count counted) entries
    where
      front : AtFront g.kept count now
      front = subst (λ (o : Option ℕ). Fitted g.kept o now) e g.fitted

      counted : count ≡ length (joint left right)
      counted = front.count ∙ number

      same : sorted ≡ joint left right
      same = s ∙ ap sort front.list ∙ keeps_result left right g.keeps

      long_as : length sorted ≡ count
      long_as = ap length same ∙ sym counted

      rest : length (sorted ++ drop count now) - count ≡ length out - length (joint left right)
      rest = omega (arith, length-append sorted (drop count now), length-drop count now, long_as, counted, size, front.fits)

      entries : after ≡ joint left right ++ zeros (length out - length (joint left right))
      entries = z ∙ ap₂ (λ (l : List ℕ) (k : ℕ). l ++ zeros k) (take_at sorted (drop count now) count long_as ∙ same) rest
