-- The loops' invariants. Each has its start, its steps and its end, as laws on lists.
-- Assumes nothing.
use mathlib.Core.Path.{◌≡◌, refl, sym, ap, ap₂, subst, ◌∙◌}
use mathlib.Core.Bool.{Bool, true, false, not, ◌||◌}
use mathlib.Core.List.{List, ◌∷◌, ◌++◌, append-nil, foldl, []}
use Prim.Native.Nat.{ℕ, zero, suc, ◌+◌, ◌≤◌, ◌<◌}
use native.Mathlib.Omega.{arith}
use lib.ListN.{drop_of_length-le, length, take, drop, get_or, set, length-set, length-append, length-take, take-append-drop}
use lib.Seq.{length-take-le, append_snoc}
use Rattle.std.specs.Prelude.{Option, Some, None}
use Rattle.base.specs.Bools.{clash, choose_true, choose_false}
use Rattle.base.specs.paper.Lists.{any, put, filter}
use Rattle.base.specs.Lists.{ahead, ahead_length}
use Rattle.base.specs.Parts.{filter_ahead, lay, lay_fits, lay_full, length_lay, take_lay, filter_length}
use Rattle.base.specs.paper.Least
use Rattle.sets.specs.paper.Sets.{inside}
use Rattle.sets.specs.paper.Kept.{insert}
use Rattle.kept.specs.Agreed.{first, Overlaid, Inserted, AtFront}
use Rattle.kept.proofs.Finding.{any_none, any_some}
use Rattle.base.specs.Stores.{next_all, stored, stored_behind, behind, behind_at, lay_store, filter_first, filter_later}

-- ---- a list laid over another

lay_self : (l : List ℕ) → lay l l ≡ l
lay_self [] = refl
lay_self (a ∷ l) = ap (λ (m : List ℕ). a ∷ m) (lay_self l)

-- over the first n entries
lay_part : (new old : List ℕ) (n : ℕ) → length new ≤ length (take n old) → lay new (take n old) ++ drop n old ≡ lay new old
lay_part [] old n h = take-append-drop n old
lay_part (a ∷ new) [] n h = absurd (omega (arith, length-take {A = ℕ}))
lay_part (a ∷ new) (b ∷ old) zero h = absurd (omega arith)
lay_part (a ∷ new) (b ∷ old) (suc n) h = ap (λ (l : List ℕ). a ∷ l) (lay_part new old n (omega arith))

-- ---- squeezing: of the first i entries those that pass stand in the front, and what is behind them is as it was

pub record Squeezed (t : ℕ → Bool) (old now : List ℕ) (left i : ℕ) : Type 0 where
  pub before : left ≤ i
  pub within : i ≤ length old
  pub size : length now ≡ length old
  pub passed : filter t old ≡ take left now ++ filter t (drop i old)
  pub rest : drop left now ≡ drop left old

-- what stands before the first that is dropped stays
pub squeeze_start : (u : ℕ → Bool) (old : List ℕ) {left : ℕ} → Some left ≡ first u old → Squeezed (λ k. not (u k)) old old left left
squeeze_start u old {left} e =
    let at : left ≡ ahead u old = (any_some u old e).1 in
    record {
      before = omega arith;
      within = omega (arith, ahead_length u old);
      size = refl;
      passed = rw at (filter_ahead u old);
      rest = refl;
    }

module _ (t : ℕ → Bool) (old : List ℕ) where
  pub squeeze_keeps : {now : List ℕ} {left i : ℕ} → Squeezed t old now left i → i < length old → t (get_or now i 0) ≡ true
      → Squeezed t old (set now left (get_or now i 0)) (left + 1) (i + 1)
  squeeze_keeps {now} {left} {i} q h e =
      let x : ℕ = get_or now i 0 in
      let same : x ≡ get_or old i 0 = behind_at now old left i q.rest q.before in
      record {
        before = omega (arith, q.before);
        within = omega arith;
        size = length-set now left x ∙ q.size;
        passed =
            q.passed
            ∙ ap (λ (l : List ℕ). take left now ++ filter t l) (next_all old i h ∙ ap (λ (y : ℕ). y ∷ drop (i + 1) old) (sym same))
            ∙ ap (λ (l : List ℕ). take left now ++ l) (filter_first t (drop (i + 1) old) e)
            ∙ sym (append_snoc (take left now) x (filter t (drop (i + 1) old)))
            ∙ ap (λ (l : List ℕ). l ++ filter t (drop (i + 1) old)) (sym (stored now left x (omega (arith, q.before, q.size))));
        rest = stored_behind now left x ∙ behind now old left 1 q.rest;
      }

  pub squeeze_drops : {now : List ℕ} {left i : ℕ} → Squeezed t old now left i → i < length old → t (get_or now i 0) ≡ false
      → Squeezed t old now left (i + 1)
  squeeze_drops {now} {left} {i} q h e =
      let same : get_or now i 0 ≡ get_or old i 0 = behind_at now old left i q.rest q.before in
      record {
        before = omega (arith, q.before);
        within = omega arith;
        size = q.size;
        passed =
            q.passed
            ∙ ap (λ (l : List ℕ). take left now ++ filter t l) (next_all old i h ∙ ap (λ (y : ℕ). y ∷ drop (i + 1) old) (sym same))
            ∙ ap (λ (l : List ℕ). take left now ++ l) (filter_later t (drop (i + 1) old) e);
        rest = q.rest;
      }

  pub squeeze_end : {now : List ℕ} {left i : ℕ} → Squeezed t old now left i → length old ≤ i → Overlaid (filter t old) old left now
  squeeze_end {now} {left} {i} q h = record { count = count; list = whole }
    where
      all : filter t old ≡ take left now
      all =
          q.passed ∙ ap (λ (l : List ℕ). take left now ++ filter t l) (drop_of_length-le old h) ∙ append-nil (take left now)

      count : left ≡ length (filter t old)
      count = sym (ap length all ∙ length-take-le left now (omega (arith, q.before, q.within, q.size)))

      whole : now ≡ lay (filter t old) old
      whole =
          sym (take-append-drop left now) ∙ ap₂ ◌++◌ (sym all) q.rest
          ∙ ap (λ (j : ℕ). filter t old ++ drop j old) count
          ∙ sym (lay_fits (filter t old) old (filter_length t old))

-- none is dropped
squeeze_none : (u : ℕ → Bool) (l : List ℕ) → any u l ≡ false → filter (λ k. not (u k)) l ≡ l
squeeze_none u [] e = refl
squeeze_none u (a ∷ l) e = go (u a) e (squeeze_none u l)
  where
    go : (b : Bool) → (b || any u l) ≡ false → (any u l ≡ false → filter (λ k. not (u k)) l ≡ l) → put (not b) a (filter (λ k. not (u k)) l) ≡ a ∷ l
    go true f h = clash refl f
    go false f h = ap (λ (m : List ℕ). a ∷ m) (h f)

pub squeezed_none : (u : ℕ → Bool) (l : List ℕ) → None ≡ first u l → Overlaid (filter (λ k. not (u k)) l) l (length l) l
squeezed_none u l e =
    let same : filter (λ k. not (u k)) l ≡ l = squeeze_none u l (any_none u l e) in
    record { count = ap length (sym same); list = sym (ap (λ (m : List ℕ). lay m l) same ∙ lay_self l) }

-- ---- inserting one set

-- those of the first n entries that do not contain s
abbrev pub others : List ℕ → ℕ → ℕ → List ℕ
others old n s = filter (λ k. not (inside s k)) (take n old)

module _ (old : List ℕ) (n s : ℕ) (fits : n ≤ length old) where
  -- a kept set is inside s
  pub insert_none : any (λ k. inside k s) (take n old) ≡ true → Inserted (insert (take n old) s) old (Some n) old
  unfolding Least.insert
  insert_none e =
      let same : insert (take n old) s ≡ take n old = choose_true (take n old) (others old n s ++ s ∷ []) e in
      let size : length (take n old) ≡ n = length-take-le n old fits in
      record {
        count = (sym (ap length same ∙ size), fits);
        list =
            sym
            (ap (λ (l : List ℕ). lay l old) same ∙ lay_fits (take n old) old (omega arith)
            ∙ ap (λ (j : ℕ). take n old ++ drop j old) size ∙ take-append-drop n old);
      }

  -- none is: s joins the others, which were left in the first n entries
  module _ {left : ℕ} {part now : List ℕ} (none : any (λ k. inside k s) (take n old) ≡ false) (q : Overlaid (others old n s) (take n old) left part) (e : now ≡ part ++ drop n old) where
    joins : insert (take n old) s ≡ others old n s ++ s ∷ []
    unfolding Least.insert
    joins = choose_false (take n old) (others old n s ++ s ∷ []) none

    one_more : left + 1 ≡ length (insert (take n old) s)
    one_more = ap (λ (j : ℕ). j + 1) q.count ∙ sym (ap length joins ∙ length-append (others old n s) (s ∷ []))

    few : length (others old n s) ≤ length (take n old)
    few = filter_length (λ k. not (inside s k)) (take n old)

    left_there : now ≡ lay (others old n s) old
    left_there = e ∙ ap (λ (l : List ℕ). l ++ drop n old) q.list ∙ lay_part (others old n s) old n few

    same : length now ≡ length old
    same = ap length left_there ∙ length_lay (others old n s) old

    pub insert_room : (left ≡ length now → ⊥) → left < length now
    insert_room h = omega (arith, same, q.count, few, length-take n old)

    pub insert_joins : (left ≡ length now → ⊥) → Inserted (insert (take n old) s) old (Some (left + 1)) (set now left s)
    insert_joins h =
        let room : left < length old = omega (arith, same, insert_room h) in
        record {
          count = (one_more, omega arith);
          list =
              ap₂ (λ (l : List ℕ) (j : ℕ). set l j s) left_there q.count
              ∙ lay_store (others old n s) old s (subst (λ (j : ℕ). j < length old) q.count room) ∙ ap (λ (l : List ℕ). lay l old) (sym joins);
        }

    -- without room the list stays
    pub insert_full : left ≡ length now → Inserted (insert (take n old) s) old None now
    insert_full h = record {
      count = omega (arith, one_more, same);
      list = left_there ∙ sym (lay_full (others old n s) (s ∷ []) old (sym q.count ∙ h ∙ same)) ∙ ap (λ (l : List ℕ). lay l old) (sym joins);
    }

-- ---- inserting the sets of a list: the first i of them are inserted, and those kept have room

pub inserted_length : {kept old after : List ℕ} {r : Option ℕ} → Inserted kept old r after → length after ≡ length old
inserted_length {kept} {old} laid = ap length laid.list ∙ length_lay kept old

pub record Inserting (old : List ℕ) (n : ℕ) (list now : List ℕ) (held i : ℕ) : Type 0 where
  pub fits : held ≤ length now
  pub size : length now ≡ length old
  pub kept : foldl insert (take n old) list ≡ foldl insert (take held now) (drop i list)

module _ (old : List ℕ) (n : ℕ) (list : List ℕ) where
  pub inserting_start : n ≤ length old → Inserting old n list old n 0
  inserting_start h = record { fits = h; size = refl; kept = refl }

  pub inserting_more : {now after : List ℕ} {held i r : ℕ} → Inserting old n list now held i → i < length list
      → Inserted (insert (take held now) (get_or list i 0)) now (Some r) after → Inserting old n list after r (i + 1)
  inserting_more {now} {after} {held} {i} {r} q h laid =
      let x : ℕ = get_or list i 0 in
      let same : length after ≡ length now = inserted_length laid in
      let new : take r after ≡ insert (take held now) x =
      ap₂ take laid.count.0 laid.list ∙ take_lay (insert (take held now) x) now (omega (arith, laid.count)) in
      record {
        fits = omega (arith, laid.count);
        size = same ∙ q.size;
        kept =
            q.kept ∙ ap (foldl insert (take held now)) (next_all list i h)
            ∙ ap (λ (k : List ℕ). foldl insert k (drop (i + 1) list)) (sym new);
      }

  pub inserting_end : {now : List ℕ} {held i : ℕ} → Inserting old n list now held i → length list ≤ i
      → AtFront (foldl insert (take n old) list) held now
  inserting_end {now} {held} {i} q h =
      let all : take held now ≡ foldl insert (take n old) list = sym (q.kept ∙ ap (foldl insert (take held now)) (drop_of_length-le list h)) in
      record {
        fits = q.fits;
        count = sym (length-take-le held now q.fits) ∙ ap length all;
        list = all;
      }
