-- The numbers of the names, in the words of paper 02, A1.3: `firsts` has each name once, in the order of first appearance; a name is marked
-- exactly if its number is below B; of two names of one kind the one that is met first has the lower number. And 51 is a name of both
-- kinds.
-- Assumes nothing.
use Rattle.std.specs.Prelude.{ℕ, zero, suc, ◌+◌, ◌≤◌, ◌<◌, ◌≡◌, refl, Bool, true, false, ◌||◌, not, ◌⊎◌, ◌↔◌, List, [], ◌∷◌, ◌++◌, map, length}
use Rattle.std.proofs.Common.{arith, sym, ap, ◌∙◌, subst, inl, inr, ⊎_elim}
use mathlib.Core.List.Memᴰ
use Rattle.std.proofs.lemmas.Bool.{not-true}
use Rattle.base.specs.paper.Bools.{choose}
use Rattle.base.specs.Bools.{clash, decide}
use Rattle.base.specs.paper.Lists.{◌∈◌, Every, any, put, filter, Once}
use Rattle.base.specs.Lists.{here, there, ∈_left, ∈_right, ∈_split, any_some, some_any, ahead, ahead_length, ahead_append, every_first, every_rest}
use Rattle.base.specs.Parts.{filter_has, filter_from, pairwise_filter, pairwise_append}
use Rattle.base.specs.Flat.{∈_map, map_∈}
use Rattle.spelling.specs.paper.Words.{Word, same}
use Rattle.spelling.specs.paper.Document.{Atom, Document}
use Rattle.spelling.specs.paper.Said.{mentions, firsts, names_of, abducibles, others, numbered, clashing, number_of}
use Rattle.spelling.specs.WordLaws.{same_true, same_refl}

-- ---- how many stand before the first that passes a test

module _ {A : Type 0} where
  -- where one of the first list passes
  ahead_left : (t : A → Bool) (s u : List A) → any t s ≡ true → (ahead t (s ++ u) ≡ ahead t s) × (ahead t s < length s)
  ahead_left t [] u e = clash e refl
  ahead_left t (a ∷ s) u e = go (t a) e (ahead_left t s u)
    where
      go : (b : Bool) → (b || any t s) ≡ true → (any t s ≡ true → (ahead t (s ++ u) ≡ ahead t s) × (ahead t s < length s))
          → (choose b 0 (suc (ahead t (s ++ u))) ≡ choose b 0 (suc (ahead t s))) × (choose b 0 (suc (ahead t s)) < suc (length s))
      go true q ih = (refl, omega arith)
      go false q ih = (ap suc (ih q).0, omega (arith, (ih q).1))

  ahead_map : {B : Type 0} (t : B → Bool) (f : A → B) (l : List A) → ahead t (map f l) ≡ ahead (λ a. t (f a)) l
  ahead_map t f [] = refl
  ahead_map t f (a ∷ l) = ap (λ (n : ℕ). choose (t (f a)) 0 (suc n)) (ahead_map t f l)

-- one stands before the other here as there
abbrev Alike : ℕ → ℕ → ℕ → ℕ → Type 0
Alike m n k l = (m < n) ↔ (k < l)

-- so it does with one more in front of both, whether that passes or not
alike_more : (x y : Bool) (m n k l : ℕ) → (x ≡ false → y ≡ false → Alike m n k l)
    → Alike (choose x 0 (suc m)) (choose y 0 (suc n)) (choose x 0 (suc k)) (choose y 0 (suc l))
alike_more true true m n k l h = (λ p. p, λ p. p)
alike_more true false m n k l h = (λ p. omega arith, λ p. omega arith)
alike_more false true m n k l h = (λ p. absurd (omega (arith, p)), λ p. absurd (omega (arith, p)))
alike_more false false m n k l h =
    let i = h refl refl in
    (λ p. omega (arith, i.0 (omega (arith, p))), λ p. omega (arith, i.1 (omega (arith, p))))

module _ {A : Type 0} (p q t : A → Bool) where
  -- also without members that pass neither test
  ahead_filter : (l : List A) → Every (λ (a : A). p a ≡ true → t a ≡ true) l → Every (λ (a : A). q a ≡ true → t a ≡ true) l
      → Alike (ahead p (filter t l)) (ahead q (filter t l)) (ahead p l) (ahead q l)
  ahead_filter [] h k = (λ x. x, λ x. x)
  ahead_filter (a ∷ l) h k = go (t a) refl (ahead_filter l (every_rest h) (every_rest k))
    where
      out : (r : A → Bool) → (r a ≡ true → t a ≡ true) → t a ≡ false → r a ≡ false
      out r f e = ⊎_elim (λ (y : r a ≡ true). clash (f y) e) (λ (y : r a ≡ false). y) (decide (r a))

      neither : (x y : Bool) → x ≡ false → y ≡ false → Alike (ahead p (filter t l)) (ahead q (filter t l)) (ahead p l) (ahead q l)
          → Alike (ahead p (filter t l)) (ahead q (filter t l)) (choose x 0 (suc (ahead p l))) (choose y 0 (suc (ahead q l)))
      neither true y e f i = clash refl e
      neither false true e f i = clash refl f
      neither false false e f i = (λ z. omega (arith, i.0 z), λ z. i.1 (omega (arith, z)))

      go : (b : Bool) → t a ≡ b → Alike (ahead p (filter t l)) (ahead q (filter t l)) (ahead p l) (ahead q l)
          → Alike (ahead p (put b a (filter t l))) (ahead q (put b a (filter t l))) (choose (p a) 0 (suc (ahead p l))) (choose (q a) 0 (suc (ahead q l)))
      go true e i = alike_more (p a) (q a) _ _ _ _ (λ _ _. i)
      go false e i = neither (p a) (q a) (out p (every_first h) e) (out q (every_first k) e) i

-- ---- a name's number is its place

pub number_ahead : (names : List Word) (n : Word) → number_of names n ≡ ahead (same n) names
number_ahead [] n = refl
number_ahead (w ∷ names) n = ap (λ (k : ℕ). choose (same n w) 0 (suc k)) (number_ahead names n)

pub number_most : (names : List Word) (n : Word) → number_of names n ≤ length names
number_most names n = omega (arith, number_ahead names n, ahead_length (same n) names)

-- names with one number are one name
pub number_tells : (names : List Word) (v w : Word) → v ∈ names → number_of names v ≡ number_of names w → v ≡ w
number_tells [] v w i e = absurd (Memᴰ.not-nil i)
number_tells (n ∷ names) v w i e = go (same v n) refl (same w n) refl e (Memᴰ.cases_cons i) (number_tells names v w)
  where
    go : (x : Bool) → same v n ≡ x → (y : Bool) → same w n ≡ y → choose x 0 (suc (number_of names v)) ≡ choose y 0 (suc (number_of names w))
        → (v ≡ n) ⊎ (v ∈ names) → (v ∈ names → number_of names v ≡ number_of names w → v ≡ w) → v ≡ w
    go true p true q e i ih = same_true v n p ∙ sym (same_true w n q)
    go true p false q e i ih = absurd (omega (arith, e))
    go false p true q e i ih = absurd (omega (arith, e))
    go false p false q e (inl j) ih = clash (subst (λ (z : Word). same v z ≡ true) j (same_refl v)) p
    go false p false q e (inr j) ih = ih j (omega (arith, e))

-- ---- `firsts`: the same names, each once, in the order of first appearance

pub firsts_from : (ws : List Word) (w : Word) → w ∈ firsts ws → w ∈ ws
unfolding firsts
firsts_from [] w i = i
firsts_from (v ∷ ws) w i = go (Memᴰ.cases_cons i) (firsts_from ws w)
  where
    go : (w ≡ v) ⊎ (w ∈ filter (λ u. not (same u v)) (firsts ws)) → (w ∈ firsts ws → w ∈ ws) → w ∈ v ∷ ws
    go (inl e) ih = Memᴰ.head e
    go (inr j) ih = there (ih (filter_from (λ u. not (same u v)) (firsts ws) j).0)

pub firsts_has : (ws : List Word) (w : Word) → w ∈ ws → w ∈ firsts ws
unfolding firsts
firsts_has [] w i = i
firsts_has (v ∷ ws) w i = go (same w v) refl (Memᴰ.cases_cons i) (firsts_has ws w)
  where
    go : (t : Bool) → same w v ≡ t → (w ≡ v) ⊎ (w ∈ ws) → (w ∈ ws → w ∈ firsts ws) → w ∈ v ∷ filter (λ u. not (same u v)) (firsts ws)
    go true e j ih = Memᴰ.head (same_true w v e)
    go false e (inl j) ih = Memᴰ.head j
    go false e (inr j) ih = there (filter_has (λ u. not (same u v)) (firsts ws) (ih j) (ap not e))

pub firsts_once : (ws : List Word) → Once (firsts ws)
unfolding firsts
firsts_once [] = tt
firsts_once (v ∷ ws) = (
  λ u i e.
      clash (subst (λ (z : Word). same z v ≡ true) e (same_refl v))
      (not-true (same u v) (filter_from (λ u. not (same u v)) (firsts ws) i).1),
  pairwise_filter (λ a b. a ≡ b → ⊥) (λ u. not (same u v)) (firsts ws) (firsts_once ws),
)

firsts_ahead : (ws : List Word) (v w : Word) → Alike (ahead (same v) (firsts ws)) (ahead (same w) (firsts ws)) (ahead (same v) ws) (ahead (same w) ws)
unfolding firsts
firsts_ahead [] v w = (λ p. p, λ p. p)
firsts_ahead (u ∷ ws) v w = alike_more (same v u) (same w u) _ _ _ _ (behind (firsts_ahead ws v w))
  where
    stays : (x : Word) → same x u ≡ false → Every (λ (y : Word). same x y ≡ true → not (same y u) ≡ true) (firsts ws)
    stays x e y i q = ap not (subst (λ (z : Word). same z u ≡ false) (same_true x y q) e)

    behind : Alike (ahead (same v) (firsts ws)) (ahead (same w) (firsts ws)) (ahead (same v) ws) (ahead (same w) ws) → same v u ≡ false → same w u ≡ false
        → Alike (ahead (same v) (filter (λ y. not (same y u)) (firsts ws))) (ahead (same w) (filter (λ y. not (same y u)) (firsts ws)))
        (ahead (same v) ws) (ahead (same w) ws)
    behind j e f =
        let i = ahead_filter (same v) (same w) (λ y. not (same y u)) (firsts ws) (stays v e) (stays w f) in
        (λ p. j.0 (i.0 p), λ p. i.1 (j.1 p))

-- v has the lower number among the firsts exactly if it is met before w
pub firsts_order : (ws : List Word) (v w : Word) → (number_of (firsts ws) v < number_of (firsts ws) w) ↔ (number_of ws v < number_of ws w)
firsts_order ws v w =
    subst (λ (m : ℕ). (m < number_of (firsts ws) w) ↔ (number_of ws v < number_of ws w)) (sym (number_ahead (firsts ws) v))
    (subst (λ (m : ℕ). (ahead (same v) (firsts ws) < m) ↔ (number_of ws v < number_of ws w)) (sym (number_ahead (firsts ws) w))
    (subst (λ (m : ℕ). (ahead (same v) (firsts ws) < ahead (same w) (firsts ws)) ↔ (m < number_of ws w)) (sym (number_ahead ws v))
    (subst (λ (m : ℕ). (ahead (same v) (firsts ws) < ahead (same w) (firsts ws)) ↔ (ahead (same v) ws < m)) (sym (number_ahead ws w))
    (firsts_ahead ws v w))))

-- ---- the names of a document

module _ (kind : Atom → Bool) (ms : List Atom) where
  names_has : (a : Atom) → a ∈ ms → kind a ≡ true → a.name ∈ names_of kind ms
  names_has a i e = firsts_has _ a.name (∈_map (λ (b : Atom). b.name) (filter_has kind ms i e))

  pub names_from_lem : (n : Word) → n ∈ names_of kind ms → (a : Atom) × (a ∈ ms) × (kind a ≡ true) × (n ≡ a.name)
  names_from_lem n i =
      let m = map_∈ (λ (b : Atom). b.name) (filter kind ms) (firsts_from _ n i) in
      let f = filter_from kind ms m.1 in
      (m.0, f.0, f.1, m.2)

  -- where every mention of v and of w is of the kind
  names_ahead : (v w : Word) → Every (λ (a : Atom). same v a.name ≡ true → kind a ≡ true) ms → Every (λ (a : Atom). same w a.name ≡ true → kind a ≡ true) ms
      → Alike (ahead (same v) (names_of kind ms)) (ahead (same w) (names_of kind ms))
      (ahead (λ (a : Atom). same v a.name) ms) (ahead (λ (a : Atom). same w a.name) ms)
  names_ahead v w h k =
      let name : Atom → Word = λ (a : Atom). a.name in
      let i = firsts_ahead (map name (filter kind ms)) v w in
      let j = ahead_filter (λ (a : Atom). same v a.name) (λ (a : Atom). same w a.name) kind ms h k in
      let e = ahead_map (same v) name (filter kind ms) in
      let f = ahead_map (same w) name (filter kind ms) in
      (λ p. j.0 (omega (arith, e, f, i.0 p)), λ p. i.1 (omega (arith, e, f, j.1 p)))

has_any : (n : Word) (l : List Word) → n ∈ l → any (same n) l ≡ true
has_any n l i = some_any (same n) l (n, i, same_refl n)

-- two atoms of the document with one name, one marked and one not
pub record Clash (d : Document) : Type 0 where
  pub with_abd : Atom
  pub without : Atom
  pub first_there : with_abd ∈ mentions d
  pub second_there : without ∈ mentions d
  pub is_marked_lem : with_abd.marked ≡ true
  pub is_bare : without.marked ≡ false
  pub one_name : with_abd.name ≡ without.name

-- 51: "a name stands both with and without `abd`"
pub clashing_clash : (d : Document) → (clashing d ≡ true) ↔ Clash d
clashing_clash d = (to, back)
  where
    to : clashing d ≡ true → Clash d
    to e =
        let s = any_some (λ n. any (same n) (others d)) (abducibles d) e in
        let o = any_some (same s.0) (others d) s.2 in
        let a = names_from_lem (λ a. a.marked) (mentions d) s.0 s.1 in
        let b = names_from_lem (λ a. not a.marked) (mentions d) o.0 o.1 in
        record {
          with_abd = a.0;
          without = b.0;
          first_there = a.1;
          second_there = b.1;
          is_marked_lem = a.2;
          is_bare = not-true b.0.marked b.2;
          one_name = sym a.3 ∙ same_true s.0 o.0 o.2 ∙ b.3;
        }

    back : Clash d → clashing d ≡ true
    back c =
        some_any (λ n. any (same n) (others d)) (abducibles d) (
          c.with_abd.name,
          names_has (λ a. a.marked) (mentions d) c.with_abd c.first_there c.is_marked_lem,
          subst (λ (n : Word). any (same n) (others d) ≡ true) (sym c.one_name)
              (has_any c.without.name (others d) (names_has (λ a. not a.marked) (mentions d) c.without c.second_there (ap not c.is_bare))),
        )

-- ---- the numbers of a document's atoms

-- an atom's number, and how many mentions stand before the first of its name
abbrev pub number : Document → Atom → ℕ
number d a = number_of (numbered d) a.name

abbrev pub place : Document → Atom → ℕ
place d a = ahead (λ (b : Atom). same a.name b.name) (mentions d)

module _ (d : Document) (a : Atom) (i : a ∈ mentions d) where
  in_numbered : a.name ∈ numbered d
  in_numbered =
      ⊎_elim (λ (e : a.marked ≡ true). ∈_left (others d) (names_has (λ a. a.marked) (mentions d) a i e))
      (λ (e : a.marked ≡ false). ∈_right (abducibles d) (names_has (λ a. not a.marked) (mentions d) a i (ap not e)))
      (decide a.marked)

  -- every atom has a number
  pub known : number d a < length (numbered d)
  known =
      let e : any (same a.name) (numbered d) ≡ true = has_any a.name (numbered d) in_numbered in
      omega (arith, number_ahead (numbered d) a.name, (ahead_left (same a.name) (numbered d) [] e).1)

  marked_number : a.marked ≡ true → (number d a ≡ ahead (same a.name) (abducibles d)) × (number d a < length (abducibles d))
  marked_number e =
      let l = ahead_left (same a.name) (abducibles d) (others d) (has_any a.name (abducibles d) (names_has (λ a. a.marked) (mentions d) a i e)) in
      (number_ahead (numbered d) a.name ∙ l.0, omega (arith, number_ahead (numbered d) a.name, l.0, l.1))

  module _ (clear : clashing d ≡ false) where
    -- every mention of a name is of one kind
    one_kind : (b : Atom) → b ∈ mentions d → same a.name b.name ≡ true → b.marked ≡ a.marked
    one_kind b j e = go b.marked refl a.marked refl
      where
        n : a.name ≡ b.name
        n = same_true a.name b.name e

        go : (x : Bool) → b.marked ≡ x → (y : Bool) → a.marked ≡ y → x ≡ y
        go true p true q = refl
        go false p false q = refl
        go true p false q =
            clash ((clashing_clash d).1 (record { with_abd = b; without = a; first_there = j; second_there = i; is_marked_lem = p; is_bare = q; one_name = sym n })) clear
        go false p true q =
            clash ((clashing_clash d).1 (record { with_abd = a; without = b; first_there = i; second_there = j; is_marked_lem = q; is_bare = p; one_name = n })) clear

    bare_number : a.marked ≡ false → number d a ≡ length (abducibles d) + ahead (same a.name) (others d)
    bare_number e =
        number_ahead (numbered d) a.name
        ∙ ahead_append (same a.name) (abducibles d) (others d) (⊎_elim none (λ (q : any (same a.name) (abducibles d) ≡ false). q) (decide (any (same a.name) (abducibles d))))
      where
        none : any (same a.name) (abducibles d) ≡ true → any (same a.name) (abducibles d) ≡ false
        none q =
            let s = any_some (same a.name) (abducibles d) q in
            let m = names_from_lem (λ a. a.marked) (mentions d) s.0 s.1 in
            let k : m.0.marked ≡ a.marked = one_kind m.0 m.1 (subst (λ (n : Word). same a.name n ≡ true) m.3 s.2) in
            clash m.2 (k ∙ e)

    -- an atom is marked exactly if its number is below B
    pub marked_below : (a.marked ≡ true) ↔ (number d a < length (abducibles d))
    marked_below = (λ e. (marked_number e).1, λ h. ⊎_elim (λ (e : a.marked ≡ true). e) (λ (e : a.marked ≡ false). absurd (omega (arith, bare_number e, h))) (decide a.marked))

-- of two atoms of one kind the one whose name is met first has the lower number
pub first_lower : (d : Document) → clashing d ≡ false → (a b : Atom) → a ∈ mentions d → b ∈ mentions d → a.marked ≡ b.marked
    → (number d a < number d b) ↔ (place d a < place d b)
first_lower d clear a b i j e = go b.marked refl
  where
    go : (x : Bool) → b.marked ≡ x → (number d a < number d b) ↔ (place d a < place d b)
    go true q =
        let k = names_ahead (λ a. a.marked) (mentions d) a.name b.name (λ c m s. one_kind d a i clear c m s ∙ e ∙ q) (λ c m s. one_kind d b j clear c m s ∙ q) in
        let p = (marked_number d a i (e ∙ q)).0 in
        let r = (marked_number d b j q).0 in
        (λ h. k.0 (omega (arith, p, r, h)), λ h. omega (arith, p, r, k.1 h))
    go false q =
        let k = names_ahead (λ a. not a.marked) (mentions d) a.name b.name (λ c m s. ap not (one_kind d a i clear c m s ∙ e ∙ q)) (λ c m s. ap not (one_kind d b j clear c m s ∙ q)) in
        let p = bare_number d a i clear (e ∙ q) in
        let r = bare_number d b j clear q in
        (λ h. k.0 (omega (arith, p, r, h)), λ h. omega (arith, p, r, k.1 h))

-- ---- all of it

-- where no name stands twice, each number is some name's
number_used : (names : List Word) → Once names → (n : ℕ) → n < length names → (w : Word) × (w ∈ names) × (number_of names w ≡ n)
number_used [] o n h = absurd (omega (arith, h))
number_used (w ∷ names) o zero h = (w, here, ap (λ (t : Bool). choose t 0 (suc (number_of names w))) (same_refl w))
number_used (w ∷ names) o (suc n) h = go (number_used names o.1 n (omega (arith, h)))
  where
    go : (v : Word) × (v ∈ names) × (number_of names v ≡ n) → (v : Word) × (v ∈ w ∷ names) × (number_of (w ∷ names) v ≡ suc n)
    go (v, i, e) =
        let other : same v w ≡ false = ⊎_elim (λ (q : same v w ≡ true). absurd (o.0 v i (sym (same_true v w q)))) (λ (q : same v w ≡ false). q) (decide (same v w)) in
        (v, there i, ap (λ (t : Bool). choose t 0 (suc (number_of names v))) other ∙ ap suc e)

numbered_once : (d : Document) → clashing d ≡ false → Once (numbered d)
numbered_once d clear =
    pairwise_append (λ a b. a ≡ b → ⊥) (abducibles d) (others d) (firsts_once _) (firsts_once _) λ n i m j e.
    clash (some_any (λ n. any (same n) (others d)) (abducibles d) (n, i, some_any (same n) (others d) (m, j, subst (λ (z : Word). same n z ≡ true) e (same_refl n)))) clear

-- "The atoms' numbers follow the text: first the abducibles, as each is met for the first time, then the others likewise."
pub record Numbers (d : Document) : Type 0 where
  -- the numbers are those below A
  pub below : (a : Atom) → a ∈ mentions d → number d a < length (numbered d)
  pub used : (n : ℕ) → n < length (numbered d) → (a : Atom) × (a ∈ mentions d) × (number d a ≡ n)
  -- atoms with one number have one name
  pub tells : (a b : Atom) → a ∈ mentions d → b ∈ mentions d → number d a ≡ number d b → a.name ≡ b.name
  -- the marked ones have those below B
  pub kinds : (a : Atom) → a ∈ mentions d → (a.marked ≡ true) ↔ (number d a < length (abducibles d))
  -- and in each kind the one that is met first has the lower number
  pub order : (a b : Atom) → a ∈ mentions d → b ∈ mentions d → a.marked ≡ b.marked → (number d a < number d b) ↔ (place d a < place d b)

pub numbers : (d : Document) → clashing d ≡ false → Numbers d
numbers d clear =
    record {
      below = known d;
      used = used;
      tells = λ a b i j e. number_tells (numbered d) a.name b.name (in_numbered d a i) e;
      kinds = λ a i. marked_below d a i clear;
      order = first_lower d clear;
    }
  where
    mentioned : (w : Word) → (w ∈ abducibles d) ⊎ (w ∈ others d) → (a : Atom) × (a ∈ mentions d) × (w ≡ a.name)
    mentioned w (inl i) = let m = names_from_lem (λ a. a.marked) (mentions d) w i in (m.0, m.1, m.3)
    mentioned w (inr i) = let m = names_from_lem (λ a. not a.marked) (mentions d) w i in (m.0, m.1, m.3)

    used : (n : ℕ) → n < length (numbered d) → (a : Atom) × (a ∈ mentions d) × (number d a ≡ n)
    used n h =
        let u = number_used (numbered d) (numbered_once d clear) n h in
        let m = mentioned u.0 (∈_split (abducibles d) u.1) in
        (m.0, m.1, ap (number_of (numbered d)) (sym m.2) ∙ u.2)
