-- The search tree is finite for every book, since a number falls from each node to each of its children; and its nodes in visiting order
-- are the only ones that the rules allow.
-- Assumes nothing.
use Prim.Native.Nat.{ℕ, zero, suc, ◌+◌, ◌≤◌, ◌<◌}
use native.Mathlib.Omega.{arith}
use Rattle.std.specs.Prelude.{◌≡◌, refl, Bool, true, false, not, ◌||◌, ◌⊎◌, eqb}
use Rattle.std.proofs.Common.{sym, ap₂, subst, ◌∙◌, inl, inr, ⊎_elim, eqb-true, ne_eqb}
use Rattle.std.proofs.Math.Path.{ap}
use mathlib.Core.List.Memᴰ
use mathlib.Core.List.{List, [], ◌∷◌, ◌++◌, map}
use Rattle.std.proofs.Math.ListN.{length}
use Rattle.base.specs.paper.Bools.{choose}
use Rattle.base.specs.paper.Lists.{◌∈◌, Every, flat, sum, filter, put}
use Rattle.base.specs.Lists.{Some, here, there, every_first, every_rest}
use Rattle.base.specs.Tests.{fails_any}
use Rattle.base.specs.Flat.{map_∈, ∈_flat, flat_∈, sum_append, sum_part, sum_same, sum_map}
use Rattle.image.specs.paper.Book.{Lit, Clause, Book}
use Rattle.meaning.specs.paper.Meaning.{abducible, clauses_for}
use Rattle.searching.specs.paper.Rules.{opposite, opposites, Task, want, break, Node, unfolds, opens, children}
use Rattle.searching.proofs.Results.{Result, gone, joins, picks, Child, child, child_of}
use Rattle.searching.specs.paper.Tree.{weight, marked, waiting, potential, descend, visits}

-- literals of one atom are the same or opposite
pub same_or_opposite : (m l : Lit) → m.atom ≡ l.atom → (m ≡ l) ⊎ (m ≡ opposite l)
same_or_opposite m l e = go m.sign l.sign refl refl
  where
    go : (s t : Bool) → m.sign ≡ s → l.sign ≡ t → (m ≡ l) ⊎ (m ≡ opposite l)
    go true true p q = inl (λ i. record { atom = e i; sign = (p ∙ sym q) i })
    go true false p q = inr (λ i. record { atom = e i; sign = (p ∙ sym (ap not q)) i })
    go false true p q = inr (λ i. record { atom = e i; sign = (p ∙ sym (ap not q)) i })
    go false false p q = inl (λ i. record { atom = e i; sign = (p ∙ sym q) i })

pub unmarked : (s : List Lit) (l : Lit) → (opposite l ∈ s → ⊥) → (l ∈ s → ⊥) → marked s l.atom ≡ false
unfolding marked
unmarked s l p q = fails_any (λ (m : Lit). eqb l.atom m.atom) s (λ m k. ne_eqb l.atom m.atom (λ e. apart m k (same_or_opposite m l (sym e))))
  where
    apart : (m : Lit) → m ∈ s → (m ≡ l) ⊎ (m ≡ opposite l) → ⊥
    apart m k (inl e) = q (subst (λ (x : Lit). x ∈ s) e k)
    apart m k (inr e) = p (subst (λ (x : Lit). x ∈ s) e k)

-- what the clauses for an atom can bring
abbrev brings : List Clause → ℕ
brings cs = sum (λ (c : Clause). suc (length c.body)) cs

-- where a literal joins the sheet, its clauses have brought what they can
spend : (s : List Lit) (l : Lit) → marked s l.atom ≡ false → (cs : List Clause)
    → sum (waiting s) cs ≡ sum (waiting (l ∷ s)) cs + brings (filter (λ (c : Clause). eqb c.head l.atom) cs)
unfolding marked
spend s l u [] = refl
spend s l u (c ∷ cs) = go (eqb c.head l.atom) refl (spend s l u cs)
  where
    w : ℕ
    w = suc (length c.body)

    go : (t : Bool) → eqb c.head l.atom ≡ t
        → sum (waiting s) cs ≡ sum (waiting (l ∷ s)) cs + brings (filter (λ (c : Clause). eqb c.head l.atom) cs)
        → waiting s c + sum (waiting s) cs
        ≡ choose (t || marked s c.head) 0 w + sum (waiting (l ∷ s)) cs + brings (put t c (filter (λ (c : Clause). eqb c.head l.atom) cs))
    go true e ih =
        let h : waiting s c ≡ w = ap (λ (r : Bool). choose r 0 w) (ap (marked s) (eqb-true c.head l.atom e) ∙ u) in
        omega arith
    go false e ih = omega arith

pub wants_weight : (ls : List Lit) → sum weight (map want ls) ≡ length ls
wants_weight [] = refl
wants_weight (l ∷ ls) = omega (arith, wants_weight ls)

pub opposites_length : (ls : List Lit) → sum length (opposites ls) ≡ length ls
opposites_length [] = refl
opposites_length (l ∷ ls) = omega (arith, opposites_length ls)

-- what a literal opens costs no more than its clauses can bring
opens_weight : (b : Book) (l : Lit) (ts : List Task) → ts ∈ opens b l → sum weight ts ≤ brings (clauses_for b l.atom)
opens_weight b l ts m = go (abducible b l.atom) l.sign m
  where
    cs : List Clause
    cs = clauses_for b l.atom

    go : (a s : Bool) → ts ∈ choose a ([] ∷ []) (unfolds s (clauses_for b l.atom)) → sum weight ts ≤ brings (clauses_for b l.atom)
    go true s k = omega (arith, ap (sum weight) (Memᴰ.eq_of_singleton k))
    go false true k =
        let w = map_∈ (λ (c : Clause). map want c.body) cs k in
        omega (arith, ap (sum weight) w.2, wants_weight w.0.body, sum_part (λ (c : Clause). suc (length c.body)) cs w.1)
    go false false k =
        omega
        (arith, ap (sum weight) (Memᴰ.eq_of_singleton k), sum_map weight break cs, sum_same (λ (c : Clause). weight (break c)) (λ (c : Clause). suc (length c.body)) cs (λ c. ap suc (opposites_length c.body)))

flat_same : {A B : Type 0} (f g : B → List A) (l : List B) → Every (λ (x : B). f x ≡ g x) l → flat f l ≡ flat g l
flat_same f g [] h = refl
flat_same f g (x ∷ l) h = ap₂ ◌++◌ (every_first h) (flat_same f g l (every_rest h))

module _ (book : Book) where
  result_falls : {s : List Lit} {t : Task} {n : Node} → Result book s t n → potential book n < weight t + sum (waiting s) book.clauses
  unfolding potential clauses_for
  result_falls (gone p q) = omega arith
  result_falls {s} (joins {l} {ts} p q m) = omega (arith, opens_weight book l ts m, spend s l (unmarked s l p q) book.clauses)
  result_falls (picks {ways} {way} m) = omega (arith, wants_weight way, sum_part length ways m)

  -- The potential falls from each node to each of its children.
  pub falls : {n c : Node} → Child book n c → potential book c < potential book n
  unfolding potential
  falls (child {t} {rest} {s} {n} r) = omega (arith, result_falls r, sum_append weight n.agenda rest)

  -- What holds of a node whenever it holds of its children holds of every node.
  pub by_children : (P : Node → Type 0) → ((n : Node) → ((c : Node) → c ∈ children book n → P c) → P n) → (n : Node) → P n
  by_children P step n = go (suc (potential book n)) n (omega arith)
    where
      go : (k : ℕ) (m : Node) → potential book m < k → P m
      go zero m h = absurd (omega arith)
      go (suc k) m h = step m (λ c i. go k c (omega (arith, falls (child_of book m i))))

  -- more depth than the potential changes nothing
  deep : (j k : ℕ) (n : Node) → potential book n < j → potential book n < k → descend book j n ≡ descend book k n
  unfolding descend
  deep zero k n p q = absurd (omega arith)
  deep (suc j) zero n p q = absurd (omega arith)
  deep (suc j) (suc k) n p q =
      ap (λ (l : List Node). n ∷ l)
      (flat_same (descend book j) (descend book k) (children book n)
      (λ c m. deep j k c (omega (arith, falls (child_of book n m))) (omega (arith, falls (child_of book n m)))))

  -- The tree is its node and, one after the other, the trees of its children.
  pub visits_law : (n : Node) → visits book n ≡ n ∷ flat (visits book) (children book n)
  unfolding visits descend
  visits_law n =
      ap (λ (l : List Node). n ∷ l)
      (flat_same (descend book (potential book n)) (visits book) (children book n)
      (λ c m. deep (potential book n) (suc (potential book c)) c (falls (child_of book n m)) (omega arith)))

  -- Nothing else is so.
  pub visits_only : (f : Node → List Node) → ((n : Node) → f n ≡ n ∷ flat f (children book n)) → (n : Node) → f n ≡ visits book n
  visits_only f law =
      by_children (λ (n : Node). f n ≡ visits book n)
      (λ n ih. law n ∙ ap (λ (l : List Node). n ∷ l) (flat_same f (visits book) (children book n) ih) ∙ sym (visits_law n))

  -- a node of the tree is its first node or a node of a child's tree
  pub visits_cases : (n : Node) {x : Node} → x ∈ visits book n → (x ≡ n) ⊎ Some (λ (c : Node). x ∈ visits book c) (children book n)
  visits_cases n {x} m =
      ⊎_elim (λ (e : x ≡ n). inl e) (λ (k : x ∈ flat (visits book) (children book n)). inr (flat_∈ (visits book) (children book n) k))
      (Memᴰ.cases_cons (subst (λ (l : List Node). x ∈ l) (visits_law n) m))

  pub visits_here : (n : Node) → n ∈ visits book n
  visits_here n = subst (λ (l : List Node). n ∈ l) (sym (visits_law n)) here

  pub visits_below : (n c : Node) {x : Node} → c ∈ children book n → x ∈ visits book c → x ∈ visits book n
  visits_below n c {x} m k = subst (λ (l : List Node). x ∈ l) (sym (visits_law n)) (there (∈_flat (visits book) (children book n) m k))
