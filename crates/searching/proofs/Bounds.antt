-- How deep the tree goes and how much a search must hold, from the limits of an accepted book: no path has more than 2,704 steps, and
-- never more than 896 steps of a path are such that something must be undone or chosen again.
-- Assumes nothing.
use Rattle.std.specs.Prelude.{ℕ, suc, ◌+◌, ◌≤◌, ◌<◌, ◌≡◌, refl, Bool, true, false, ◌||◌, ◌⊎◌, List, [], ◌∷◌, map, eqb, length}
use native.Mathlib.Omega.{arith}
use Rattle.std.proofs.Common.{sym, ap, subst, ◌∙◌, inl, inr, eq-eqb}
use mathlib.Core.List.Memᴰ
use Rattle.base.specs.paper.Bools.{choose}
use Rattle.base.specs.Bools.{choose_true, choose_false}
use Rattle.base.specs.paper.Lists.{◌∈◌, Every, sum, filter, put, below}
use Rattle.base.specs.Lists.{every_none, every_more, every_first, every_rest, every_both}
use Rattle.base.specs.Flat.{map_∈, every_map, sum_append, sum_map, sum_same, sum_less, sum_add, sum_none, sum_sucs}
use Rattle.base.specs.Below.{below_in, below_once, length_below}
use Rattle.image.specs.paper.Book.{Lit, Clause, Constraint, Book}
use Rattle.image.specs.Sound.{Known, Orderly}
use Rattle.meaning.specs.paper.Meaning.{abducible, clauses_for}
use Rattle.meaning.proofs.Model.{for_clause}
use Rattle.searching.specs.paper.Rules.{opposite, opposites, Task, want, pick, break, keep, Node, root, on, unfolds, opens}
use Rattle.searching.specs.paper.Seek.{root_with}
use Rattle.searching.proofs.Results.{∈_on, ∉_off, Result, gone, joins, picks, Child, child}
use Rattle.searching.specs.paper.Tree.{weight, marked, potential}
use Rattle.searching.specs.Bounds.{held, literals, choice, free, frames, Named}
use Rattle.searching.proofs.TreeLaws.{unmarked, falls, opposites_length, wants_weight}

-- x stands k steps below n, and h of these must be held
pub data Down (b : Book) : Node → ℕ → ℕ → Node → Type 0 where
  stay : {n : Node} → Down b n 0 0 n
  step : {t : Task} {rest : List Task} {s : List Lit} {c x : Node} {k h : ℕ} → Child b (record { agenda = t ∷ rest; sheet = s }) c → Down b c k h x
      → Down b (record { agenda = t ∷ rest; sheet = s }) (suc k) (held s t + h) x

-- A path has no more steps than its first node's potential.
pub steps_bound : (b : Book) {n x : Node} {k h : ℕ} → Down b n k h x → k + potential b x ≤ potential b n
steps_bound b stay = omega arith
steps_bound b (step c d) = omega (arith, falls b c, steps_bound b d)

keep_weight : (k : Constraint) → weight (keep k) ≡ suc (literals k)
keep_weight k = omega (arith, sum_append length (opposites k.conditions) k.alternatives, opposites_length k.conditions)

-- The root's potential: all literals, and one for each clause and each constraint.
pub root_potential : (b : Book)
    → potential b (root b)
    ≡ length b.goal + (length b.constraints + sum literals b.constraints) + (length b.clauses + sum (λ (c : Clause). length c.body) b.clauses)
unfolding potential marked
root_potential b =
    omega (
      arith,
      sum_append weight (map want b.goal) (map keep b.constraints),
      wants_weight b.goal,
      sum_map weight keep b.constraints,
      sum_same (λ (k : Constraint). weight (keep k)) (λ (k : Constraint). suc (literals k)) b.constraints keep_weight,
      sum_sucs literals b.constraints,
      sum_sucs (λ (c : Clause). length c.body) b.clauses,
    )

choices_wanted : (ls : List Lit) → sum choice (map want ls) ≡ 0
choices_wanted [] = refl
choices_wanted (l ∷ ls) = omega (arith, choices_wanted ls)

choices_breaking : (cs : List Clause) → sum choice (map break cs) ≡ length cs
choices_breaking [] = refl
choices_breaking (c ∷ cs) = omega (arith, choices_breaking cs)

-- a literal opens no more choices than its atom has clauses
opens_choices : (b : Book) (l : Lit) (ts : List Task) → ts ∈ opens b l → sum choice ts ≤ length (clauses_for b l.atom)
opens_choices b l ts m = go (abducible b l.atom) l.sign m
  where
    go : (a s : Bool) → ts ∈ choose a ([] ∷ []) (unfolds s (clauses_for b l.atom)) → sum choice ts ≤ length (clauses_for b l.atom)
    go true s k = omega (arith, ap (sum choice) (Memᴰ.eq_of_singleton k))
    go false true k =
        let w = map_∈ (λ (c : Clause). map want c.body) (clauses_for b l.atom) k in
        omega (arith, ap (sum choice) w.2, choices_wanted w.0.body)
    go false false k = omega (arith, ap (sum choice) (Memᴰ.eq_of_singleton k), choices_breaking (clauses_for b l.atom))

-- joining sets its atom's share free
free_less : (b : Book) (s : List Lit) (l : Lit) (p : ℕ) → free b (l ∷ s) p ≤ free b s p
unfolding marked
free_less b s l p = go (eqb p l.atom)
  where
    go : (t : Bool) → choose (t || marked s p) 0 (suc (length (clauses_for b p))) ≤ choose (marked s p) 0 (suc (length (clauses_for b p)))
    go true = omega arith
    go false = omega arith

join_frees : (b : Book) (s : List Lit) (l : Lit) → marked s l.atom ≡ false → (ps : List ℕ) → l.atom ∈ ps
    → sum (free b (l ∷ s)) ps + suc (length (clauses_for b l.atom)) ≤ sum (free b s) ps
unfolding marked
join_frees b s l u [] m = absurd (Memᴰ.not-nil m)
join_frees b s l u (p ∷ ps) m = go (Memᴰ.cases_cons m) (join_frees b s l u ps)
  where
    share : ℕ
    share = suc (length (clauses_for b l.atom))

    go : (l.atom ≡ p) ⊎ (l.atom ∈ ps) → (l.atom ∈ ps → sum (free b (l ∷ s)) ps + share ≤ sum (free b s) ps)
        → (free b (l ∷ s) p + sum (free b (l ∷ s)) ps) + share ≤ free b s p + sum (free b s) ps
    go (inl e) ih =
        let new : free b (l ∷ s) p ≡ 0 = ap (λ (t : Bool). choose (t || marked s p) 0 (suc (length (clauses_for b p)))) (eq-eqb p l.atom (sym e)) in
        let old : free b s p ≡ share = ap (free b s) (sym e) ∙ choose_false 0 share u in
        omega (arith, sum_less (free b (l ∷ s)) (free b s) ps (free_less b s l))
    go (inr k) ih = omega (arith, ih k, free_less b s l p)

known_named : (b : Book) (ls : List Lit) → Known b ls → Every (Named b) (map want ls)
known_named b ls h = every_map (Named b) want ls h

opposites_known : (b : Book) (ls : List Lit) → Known b ls → Every (Known b) (opposites ls)
opposites_known b ls h = every_map (Known b) (λ (l : Lit). opposite l ∷ []) ls (λ l m. every_more (h l m) (every_none (λ (k : Lit). k.atom < b.atoms)))

module _ (book : Book) where
  result_frames : {s : List Lit} {t : Task} {n : Node} → Named book t → Result book s t n → held s t + frames book n ≤ choice t + sum (free book s) (below book.atoms)
  unfolding frames held
  result_frames {s} h (gone {l} p q) = omega (arith, choose_true {A = ℕ} 0 1 (∈_on s l q))
  result_frames {s} h (joins {l} {ts} p q m) =
      omega (
        arith,
        choose_false {A = ℕ} 0 1 (∉_off s l q),
        opens_choices book l ts m,
        join_frees book s l (unmarked s l p q) (below book.atoms) (below_in book.atoms l.atom h),
      )
  result_frames h (picks {way = way} m) = omega (arith, choices_wanted way)

  -- What must still be held never rises from a node to its children, and falls at each step that is held.
  pub frames_fall : {t : Task} {rest : List Task} {s : List Lit} {c : Node} → Named book t → Child book (record { agenda = t ∷ rest; sheet = s }) c
      → held s t + frames book c ≤ frames book (record { agenda = t ∷ rest; sheet = s })
  unfolding frames
  frames_fall h (child {t} {rest} {s} {n} r) = omega (arith, result_frames h r, sum_append choice n.agenda rest)

module _ (book : Book) (orderly : Orderly book) where
  opens_named : (l : Lit) (ts : List Task) → ts ∈ opens book l → Every (Named book) ts
  opens_named l ts m = go (abducible book l.atom) l.sign m
    where
      body : (c : Clause) → c ∈ clauses_for book l.atom → Known book c.body
      body c i = orderly.bodies_known c (for_clause book l.atom i).0

      go : (a s : Bool) → ts ∈ choose a ([] ∷ []) (unfolds s (clauses_for book l.atom)) → Every (Named book) ts
      go true s k = subst (Every (Named book)) (sym (Memᴰ.eq_of_singleton k)) (every_none (Named book))
      go false true k =
          let w = map_∈ (λ (c : Clause). map want c.body) (clauses_for book l.atom) k in
          subst (Every (Named book)) (sym w.2) (known_named book w.0.body (body w.0 w.1))
      go false false k =
          subst (Every (Named book)) (sym (Memᴰ.eq_of_singleton k))
          (every_map (Named book) break (clauses_for book l.atom) (λ c i. opposites_known book c.body (body c i)))

  -- Every literal that is ever due names an atom of the book: so at the root,
  pub root_named : Every (Named book) (root book).agenda
  root_named =
      every_both (known_named book book.goal orderly.goal_known)
      (every_map (Named book) keep book.constraints
      (λ k m. every_both (opposites_known book k.conditions (orderly.conditions_known k m)) (orderly.alternatives_known k m)))

  -- and where a hypothesis is wanted ahead of it,
  pub with_named : (h : ℕ) → h < book.abducibles → Every (Named book) (root_with book h).agenda
  with_named h p = every_more (omega (arith, p, orderly.assumable)) root_named

  -- and so at each child.
  pub child_named : {n c : Node} → Every (Named book) n.agenda → Child book n c → Every (Named book) c.agenda
  child_named h (child r) = every_both (result_named (every_first h) r) (every_rest h)
    where
      result_named : {s : List Lit} {t : Task} {n : Node} → Named book t → Result book s t n → Every (Named book) n.agenda
      result_named q (gone i j) = every_none (Named book)
      result_named q (joins {l} {ts} i j m) = opens_named l ts m
      result_named q (picks {way = way} m) = known_named book way (q way m)

  -- Along a path no more steps are held than its first node can bring.
  pub held_bound : {n x : Node} {k h : ℕ} → Every (Named book) n.agenda → Down book n k h x → h + frames book x ≤ frames book n
  held_bound g stay = omega arith
  held_bound g (step c d) = omega (arith, frames_fall book (every_first g) c, held_bound (child_named g c) d)

length_put : (t : Bool) (c : Clause) (cs : List Clause) → length (put t c cs) ≡ choose t 1 0 + length cs
length_put true c cs = omega arith
length_put false c cs = omega arith

-- so each clause counts for one atom at the most
clauses_once : (n : ℕ) (cs : List Clause) → sum (λ (p : ℕ). length (filter (λ (c : Clause). eqb c.head p) cs)) (below n) ≤ length cs
clauses_once n [] = omega (arith, sum_none (below n))
clauses_once n (c ∷ cs) =
    omega (
      arith,
      sum_same (λ (p : ℕ). length (put (eqb c.head p) c (filter (λ (k : Clause). eqb k.head p) cs)))
          (λ (p : ℕ). choose (eqb c.head p) 1 0 + length (filter (λ (k : Clause). eqb k.head p) cs)) (below n)
          (λ p. length_put (eqb c.head p) c (filter (λ (k : Clause). eqb k.head p) cs)),
      sum_add (λ (p : ℕ). choose (eqb c.head p) 1 0) (λ (p : ℕ). length (filter (λ (k : Clause). eqb k.head p) cs)) (below n),
      below_once c.head n,
      clauses_once n cs,
    )

choices_keeping : (ks : List Constraint) → sum choice (map keep ks) ≡ length ks
choices_keeping [] = refl
choices_keeping (k ∷ ks) = omega (arith, choices_keeping ks)

-- The root's frames: a constraint counts one, and so do an atom and a clause.
pub root_frames : (b : Book) → frames b (root b) ≤ length b.constraints + b.atoms + length b.clauses
unfolding frames marked clauses_for
root_frames b =
    omega (
      arith,
      sum_append choice (map want b.goal) (map keep b.constraints),
      choices_wanted b.goal,
      choices_keeping b.constraints,
      sum_sucs (λ (p : ℕ). length (clauses_for b p)) (below b.atoms),
      length_below b.atoms,
      clauses_once b.atoms b.clauses,
    )

-- A hypothesis wanted ahead of it costs nothing more.
pub with_frames : (b : Book) (h : ℕ) → frames b (root_with b h) ≤ length b.constraints + b.atoms + length b.clauses
unfolding frames
with_frames b h = omega (arith, root_frames b)

-- With the limits of paper 01, 3.4 no path from the root has more than 2,704 steps, of which no more than 896 must be held.
pub path_bound : (b : Book) → Orderly b → b.atoms ≤ 256 → length b.goal ≤ 16 → length b.clauses ≤ 512 → sum (λ (c : Clause). length c.body) b.clauses ≤ 1024
    → length b.constraints ≤ 128 → sum literals b.constraints ≤ 1024 → {x : Node} {k h : ℕ} → Down b (root b) k h x → (k ≤ 2704) × (h ≤ 896)
path_bound b o a g c l k m d =
    (omega (arith, steps_bound b d, root_potential b), omega (arith, held_bound b o (root_named b o) d, root_frames b))
