-- The first clause whose head depends on itself: a book has one exactly if it is not without loops, and the clauses before it are those that
-- `before_loop` gives.
-- Assumes nothing.
use Rattle.std.specs.Prelude.{◌≡◌, Bool, ◌⊎◌}
use Rattle.std.proofs.Math.Path.{refl, ap}
use Rattle.std.proofs.Common.{sym, ◌∙◌, subst, ⊎_elim}
use Rattle.std.proofs.Math.Bool.{true, false}
use Rattle.std.proofs.Math.Logic.{inl, inr}
use mathlib.Core.List.{List, [], ◌∷◌, ◌++◌}
use Rattle.base.specs.paper.Bools.{choose}
use Rattle.base.specs.Bools.{decide, clash, choose_true, choose_false}
use Rattle.base.specs.paper.Lists.{Every}
use Rattle.base.specs.Lists.{every_none, every_more, every_first, every_rest}
use Rattle.image.specs.paper.Book.{Clause, Book}
use Rattle.image.specs.paper.Loops.{Depends, loop_free, on_loop, before_loop}
use Rattle.image.specs.LoopLaws.{Closed, depends_head}
use Rattle.image.proofs.LoopLaws.{free_loopless, loopless_free}
use Rattle.image.specs.Reached.{on_loop_lem}
use Rattle.placing.specs.paper.Places.{FirstOnLoop}

module _ (b : Book) (closed : Closed b) where
  -- the clause's head depends on itself, and does not
  abbrev On : Clause → Type 0
  On c = Depends b.clauses c.head c.head

  abbrev Off : Clause → Type 0
  Off c = On c → ⊥

  on : (c : Clause) → on_loop b c.head ≡ true → On c
  on c = (on_loop_lem b closed c.head).0

  off : (c : Clause) → on_loop b c.head ≡ false → Off c
  off c e d = clash ((on_loop_lem b closed c.head).1 d) e

  -- the first such clause of these
  record First (cs before : List Clause) : Type 0 where
    clause : Clause
    rest : List Clause
    all : cs ≡ before ++ clause ∷ rest
    loops : On clause
    others : Every Off before

  first_of : (cs : List Clause) → First cs (before_loop b cs) ⊎ Every Off cs
  unfolding before_loop
  first_of [] = inr (every_none Off)
  first_of (c ∷ cs) = go (on_loop b c.head) refl (first_of cs)
    where
      go : (t : Bool) → on_loop b c.head ≡ t → First cs (before_loop b cs) ⊎ Every Off cs
          → First (c ∷ cs) (choose t [] (c ∷ before_loop b cs)) ⊎ Every Off (c ∷ cs)
      go true e h = inl (record { clause = c; rest = cs; all = refl; loops = on c e; others = every_none Off })
      go false e (inl f) =
          inl (record { clause = f.clause; rest = f.rest; all = ap (λ l. c ∷ l) f.all; loops = f.loops; others = every_more (off c e) f.others })
      go false e (inr h) = inr (every_more (off c e) h)

  -- an atom that depends on itself is a clause's head
  off_free : Every Off b.clauses → loop_free b ≡ true
  off_free h =
      loopless_free b closed
      (λ p d. let k = depends_head b.clauses d in h k.0 k.1 (subst (λ q. Depends b.clauses q q) (sym k.2) d))

  pub first_on_loop : loop_free b ≡ false → (c : Clause) × FirstOnLoop b (before_loop b b.clauses) c
  first_on_loop e =
      ⊎_elim
      (λ (f : First b.clauses (before_loop b b.clauses)).
      (f.clause, record { rest = f.rest; all = f.all; loops = f.loops; others = f.others }))
      (λ (h : Every Off b.clauses). clash (off_free h) e) (first_of b.clauses)

  -- ---- and the other way round

  before_first : (before : List Clause) (c : Clause) (rest : List Clause) → Every Off before → On c → before_loop b (before ++ c ∷ rest) ≡ before
  unfolding before_loop
  before_first [] c rest h d = choose_true [] (c ∷ before_loop b rest) ((on_loop_lem b closed c.head).1 d)
  before_first (a ∷ before) c rest h d =
      choose_false [] (a ∷ before_loop b (before ++ c ∷ rest)) (⊎_elim (λ e. absurd (every_first h (on a e))) (λ e. e) (decide (on_loop b a.head)))
      ∙ ap (λ l. a ∷ l) (before_first before c rest (every_rest h) d)

  pub first_before : {before : List Clause} {c : Clause} → FirstOnLoop b before c → before_loop b b.clauses ≡ before
  first_before {before} {c} f = ap (before_loop b) f.all ∙ before_first before c f.rest f.others f.loops

  pub first_unfree : {before : List Clause} {c : Clause} → FirstOnLoop b before c → loop_free b ≡ false
  first_unfree {c = c} f = ⊎_elim (λ e. absurd (free_loopless b closed e c.head f.loops)) (λ e. e) (decide (loop_free b))
