-- The book with a group's facts is within the limits and without loops.
-- Assumes nothing.
use Rattle.std.specs.Prelude.{ℕ, zero, suc, ◌+◌, ◌≤◌, ◌≡◌, refl, Bool, true, false, not, ◌&&◌, ◌||◌, List, [], ◌∷◌, ◌++◌, map, leb, ltb, eqb, length}
use Rattle.std.proofs.Common.{ap, ◌∙◌, arith, length-append, leb-true, ltb-true}
use Rattle.std.proofs.Math.Path.{fun_ext}
use Rattle.std.proofs.Math.Bool.{and-false, or-false}
use Rattle.std.proofs.lemmas.List.{length-map}
use Rattle.base.specs.Bools.{both_left, both_right}
use Rattle.base.specs.paper.Lists.{all, any, below, sum}
use Rattle.base.specs.Lists.{every_none, every_both, all_every, any_append}
use Rattle.base.specs.Flat.{every_map, sum_append, sum_map, sum_none}
use Rattle.image.specs.paper.Book.{Lit, Clause, Book, body_count}
use Rattle.image.specs.paper.Faults.{limits}
use Rattle.image.specs.paper.Loops.{pending, quiet, loop_free}
use Rattle.image.specs.Finds.{Named, ClauseFine}
use Rattle.image.specs.Written.{Within}
use Rattle.groups.specs.paper.Group.{is_defined, fact, with_facts}

-- "behind its clauses"
pub facts_behind : (b : Book) (xs : List ℕ) → (with_facts b xs).clauses ≡ b.clauses ++ map fact xs
unfolding with_facts
facts_behind b xs = refl

-- ---- within the limits

-- a fact's head is a defined atom, and it has no body
fact_fine : (b : Book) (x : ℕ) → is_defined b x ≡ true → ClauseFine b.atoms b.abducibles (fact x)
fact_fine b x e =
    record {
      known = ltb-true x b.atoms (both_right (leb b.abducibles x) (ltb x b.atoms) e);
      defined = leb-true b.abducibles x (both_left (leb b.abducibles x) (ltb x b.atoms) e);
      named = every_none (Named b.atoms);
    }

pub length_facts : (cs : List Clause) (xs : List ℕ) → length (cs ++ map fact xs) ≡ length cs + length xs
length_facts cs xs = length-append cs (map fact xs) ∙ ap (λ (n : ℕ). length cs + n) (length-map xs fact)

facts_bodies : (cs : List Clause) (xs : List ℕ) → sum body_count (cs ++ map fact xs) ≡ sum body_count cs
facts_bodies cs xs = omega (arith, sum_append body_count cs (map fact xs), sum_map body_count fact xs, sum_none xs)

module _ (b : Book) (xs : List ℕ) (defined : all (is_defined b) xs ≡ true) (few : length b.clauses + length xs ≤ limits.clauses) where
  pub facts_within : Within limits b → Within limits (with_facts b xs)
  unfolding with_facts
  facts_within w =
      record {
        some = w.some;
        atoms = w.atoms;
        abducibles = w.abducibles;
        among = w.among;
        goal = w.goal;
        goal_named = w.goal_named;
        clauses = omega (arith, length_facts b.clauses xs, few);
        clauses_fine =
            every_both w.clauses_fine (every_map (ClauseFine b.atoms b.abducibles) fact xs (λ x m. fact_fine b x (all_every (is_defined b) xs defined x m)));
        bodies = omega (arith, facts_bodies b.clauses xs, w.bodies);
        constraints = w.constraints;
        constraints_fine = w.constraints_fine;
        literals = w.literals;
      }

-- ---- without loops

-- whether a clause keeps an atom pending, by the atoms that were pending the round before
abbrev keeps : (ℕ → Bool) → ℕ → Clause → Bool
keeps before p c = eqb c.head p && any (λ (l : Lit). before l.atom) c.body

-- no fact does
facts_keep_none : (before : ℕ → Bool) (p : ℕ) (xs : List ℕ) → any (keeps before p) (map fact xs) ≡ false
facts_keep_none before p [] = refl
facts_keep_none before p (x ∷ xs) = rw (and-false (eqb x p)) (facts_keep_none before p xs)

facts_pending : (cs : List Clause) (xs : List ℕ) (n : ℕ) → pending (cs ++ map fact xs) n ≡ pending cs n
unfolding pending
facts_pending cs xs zero = refl
facts_pending cs xs (suc n) =
    let before = pending (cs ++ map fact xs) n in
    let same = facts_pending cs xs n in
    fun_ext (λ p.
    any_append (keeps before p) cs (map fact xs)
    ∙ ap (λ (t : Bool). any (keeps before p) cs || t) (facts_keep_none before p xs)
    ∙ or-false (any (keeps before p) cs)
    ∙ ap (λ (f : ℕ → Bool). any (keeps f p) cs) same)

pub facts_free : (b : Book) (xs : List ℕ) → loop_free (with_facts b xs) ≡ loop_free b
unfolding with_facts loop_free quiet
facts_free b xs = ap (λ (f : ℕ → Bool). all (λ (p : ℕ). not (f p)) (below b.atoms)) (facts_pending b.clauses xs b.atoms)
