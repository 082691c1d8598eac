-- The meaning in its source's own form: paper 003, after Fung and Kowalski (1997). Words in quotation marks are that page's. The book is
-- the abductive logic program ⟨KB, IC, Ab⟩: its clauses are the rules of KB, its constraints are IC, its atoms below B are Ab, and its
-- goal is G. Entailed proves that this meaning is Meaning's.
-- Assumes nothing.
use Rattle.std.specs.Prelude.{ℕ, ◌≡◌, true, false, List, [], ◌∷◌}
use Rattle.base.specs.paper.Bools.{choose}
use Rattle.base.specs.paper.Lists.{Every}
use Rattle.base.specs.paper.Members.{has}
use Rattle.image.specs.paper.Book.{Lit, Clause, Constraint, Book}
use Rattle.meaning.specs.paper.Meaning.{abducible, clauses_for}

-- Kleene's three truth values.
pub data Truth : Type 0 where
  true₃ false₃ unknown : Truth

abbrev pub not₃ : Truth → Truth
not₃ true₃ = false₃
not₃ false₃ = true₃
not₃ unknown = unknown

abbrev pub and₃ : Truth → Truth → Truth
and₃ true₃ t = t
and₃ false₃ t = false₃
and₃ unknown true₃ = unknown
and₃ unknown false₃ = false₃
and₃ unknown unknown = unknown

abbrev pub or₃ : Truth → Truth → Truth
or₃ true₃ t = true₃
or₃ false₃ t = t
or₃ unknown true₃ = true₃
or₃ unknown false₃ = unknown
or₃ unknown unknown = unknown

abbrev pub implies₃ : Truth → Truth → Truth
implies₃ s t = or₃ (not₃ s) t

-- "A conjunction of nothing is true."
abbrev pub conjunction {ℓ} : {A : Type ℓ} → (A → Truth) → List A → Truth
conjunction t [] = true₃
conjunction t (a ∷ l) = and₃ (t a) (conjunction t l)

-- "A disjunction of nothing is false."
abbrev pub disjunction {ℓ} : {A : Type ℓ} → (A → Truth) → List A → Truth
disjunction t [] = false₃
disjunction t (a ∷ l) = or₃ (t a) (disjunction t l)

-- "A literal is an atom or an atom's negation": its truth under an interpretation of the atoms.
abbrev pub literal : (ℕ → Truth) → Lit → Truth
literal i l = choose l.sign (i l.atom) (not₃ (i l.atom))

-- "A rule's body is the conjunction of its literals."
abbrev pub body : List Lit → (ℕ → Truth) → Truth
body ls i = conjunction (literal i) ls

-- "An integrity constraint is an implication: on its left a conjunction of literals, on its right a disjunction of conjunctions of
-- literals."
abbrev pub implication : Constraint → (ℕ → Truth) → Truth
implication k i = implies₃ (body k.conditions i) (disjunction (λ (ls : List Lit). body ls i) k.alternatives)

-- The completion of KB ∪ Δ (Kunen 1987): each side of its equivalences has the same of the three values.
pub record Completed (b : Book) (d : ℕ) (i : ℕ → Truth) : Type 0 where
  -- a defined atom if and only if one of its bodies, so that one without a clause is false
  pub defined : (p : ℕ) → abducible b p ≡ false → i p ≡ disjunction (λ (c : Clause). body c.body i) (clauses_for b p)
  -- an abducible if and only if it is in Δ
  pub assumed : (p : ℕ) → abducible b p ≡ true → i p ≡ choose (has d p) true₃ false₃

-- KB ∪ Δ ⊨ φ: "φ is true in every three-valued model of the completion of KB with Δ."
abbrev pub Entailed : Book → ℕ → ((ℕ → Truth) → Truth) → Type 0
Entailed b d formula = (i : ℕ → Truth) → Completed b d i → formula i ≡ true₃

-- "Δ answers a goal G where KB with Δ entails both the constraints and the goal."
pub record Answer (b : Book) (d : ℕ) : Type 0 where
  -- KB ∪ Δ ⊨ IC
  pub constraints : Every (λ (k : Constraint). Entailed b d (implication k)) b.constraints
  -- KB ∪ Δ ⊨ G
  pub goal : Entailed b d (body b.goal)
