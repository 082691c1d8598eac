-- Paper 02, A1.1: a document, which is what a text says, and the words that spell it, in their order. Each line of the grammar stands above
-- what says it.
-- Assumes nothing.
use Rattle.std.specs.Prelude.{◌≡◌, Bool, true, List, [], ◌∷◌, ◌++◌}
use Rattle.base.specs.paper.Bools.{choose}
use Rattle.base.specs.paper.Lists.{flat, Every}
use Rattle.spelling.specs.paper.Words.{Word, abd, naf, close, comma, semicolon, dot, neck, arrow, query, true_word, false_word, is_name}

-- a name, marked as an abducible or not
pub record Atom : Type 0 where
  pub name : Word
  pub marked : Bool

-- an atom (sign true) or its negation (sign false)
pub record Literal : Type 0 where
  pub atom : Atom
  pub sign : Bool

-- a clause has a head and a body, a constraint conditions and alternatives
pub data Statement : Type 0 where
  clause : Atom → List Literal → Statement
  constraint : List Literal → List (List Literal) → Statement

pub record Document : Type 0 where
  pub statements : List Statement
  pub goal : List Literal

-- atom = name | "abd(" name ")"
abbrev pub of_atom : Atom → List Word
of_atom a = choose a.marked (abd ∷ a.name ∷ close ∷ []) (a.name ∷ [])

-- literal = atom | "naf(" atom ")"
abbrev pub of_literal : Literal → List Word
of_literal l = choose l.sign (of_atom l.atom) (naf ∷ (of_atom l.atom ++ close ∷ []))

-- the first, then each other one behind the sign
abbrev pub joined : {A : Type 0} → Word → (A → List Word) → List A → List Word
joined s spell [] = []
joined s spell (x ∷ xs) = spell x ++ flat (λ y. s ∷ spell y) xs

-- literals = literal { "," literal }
abbrev pub of_literals : List Literal → List Word
of_literals ls = joined comma of_literal ls

-- a list with a word that stands for none
abbrev pub or_word : {A : Type 0} → Word → (List A → List Word) → List A → List Word
or_word v spell [] = v ∷ []
or_word v spell (x ∷ xs) = spell (x ∷ xs)

-- ( "true" | literals )
abbrev pub of_side : List Literal → List Word
of_side ls = or_word true_word of_literals ls

-- ( "false" | literals { ";" literals } )
abbrev pub of_ways : List (List Literal) → List Word
of_ways ways = or_word false_word (joined semicolon of_literals) ways

-- what stands between a head and the full stop: nothing, or ":-" literals
abbrev pub of_body : List Literal → List Word
of_body [] = []
of_body (l ∷ ls) = neck ∷ of_literals (l ∷ ls)

-- clause = atom "." | atom ":-" literals "."
-- constraint = ( "true" | literals ) "--->" ( "false" | literals { ";" literals } ) "."
abbrev pub of_statement : Statement → List Word
of_statement (clause a body) = of_atom a ++ (of_body body ++ dot ∷ [])
of_statement (constraint side ways) = of_side side ++ (arrow ∷ (of_ways ways ++ dot ∷ []))

-- text = { clause | constraint } goal, goal = "?-" ( "true" | literals ) "."
abbrev pub of_document : Document → List Word
of_document d = flat of_statement d.statements ++ (query ∷ (of_side d.goal ++ dot ∷ []))

-- what a document must be besides: its names are names, and each alternative has a literal
abbrev pub AtomFine : Atom → Type 0
AtomFine a = is_name a.name ≡ true

abbrev pub LiteralsFine : List Literal → Type 0
LiteralsFine ls = Every (λ (l : Literal). AtomFine l.atom) ls

abbrev pub NonEmpty : {A : Type 0} → List A → Type 0
NonEmpty [] = ⊥
NonEmpty (x ∷ xs) = Unit {0}

abbrev pub WayFine : List Literal → Type 0
WayFine ls = NonEmpty ls × LiteralsFine ls

abbrev pub StatementFine : Statement → Type 0
StatementFine (clause a body) = AtomFine a × LiteralsFine body
StatementFine (constraint side ways) = LiteralsFine side × Every WayFine ways

abbrev pub Fine : Document → Type 0
Fine d = Every StatementFine d.statements × LiteralsFine d.goal
