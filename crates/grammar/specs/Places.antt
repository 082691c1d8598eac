-- Where the things of the grammar (spelling/specs/paper/Document) end, over a text's words as codes. What begins at a place ends before the
-- place that is given here; where no such thing begins, this is the end of the words. In a document every thing but the last full stop has a
-- word behind it, and at the end of the words none stands: so the two need not be told apart, and `end_or` reads an answer of the code so.
-- Assumes nothing.
use Rattle.std.specs.Prelude.{ℕ, zero, suc, ◌+◌, ◌≤◌, ◌≡◌, Bool, true, false, ◌&&◌, Option, Some, None, MatchOption, List, eqb, leb, length, get_or}
use Rattle.base.specs.paper.Bools.{choose}
use Rattle.base.specs.paper.Lists.{flat}
use Rattle.spelling.specs.paper.Document.{of_statement}
use Rattle.spelling.specs.Reader.{Parsed, reads, unreadable}
use Rattle.spelling.specs.Codes.{abd_code, naf_code, close_code, comma_code, neck_code, semicolon_code, dot_code, arrow_code, query_code, true_code, false_code, other_code, first_name}

module _ (codes : List ℕ) where
  -- behind the words stands no word of a document
  unfoldable pub code_at : ℕ → ℕ
  code_at at = get_or codes at other_code

  abbrev pub stands : ℕ → ℕ → Bool
  stands word at = eqb (code_at at) word

  -- a place that was found, or the end of the words
  abbrev pub end_or : Option ℕ → ℕ
  end_or (Some end) = end
  end_or None = length codes

  -- a thing, told by what is answered of it at each place, ends there
  abbrev pub Ends : (ℕ → Option ℕ → Type 0) → (ℕ → ℕ) → Type 0
  Ends answers end = (at : ℕ) (r : Option ℕ) → answers at r → end_or r ≡ end at

  -- ends lie beyond the place where the thing begins, as far as there are words
  abbrev pub Within : (ℕ → ℕ) → Type 0
  Within end = (at : ℕ) → end at ≤ length codes

  abbrev pub Ahead : (ℕ → ℕ) → Type 0
  Ahead end = (at k : ℕ) → k ≤ at + 1 → k ≤ length codes → k ≤ end at

  pub record Forward (end : ℕ → ℕ) : Type 0 where
    pub within : Within end
    pub ahead : Ahead end

  -- the place behind a word, where it stands
  abbrev pub WordFound : ℕ → ℕ → Option ℕ → Type 0
  WordFound word at r = MatchOption r (stands word at ≡ false) (λ end. (stands word at ≡ true) × (end ≡ at + 1))

  unfoldable pub word_end : ℕ → ℕ → ℕ
  word_end word at = choose (stands word at) (at + 1) (length codes)

  unfoldable pub name_end : ℕ → ℕ
  name_end at = choose (leb first_name (code_at at)) (at + 1) (length codes)

  -- a thing, or the same behind this word and closed
  abbrev pub bracketed_end : ℕ → (ℕ → ℕ) → ℕ → ℕ
  bracketed_end word itemEnd at = choose (stands word at) (word_end close_code (itemEnd (at + 1))) (itemEnd at)

  -- atom = name | "abd(" name ")"
  unfoldable pub atom_end : ℕ → ℕ
  atom_end at = bracketed_end abd_code name_end at

  -- literal = atom | "naf(" atom ")"
  unfoldable pub literal_end : ℕ → ℕ
  literal_end at = bracketed_end naf_code atom_end at

  -- an item, and as long as the separator follows another; n is more than the separators
  module _ (separator : ℕ) (itemEnd : ℕ → ℕ) where
    unfoldable pub separated_end : ℕ → ℕ → ℕ
    separated_end zero at = length codes
    separated_end (suc n) at =
        let more = separated_end n (itemEnd at + 1) in
        choose (stands separator (itemEnd at)) more (itemEnd at)

    -- the same, behind an item
    abbrev pub onward_end : ℕ → ℕ → ℕ
    onward_end n at = choose (stands separator at) (separated_end n (at + 1)) at

  -- literals = literal { "," literal }
  unfoldable pub literals_end : ℕ → ℕ
  literals_end at = separated_end comma_code literal_end (length codes) at

  -- ( "true" | literals )
  unfoldable pub side_end : ℕ → ℕ
  side_end at = choose (stands true_code at) (at + 1) (literals_end at)

  -- literals { ";" literals }
  unfoldable pub ways_end : ℕ → ℕ
  ways_end at = separated_end semicolon_code literals_end (length codes) at

  -- ( "false" | literals { ";" literals } )
  unfoldable pub conclusion_end : ℕ → ℕ
  conclusion_end at = choose (stands false_code at) (at + 1) (ways_end at)

  -- constraint = ( "true" | literals ) "--->" ( "false" | literals { ";" literals } ) "."
  unfoldable pub constraint_end : ℕ → ℕ
  constraint_end at = word_end dot_code (conclusion_end (word_end arrow_code (side_end at)))

  -- literals ".", behind ":-"
  unfoldable pub body_end : ℕ → ℕ
  body_end at = word_end dot_code (literals_end at)

  -- clause = atom "." | atom ":-" literals ".", and what else is a constraint
  abbrev pub from_head : ℕ → ℕ → ℕ
  from_head head at =
      choose (stands dot_code head) (head + 1) (choose (stands neck_code head) (body_end (head + 1)) (constraint_end at))

  unfoldable pub statement_end : ℕ → ℕ
  statement_end at = from_head (atom_end at) at

  -- where the statements from this place on end: at the first "?-" that stands where one could begin
  unfoldable pub statements_end : ℕ → ℕ → ℕ
  statements_end zero at = length codes
  statements_end (suc n) at =
      let more = statements_end n (statement_end at) in
      choose (stands query_code at) at more

  -- does a goal line stand here, and nothing behind it? goal = "?-" ( "true" | literals ) "."
  abbrev pub last_dot : ℕ → Bool
  last_dot end = stands dot_code end && eqb (end + 1) (length codes)

  unfoldable pub ends_with_goal : ℕ → Bool
  ends_with_goal at = stands query_code at && last_dot (side_end (at + 1))

  abbrev pub goal_from : ℕ → Option ℕ
  goal_from at = choose (ends_with_goal at) (Some at) None

  -- the place of the goal line's "?-", where the words spell a document
  unfoldable pub goal_place : Option ℕ
  goal_place = goal_from (statements_end (length codes) 0)

-- a thing of the grammar, told by where it ends among any words
pub record Thing : Type 0 where
  pub end : (codes : List ℕ) → ℕ → ℕ
  pub forward : (codes : List ℕ) → Forward codes (end codes)

-- the same of what is read
abbrev pub place_of : Parsed → Option ℕ
place_of unreadable = None
place_of (reads d) = Some (length (flat of_statement d.statements))
