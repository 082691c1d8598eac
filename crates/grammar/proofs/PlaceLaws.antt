-- The places go forward, up to the end of the words; and the loops that find them meet what `separated_end` and `statements_end` say with any fuel
-- that is enough.
-- Assumes nothing.
use Prim.Native.Nat.{ℕ, zero, suc, ◌+◌, ◌-◌, ◌≤◌, ◌<◌}
use native.Mathlib.Omega.{arith}
use Rattle.std.specs.Prelude.{◌≡◌, Bool, ◌&&◌, Option, Some, None, MatchOption, List, [], ◌∷◌, eqb, get_or}
use Rattle.std.specs.Option.{option_or}
use Rattle.std.proofs.Math.Path.{refl, ap}
use Rattle.std.proofs.Common.{sym, ◌∙◌}
use Rattle.std.proofs.Math.Bool.{true, false}
use Rattle.std.proofs.Math.Dec.{leb, ltb}
use Rattle.std.proofs.Math.ListN.{length, get_or-eq_default}
use borrow.Author.Tests.{ltb-true, ltb-false, leb-true, le-leb, lt-leb, eqb-true, eq-eqb, ne_eqb}
use Rattle.base.specs.paper.Bools.{choose}
use Rattle.base.specs.Bools.{choose_true, choose_false, both_left}
use Rattle.spelling.specs.Codes.{abd_code, naf_code, close_code, comma_code, neck_code, semicolon_code, dot_code, arrow_code, query_code, true_code, false_code, other_code, first_name}
use Rattle.grammar.specs.Places.{code_at, stands, end_or, Ahead, Forward, WordFound, word_end, name_end, bracketed_end, atom_end, literal_end, separated_end, onward_end, literals_end, side_end, ways_end, conclusion_end, constraint_end, body_end, statement_end, statements_end, last_dot, ends_with_goal}

-- what holds of both choices holds of the choice
pub of_choice : {A : Type 0} (P : A → Type 0) (t : Bool) (a b : A) → (t ≡ true → P a) → (t ≡ false → P b) → P (choose t a b)
of_choice P true a b f g = f refl
of_choice P false a b f g = g refl

-- among the words it is the same what would stand behind them
get_or_there : (l : List ℕ) (i d e : ℕ) → i < length l → get_or l i d ≡ get_or l i e
get_or_there [] i d e h = absurd (omega arith)
get_or_there (a ∷ l) zero d e h = refl
get_or_there (a ∷ l) (suc i) d e h = get_or_there l i d e (omega arith)

module _ (codes : List ℕ) where
  -- where the word stands, and where it does not
  pub stood : {A : Type 0} (word at : ℕ) (a b : A) → code_at codes at ≡ word → choose (stands codes word at) a b ≡ a
  stood word at a b e = choose_true a b (eq-eqb (code_at codes at) word e)

  pub astray : {A : Type 0} (word at : ℕ) (a b : A) → (code_at codes at ≡ word → ⊥) → choose (stands codes word at) a b ≡ b
  astray word at a b e = choose_false a b (ne_eqb (code_at codes at) word e)

  pub named : {A : Type 0} (at : ℕ) (a b : A) → first_name ≤ code_at codes at → choose (leb first_name (code_at codes at)) a b ≡ a
  named at a b h = choose_true a b (le-leb first_name (code_at codes at) h)

  pub nameless : {A : Type 0} (at : ℕ) (a b : A) → code_at codes at < first_name → choose (leb first_name (code_at codes at)) a b ≡ b
  nameless at a b h = choose_false a b (lt-leb first_name (code_at codes at) h)

  pub code_there : (at : ℕ) → at < length codes → get_or codes at 0 ≡ code_at codes at
  unfolding code_at
  code_there at h = get_or_there codes at 0 other_code h

  pub behind_all : (at : ℕ) → length codes ≤ at → code_at codes at ≡ other_code
  unfolding code_at
  behind_all at h = get_or-eq_default codes other_code h

  -- what is no other word stands among the words
  pub among : (at : ℕ) → (code_at codes at ≡ other_code → ⊥) → at < length codes
  among at h = go (ltb at (length codes)) refl
    where
      go : (t : Bool) → ltb at (length codes) ≡ t → at < length codes
      go true e = ltb-true at (length codes) e
      go false e = absurd (h (behind_all at (ltb-false at (length codes) e)))

  pub word_among : (word at : ℕ) → word < other_code → code_at codes at ≡ word → at < length codes
  word_among word at h e = among at (λ o. omega (arith, e, o))

  -- an answer of the code, as a place
  pub word_ended : (word at : ℕ) (r : Option ℕ) → WordFound codes word at r → end_or codes r ≡ word_end codes word at
  unfolding word_end
  word_ended word at None e = sym (choose_false (at + 1) (length codes) e)
  word_ended word at (Some end) (t, e) = e ∙ sym (choose_true (at + 1) (length codes) t)

  pub stands_among : (word at : ℕ) → word < other_code → stands codes word at ≡ true → at < length codes
  stands_among word at h e = word_among word at h (eqb-true (code_at codes at) word e)

  pub stands_not : (word at : ℕ) → word < other_code → length codes ≤ at → stands codes word at ≡ false
  stands_not word at h l = ne_eqb (code_at codes at) word (λ e. omega (arith, word_among word at h e))

  -- ---- forward

  -- no thing begins at the end of the words
  pub stays : {end : ℕ → ℕ} → Forward codes end → {at : ℕ} → length codes ≤ at → end at ≡ length codes
  stays F {at} h = omega (arith, F.within at, F.ahead at (length codes) (omega arith) (omega arith))

  module _ (t : ℕ → Bool) (p q : ℕ → ℕ) where
    choice_forward : ((at : ℕ) → t at ≡ true → p at ≤ length codes) → Ahead codes p → Forward codes q → Forward codes (λ at. choose (t at) (p at) (q at))
    choice_forward W A Q = record {
      within = λ at. of_choice (λ (z : ℕ). z ≤ length codes) (t at) (p at) (q at) (W at) (λ _. Q.within at);
      ahead = λ at k i j. of_choice (λ (z : ℕ). k ≤ z) (t at) (p at) (q at) (λ _. A at k i j) (λ _. Q.ahead at k i j);
    }

    either_forward : Forward codes p → Forward codes q → Forward codes (λ at. choose (t at) (p at) (q at))
    either_forward P Q = choice_forward (λ at _. P.within at) P.ahead Q

  -- a thing, and behind it another, or behind it a word and another
  module _ (p q : ℕ → ℕ) (P : Forward codes p) (Q : Forward codes q) where
    pub then_forward : Forward codes (λ at. q (p at))
    then_forward = record {
      within = λ at. Q.within (p at);
      ahead = λ at k i j. Q.ahead (p at) k (omega (arith, P.ahead at k i j)) j;
    }

    past_forward : Forward codes (λ at. q (p at + 1))
    past_forward = record {
      within = λ at. Q.within (p at + 1);
      ahead = λ at k i j. Q.ahead (p at + 1) k (omega (arith, P.ahead at k i j)) j;
    }

  behind_forward : (q : ℕ → ℕ) → Forward codes q → Forward codes (λ at. q (at + 1))
  behind_forward q Q = record {
    within = λ at. Q.within (at + 1);
    ahead = λ at k i j. Q.ahead (at + 1) k (omega arith) j;
  }

  end_forward : Forward codes (λ _. length codes)
  end_forward = record { within = λ at. omega arith; ahead = λ at k i j. j }

  -- the word, or another thing
  or_forward : (word : ℕ) (q : ℕ → ℕ) → word < other_code → Forward codes q → Forward codes (λ at. choose (stands codes word at) (at + 1) (q at))
  or_forward word q h Q =
      choice_forward (stands codes word) (λ at. at + 1) q (λ at e. omega (arith, word_among word at h (eqb-true _ word e))) (λ at k i j. i) Q

  pub word_forward : (word : ℕ) → word < other_code → Forward codes (word_end codes word)
  unfolding word_end
  word_forward word h = or_forward word (λ _. length codes) h end_forward

  pub name_forward : Forward codes (name_end codes)
  unfolding name_end
  name_forward =
      choice_forward (λ at. leb first_name (code_at codes at)) (λ at. at + 1) (λ _. length codes)
      (λ at e. omega (arith, among at (λ o. omega (arith, leb-true first_name (code_at codes at) e, o)))) (λ at k i j. i) end_forward

  -- in brackets, or as it is
  bracketed_forward : (word : ℕ) (q : ℕ → ℕ) → Forward codes q
      → Forward codes (bracketed_end codes word q)
  bracketed_forward word q Q =
      either_forward (stands codes word) (λ at. word_end codes close_code (q (at + 1))) q
      (then_forward (λ at. q (at + 1)) (word_end codes close_code) (behind_forward q Q) (word_forward close_code (omega arith))) Q

  pub atom_forward : Forward codes (atom_end codes)
  unfolding atom_end
  atom_forward = bracketed_forward abd_code (name_end codes) name_forward

  pub literal_forward : Forward codes (literal_end codes)
  unfolding literal_end
  literal_forward = bracketed_forward naf_code (atom_end codes) atom_forward

  module _ (separator : ℕ) (itemEnd : ℕ → ℕ) (item-forward : Forward codes itemEnd) where
    pub separated_forward : (n : ℕ) → Forward codes (separated_end codes separator itemEnd n)
    unfolding separated_end
    separated_forward zero = end_forward
    separated_forward (suc n) =
        either_forward (λ at. stands codes separator (itemEnd at)) (λ at. separated_end codes separator itemEnd n (itemEnd at + 1)) itemEnd
        (past_forward itemEnd (separated_end codes separator itemEnd n) item-forward (separated_forward n)) item-forward

  pub literals_forward : Forward codes (literals_end codes)
  unfolding literals_end
  literals_forward = separated_forward comma_code (literal_end codes) literal_forward (length codes)

  pub side_forward : Forward codes (side_end codes)
  unfolding side_end
  side_forward = or_forward true_code (literals_end codes) (omega arith) literals_forward

  pub ways_forward : Forward codes (ways_end codes)
  unfolding ways_end
  ways_forward = separated_forward semicolon_code (literals_end codes) literals_forward (length codes)

  pub conclusion_forward : Forward codes (conclusion_end codes)
  unfolding conclusion_end
  conclusion_forward = or_forward false_code (ways_end codes) (omega arith) ways_forward

  pub constraint_forward : Forward codes (constraint_end codes)
  unfolding constraint_end
  constraint_forward =
      then_forward (λ at. conclusion_end codes (word_end codes arrow_code (side_end codes at))) (word_end codes dot_code)
      (then_forward (λ at. word_end codes arrow_code (side_end codes at)) (conclusion_end codes)
      (then_forward (side_end codes) (word_end codes arrow_code) side_forward (word_forward arrow_code (omega arith))) conclusion_forward)
      (word_forward dot_code (omega arith))

  pub body_forward : Forward codes (body_end codes)
  unfolding body_end
  body_forward = then_forward (literals_end codes) (word_end codes dot_code) literals_forward (word_forward dot_code (omega arith))

  pub statement_forward : Forward codes (statement_end codes)
  unfolding statement_end
  statement_forward =
      choice_forward (λ at. stands codes dot_code (atom_end codes at)) (λ at. atom_end codes at + 1)
      (λ at. choose (stands codes neck_code (atom_end codes at)) (body_end codes (atom_end codes at + 1)) (constraint_end codes at))
      (λ at e. omega (arith, word_among dot_code (atom_end codes at) (omega arith) (eqb-true _ dot_code e)))
      (λ at k i j. omega (arith, atom_forward.ahead at k i j))
      (either_forward (λ at. stands codes neck_code (atom_end codes at)) (λ at. body_end codes (atom_end codes at + 1)) (constraint_end codes)
      (past_forward (atom_end codes) (body_end codes) atom_forward body_forward) constraint_forward)

  -- ---- answers of the code

  -- behind a thing that ends here, the word
  pub then_word : (word : ℕ) {p end : ℕ} (r : Option ℕ) → p ≡ end → WordFound codes word p r → end_or codes r ≡ word_end codes word end
  then_word word {p} {end} r e f = word_ended word p r f ∙ ap (word_end codes word) e

  -- where no thing begins, none goes on behind it
  pub none_then : {f : ℕ → ℕ} {end : ℕ} → Forward codes f → length codes ≡ end → length codes ≡ f end
  none_then {f} F e = sym (stays F (omega arith))

  pub none_word : {word end : ℕ} → word < other_code → length codes ≡ end → length codes ≡ word_end codes word end
  none_word {word} h e = none_then (word_forward word h) e

  -- behind the word, where it stands; or another thing
  module _ (word at : ℕ) (p q : ℕ → ℕ) where
    pub with_word : {next z : ℕ} → (stands codes word at ≡ true) × (next ≡ at + 1) → z ≡ p next → z ≡ choose (stands codes word at) (p (at + 1)) (q at)
    with_word (t, e) f = f ∙ ap p e ∙ sym (choose_true (p (at + 1)) (q at) t)

    pub without_word : {z : ℕ} → stands codes word at ≡ false → z ≡ q at → z ≡ choose (stands codes word at) (p (at + 1)) (q at)
    without_word t f = f ∙ sym (choose_false (p (at + 1)) (q at) t)

  -- the word, or another thing
  pub word_or : (word at : ℕ) (q : ℕ → ℕ) (r o : Option ℕ) → WordFound codes word at r → end_or codes o ≡ q at
      → end_or codes (option_or r o) ≡ choose (stands codes word at) (at + 1) (q at)
  word_or word at q None o t e = e ∙ sym (choose_false (at + 1) (q at) t)
  word_or word at q (Some end) o (t, is) e = is ∙ sym (choose_true (at + 1) (q at) t)

  -- ---- the loop over items: behind each, what is left has fuel enough

  abbrev pub Onward : ℕ → (ℕ → ℕ) → ℕ → ℕ → Type 0
  Onward separator itemEnd start at =
      (n : ℕ) × (length codes ≤ n + at) × (separated_end codes separator itemEnd (length codes) start ≡ onward_end codes separator itemEnd n at)

  module _ (separator : ℕ) (itemEnd : ℕ → ℕ) (known : separator < other_code) (item-forward : Forward codes itemEnd) where
    pub onward_start : (start : ℕ) → Onward separator itemEnd start (itemEnd start)
    unfolding separated_end
    onward_start start = go (length codes) refl
      where
        end : ℕ
        end = itemEnd start

        go : (n : ℕ) → length codes ≡ n
            → (m : ℕ) × (length codes ≤ m + end) × (separated_end codes separator itemEnd n start ≡ onward_end codes separator itemEnd m end)
        go zero e =
            let none : length codes ≡ itemEnd start = omega (arith, item-forward.within start) in
            (zero, omega arith, none ∙ sym (astray separator end _ end (λ p. omega (arith, word_among separator end known p))))
        go (suc n) e =
            let some : 1 ≤ itemEnd start = item-forward.ahead start 1 (omega arith) (omega arith) in
            (n, omega arith, refl)

    pub onward_less : (at : ℕ) → stands codes separator at ≡ true → length codes - itemEnd (at + 1) < length codes - at
    onward_less at e =
        let here : at < length codes = stands_among separator at known e in
        let far : at + 1 ≤ itemEnd (at + 1) = item-forward.ahead (at + 1) (at + 1) (omega arith) (omega arith) in
        omega arith

    pub onward_more : (start at : ℕ) → Onward separator itemEnd start at → stands codes separator at ≡ true → Onward separator itemEnd start (itemEnd (at + 1))
    unfolding separated_end
    onward_more start at (zero, enough, is) e = absurd (omega (arith, stands_among separator at known e))
    onward_more start at (suc n, enough, is) e =
        (n, far (ltb (at + 1) (length codes)) refl, is ∙ choose_true _ at e)
      where
        far : (t : Bool) → ltb (at + 1) (length codes) ≡ t → length codes ≤ n + itemEnd (at + 1)
        far true p =
            let more : at + 1 < length codes = ltb-true (at + 1) (length codes) p in
            let on : at + 2 ≤ itemEnd (at + 1) = item-forward.ahead (at + 1) (at + 2) (omega arith) (omega arith) in
            omega arith
        far false p =
            let last : length codes ≤ at + 1 = ltb-false (at + 1) (length codes) p in
            let on : length codes ≤ itemEnd (at + 1) = item-forward.ahead (at + 1) (length codes) (omega arith) (omega arith) in
            omega arith

    pub onward_done : (start at : ℕ) → Onward separator itemEnd start at → stands codes separator at ≡ false
        → separated_end codes separator itemEnd (length codes) start ≡ at
    onward_done start at (n, enough, is) e = is ∙ choose_false _ at e

    -- where no item begins
    pub onward_none : (start at : ℕ) → Onward separator itemEnd start at → length codes ≡ at
        → separated_end codes separator itemEnd (length codes) start ≡ length codes
    onward_none start at on h = onward_done start at on (stands_not separator at known (omega arith)) ∙ sym h

  -- ---- the loop over statements, likewise

  abbrev pub Passed : ℕ → Type 0
  Passed at = (n : ℕ) × (length codes ≤ n + at) × (statements_end codes (length codes) 0 ≡ statements_end codes n at)

  pub passed_start : Passed 0
  passed_start = (length codes, omega arith, refl)

  pub passed_less : (at : ℕ) → at < length codes → length codes - statement_end codes at < length codes - at
  passed_less at h =
      let on : at + 1 ≤ statement_end codes at = statement_forward.ahead at (at + 1) (omega arith) (omega arith) in
      omega arith

  pub passed_more : (at : ℕ) → Passed at → at < length codes → (code_at codes at ≡ query_code → ⊥) → Passed (statement_end codes at)
  unfolding statements_end
  passed_more at (zero, enough, is) h e = absurd (omega arith)
  passed_more at (suc n, enough, is) h e =
      let on : at + 1 ≤ statement_end codes at = statement_forward.ahead at (at + 1) (omega arith) (omega arith) in
      (n, omega arith, is ∙ astray query_code at at _ e)

  pub passed_goal : (at : ℕ) → Passed at → at < length codes → code_at codes at ≡ query_code → statements_end codes (length codes) 0 ≡ at
  unfolding statements_end
  passed_goal at (zero, enough, is) h e = absurd (omega arith)
  passed_goal at (suc n, enough, is) h e = is ∙ stood query_code at at _ e

  -- from the end of the words on there are no statements
  pub none_behind : (n at : ℕ) → length codes ≡ at → statements_end codes n at ≡ at
  unfolding statements_end
  none_behind zero at h = h
  none_behind (suc n) at h =
      let last : length codes ≡ statement_end codes at
      = omega (arith, statement_forward.within at, statement_forward.ahead at (length codes) (omega arith) (omega arith)) in
      astray query_code at at _ (λ e. omega (arith, word_among query_code at (omega arith) e))
      ∙ none_behind n (statement_end codes at) last
      ∙ (sym last ∙ h)

  pub passed_end : (at : ℕ) → Passed at → length codes ≡ at → statements_end codes (length codes) 0 ≡ at
  passed_end at (n, enough, is) h = is ∙ none_behind n at h

  -- ---- the goal line

  pub goal_among : (at : ℕ) → ends_with_goal codes at ≡ true → at < length codes
  unfolding ends_with_goal
  goal_among at e = stands_among query_code at (omega arith) (both_left (stands codes query_code at) (last_dot codes (side_end codes (at + 1))) e)

  pub no_query : (at : ℕ) → stands codes query_code at ≡ false → ends_with_goal codes at ≡ false
  unfolding ends_with_goal
  no_query at e = ap (λ (t : Bool). t && last_dot codes (side_end codes (at + 1))) e

  module _ (at side : ℕ) (queried : stands codes query_code at ≡ true) (is : side ≡ side_end codes (at + 1)) where
    behind_query : ends_with_goal codes at ≡ last_dot codes side
    unfolding ends_with_goal
    behind_query =
        ap (λ (t : Bool). t && last_dot codes (side_end codes (at + 1))) queried ∙ ap (last_dot codes) (sym is)

    pub no_dot : stands codes dot_code side ≡ false → ends_with_goal codes at ≡ false
    no_dot e = behind_query ∙ ap (λ (t : Bool). t && eqb (side + 1) (length codes)) e

    pub at_dot : stands codes dot_code side ≡ true → ends_with_goal codes at ≡ eqb (side + 1) (length codes)
    at_dot e = behind_query ∙ ap (λ (t : Bool). t && eqb (side + 1) (length codes)) e

    pub goal_found : (r : Option ℕ) → WordFound codes dot_code side r
        → MatchOption r (ends_with_goal codes at ≡ false) (λ end. ends_with_goal codes at ≡ eqb end (length codes))
    goal_found None f = no_dot f
    goal_found (Some end) (t, e) = at_dot t ∙ ap (λ (k : ℕ). eqb k (length codes)) (sym e)
