-- A word that is met, whether a name or not; and the words that follow it.
-- Assumes nothing.
use Rattle.std.specs.Prelude.{ℕ, suc, ◌+◌, ◌-◌, ◌≤◌, ◌<◌, ◌≡◌, refl, Bool, true, false, ◌&&◌, ◌||◌, List, [], ◌∷◌, ◌++◌, length, get_or, drop, eqb}
use Rattle.std.proofs.Common.{arith, sym, ap, ap₂, ◌∙◌, subst, ⊎_elim, append-nil, drop_of_length-le, ne_eqb}
use Rattle.std.proofs.Math.Bool.{or-false}
use Rattle.base.specs.paper.Bools.{choose}
use Rattle.base.specs.Bools.{decide, choose_true, choose_false, either_left, either_right}
use Rattle.base.specs.paper.Lists.{Every, put}
use Rattle.base.specs.Lists.{every_first, every_rest, any_append}
use Rattle.base.specs.Stores.{next_all}
use Rattle.spelling.specs.paper.Words.{Word, same, small, in_name, is_name, abd, naf, close, comma, neck, semicolon, dot, arrow, query, true_word, false_word}
use Rattle.spelling.specs.WordLaws.{same_refl, name_other}
use Rattle.spelling.specs.paper.Document.{Atom}
use Rattle.spelling.specs.paper.Said.{number_of}
use Rattle.spelling.specs.paper.Answer.{longest_text}
use Rattle.spelling.specs.Reader.{atom_of}
use Rattle.spelling.specs.Cut.{cut, words_by, words}
use Rattle.spelling.specs.Cutting.{words_on}
use Rattle.spelling.proofs.Mentioned.{scan}
use Rattle.spelling.specs.Codes.{fixed_words, abd_code, first_name, code_of, codes_of, hash_of}
use Rattle.spelling.proofs.Numbering.{number_most}
use Rattle.spelling.specs.Table.{known, enter, entered, differs, clashes, name_at}
use Rattle.cutting.specs.CutOff.{word_at, BlanksEnd, CutOff}
use Rattle.naming.specs.Chains.{names}
use Rattle.naming.specs.declared.Table.{Table}
use Rattle.naming.specs.Names.{Sought, Listed, NameTaken, number_kept, listed_on}

-- ---- one word

-- the table with a word's name, and whether its mention clashes
abbrev pub after : List Atom → Word → Bool → List Atom
after table w marked = choose (is_name w) (enter table (atom_of w marked)) table

abbrev pub clashing : List Atom → Word → Bool → Bool
clashing table w marked = is_name w && differs table (atom_of w marked)

pub record Past (text : List ℕ) (at end : ℕ) : Type 0 where
  pub ahead : at < end
  pub within : end ≤ length text
  pub rest : (cut (drop at text)).rest ≡ drop end text

pub record WordTaken (text : List ℕ) (t t' : Table) (table : List Atom) (w : Word) (marked : Bool) (code end : ℕ) : Type 0 where
  pub coded : code ≡ code_of (names (after table w marked)) w
  pub listed : Listed text t' (after table w marked) end
  pub clashed : t'.clash ≡ (t.clash || clashing table w marked)

-- ---- codes

-- only a name has a name's code
pub code_name : (w : Word) → code_of [] w ≡ first_name → is_name w ≡ true
unfolding code_of
code_name w e = go (is_name w) e
  where
    go : (t : Bool) → choose t (first_name + 0) (number_of fixed_words w) ≡ first_name → t ≡ true
    go true q = refl
    go false q = absurd (omega (arith, q, number_most fixed_words w))

pub code_other : (w : Word) → (code_of [] w ≡ first_name → ⊥) → is_name w ≡ false
unfolding code_of
code_other w n = go (is_name w) n
  where
    go : (t : Bool) → (choose t (first_name + 0) (number_of fixed_words w) ≡ first_name → ⊥) → t ≡ false
    go true q = absurd (q refl)
    go false q = refl

-- a word that is no name has one code
code_fixed : (ns ms : List Word) (w : Word) → is_name w ≡ false → code_of ns w ≡ code_of ms w
unfolding code_of
code_fixed ns ms w e = choose_false (first_name + number_of ns w) _ e ∙ sym (choose_false (first_name + number_of ms w) _ e)

code_named : (ns : List Word) (w : Word) → is_name w ≡ true → code_of ns w ≡ first_name + number_of ns w
unfolding code_of
code_named ns w e = choose_true (first_name + number_of ns w) _ e

-- the fixed words but the first
abbrev others : List Word
others = naf ∷ close ∷ comma ∷ neck ∷ semicolon ∷ dot ∷ arrow ∷ query ∷ true_word ∷ false_word ∷ []

no_name : is_name abd ≡ false
unfolding is_name same small in_name
no_name = refl

-- the code of `abd(`
pub code_abd : (ns : List Word) (w : Word) → eqb (code_of ns w) abd_code ≡ same w abd
unfolding code_of
code_abd ns w = ⊎_elim named fixed (decide (is_name w))
  where
    named : is_name w ≡ true → eqb (code_of ns w) abd_code ≡ same w abd
    named e = ne_eqb (code_of ns w) abd_code (λ q. omega (arith, q, code_named ns w e)) ∙ sym (name_other w abd e no_name)

    fixed : is_name w ≡ false → eqb (code_of ns w) abd_code ≡ same w abd
    fixed e = ap (λ (k : ℕ). eqb k abd_code) (choose_false (first_name + number_of ns w) _ e) ∙ go (same w abd) (number_of others w)
      where
        go : (t : Bool) (k : ℕ) → eqb (choose t 0 (suc k)) abd_code ≡ t
        go true k = refl
        go false k = ne_eqb (suc k) abd_code (λ q. omega (arith, q))

module _ {text : List ℕ} {at code end hash : ℕ} (c : CutOff text at code end hash) where
  pub past : Past text at end
  past = record { ahead = c.ahead; within = c.within; rest = c.rest }

  pub sought : length text ≤ longest_text → is_name (word_at text at) ≡ true → Sought text at (end - at) hash
  sought l e =
      record {
        short = l;
        name =
            record {
              within = omega (arith, c.within, c.ahead);
              long = (let q : end - at ≡ length (word_at text at) = omega (arith, c.long) in q) ∙ ap length (sym (c.named e));
            };
        some = omega (arith, c.ahead);
        hashed = c.hashed e ∙ ap hash_of (sym (c.named e));
        bucket = c.bucket;
      }

  module _ {t : Table} {table : List Atom} {marked : Bool} where
    pub word_name : {t' : Table} {number : ℕ} → is_name (word_at text at) ≡ true
        → NameTaken text t t' table (atom_of (name_at text at) marked) (at + 1) number
        → WordTaken text t t' table (word_at text at) marked number end
    word_name {t' = t'} e d =
        record {
          coded = d.coded ∙ ap₂ (λ (l : List Atom) (v : Word). first_name + number_of (names l) v) full (c.named e) ∙ sym (code_named (names (after table w marked)) w e);
          listed = listed_on end (omega (arith, c.ahead)) (subst (λ (l : List Atom). Listed text t' l (at + 1)) full d.listed);
          clashed =
              d.clashed
              ∙ ap (λ (v : Word). t.clash || differs table (atom_of v marked)) (c.named e)
              ∙ sym (ap (λ (b : Bool). t.clash || (b && differs table (atom_of w marked))) e);
        }
      where
        w : Word
        w = word_at text at

        full : enter table (atom_of (name_at text at) marked) ≡ after table w marked
        full = ap (λ (v : Word). enter table (atom_of v marked)) (c.named e) ∙ sym (choose_true (enter table (atom_of w marked)) table e)

    pub word_fixed : is_name (word_at text at) ≡ false → Listed text t table at → WordTaken text t t table (word_at text at) marked code end
    word_fixed e d =
        record {
          coded = c.code ∙ code_fixed [] (names (after table w marked)) w e;
          listed =
              subst (λ (l : List Atom). Listed text t l end) (sym (choose_false (enter table (atom_of w marked)) table e))
              (listed_on end (omega (arith, c.ahead)) d);
          clashed = sym (or-false t.clash) ∙ sym (ap (λ (b : Bool). t.clash || (b && differs table (atom_of w marked))) e);
        }
      where
        w : Word
        w = word_at text at

-- ---- the words that follow

-- from a place on where no blank stands
abbrev pub words_from : List ℕ → ℕ → List Word
words_from text at = words_by words (drop at text)

pub words_start : {text : List ℕ} {at r : ℕ} → BlanksEnd text at r → words (drop at text) ≡ words_from text r
words_start {text = text} {at = at} b = words_on (drop at text) ∙ ap (words_by words) b.rest

pub words_next : {text : List ℕ} {at end next : ℕ} → at < length text → Past text at end → BlanksEnd text end next → words_from text at ≡ word_at text at ∷ words_from text next
unfolding words_by
words_next {text = text} {at = at} l p b =
    ap (words_by words) first
    ∙ ap (λ (t : List ℕ). (cut t).front ∷ words (cut t).rest) (sym first)
    ∙ ap (λ (ws : List Word). word_at text at ∷ ws) (ap words p.rest ∙ words_start b)
  where
    first : drop at text ≡ get_or text at 0 ∷ drop (at + 1) text
    first = next_all text at l

pub words_over : (text : List ℕ) (at : ℕ) → length text ≤ at → words_from text at ≡ []
unfolding words_by
words_over text at l = ap (words_by words) (drop_of_length-le text l)

pub entered_next : (table : List Atom) (marked : Bool) (w : Word) (ws : List Word)
    → entered table (scan marked (w ∷ ws)) ≡ entered (after table w marked) (scan (same w abd) ws)
unfolding scan
entered_next table marked w ws = go (is_name w)
  where
    go : (t : Bool) → entered table (put t (atom_of w marked) (scan (same w abd) ws)) ≡ entered (choose t (enter table (atom_of w marked)) table) (scan (same w abd) ws)
    go true = refl
    go false = refl

pub clashes_next : (table : List Atom) (marked : Bool) (w : Word) (ws : List Word)
    → clashes table (scan marked (w ∷ ws)) ≡ (clashing table w marked || clashes (after table w marked) (scan (same w abd) ws))
unfolding scan
clashes_next table marked w ws = go (is_name w)
  where
    go : (t : Bool) → clashes table (put t (atom_of w marked) (scan (same w abd) ws))
        ≡ ((t && differs table (atom_of w marked)) || clashes (choose t (enter table (atom_of w marked)) table) (scan (same w abd) ws))
    go true = refl
    go false = refl

-- ---- the table only grows

pub grown : (table : List Atom) (w : Word) (marked : Bool) → (more : List Atom) × (after table w marked ≡ table ++ more) × (length more ≤ 1)
unfolding enter
grown table w marked = go (is_name w) (known table w)
  where
    go : (s t : Bool) → (more : List Atom) × (choose s (choose t table (table ++ atom_of w marked ∷ [])) table ≡ table ++ more) × (length more ≤ 1)
    go true true = ([], sym (append-nil table), omega arith)
    go true false = (atom_of w marked ∷ [], refl, omega arith)
    go false t = ([], sym (append-nil table), omega arith)

-- each name is in the table
abbrev pub Told : List Atom → Word → Type 0
Told table w = is_name w ≡ true → known table w ≡ true

pub known_kept : (table more : List Atom) (w : Word) → known table w ≡ true → known (table ++ more) w ≡ true
known_kept table more w e = any_append (λ (a : Atom). same w a.name) table more ∙ either_left (known table w) (known more w) e

pub known_new : (table : List Atom) (w : Word) (marked : Bool) → Told (after table w marked) w
unfolding enter
known_new table w marked e = ap (λ (t : List Atom). known t w) (choose_true (enter table (atom_of w marked)) table e) ∙ go (known table w) refl
  where
    go : (t : Bool) → known table w ≡ t → known (choose t table (table ++ atom_of w marked ∷ [])) w ≡ true
    go true q = q
    go false q =
        any_append (λ (a : Atom). same w a.name) table (atom_of w marked ∷ [])
        ∙ either_right (known table w) (same w w || false) (either_left (same w w) false (same_refl w))

code_kept : (table more : List Atom) (w : Word) → Told table w → code_of (names (table ++ more)) w ≡ code_of (names table) w
code_kept table more w k =
    ⊎_elim
    (λ (e : is_name w ≡ true).
    code_named (names (table ++ more)) w e ∙ ap (λ (i : ℕ). first_name + i) (number_kept w table more (k e)) ∙ sym (code_named (names table) w e))
    (λ (e : is_name w ≡ false). code_fixed (names (table ++ more)) (names table) w e) (decide (is_name w))

pub codes_kept : (table more : List Atom) (ws : List Word) → Every (Told table) ws → codes_of (names (table ++ more)) ws ≡ codes_of (names table) ws
codes_kept table more [] k = refl
codes_kept table more (w ∷ ws) k = ap₂ (λ (i : ℕ) (is : List ℕ). i ∷ is) (code_kept table more w (every_first k)) (codes_kept table more ws (every_rest k))
