-- All words of a text as the code leaves them, and what the words so far leave.
-- Assumes nothing.
use Rattle.std.specs.Prelude.{ℕ, ◌+◌, ◌≤◌, ◌<◌, ◌≡◌, refl, Bool, true, false, ◌||◌, take, set, eqb}
use Rattle.std.proofs.Common.{arith, ◌∙◌, length-append, length-set}
use Rattle.std.proofs.Math.Path.{sym, ap, ap₂, subst}
use Rattle.std.proofs.Math.Bool.{or_assoc, or-false}
use mathlib.Core.List.{List, [], ◌∷◌, ◌++◌, map, map-append, append_assoc, append-nil}
use Rattle.std.proofs.Math.ListN.{length}
use Rattle.base.specs.paper.Lists.{Every, filter}
use Rattle.base.specs.Lists.{every_none, every_more, every_both}
use Rattle.base.specs.Stores.{stored}
use Rattle.spelling.specs.paper.Words.{Word, same, abd}
use Rattle.spelling.specs.paper.Document.{Atom}
use Rattle.spelling.specs.paper.Answer.{longest_text}
use Rattle.spelling.specs.Cut.{words as words_of}
use Rattle.spelling.proofs.Mentioned.{scan}
use Rattle.spelling.specs.Codes.{abd_code, code_of, codes_of}
use Rattle.spelling.specs.Table.{name_of, is_marked, known, entered, table_of, clashes, Entries}
use Rattle.cutting.specs.CutOff.{word_at, BlanksEnd}
use Rattle.naming.specs.Chains.{names, chained_none}
use Rattle.naming.specs.declared.Table.{Table}
use Rattle.naming.specs.Names.{Fresh, Listed, listed_on}
use Rattle.naming.specs.Words.{after, clashing, Past, WordTaken, words_from, words_start, words_next, words_over, entered_next, clashes_next, grown, Told, known_kept, known_new, codes_kept, code_abd}

-- the mentions of a text, and the table of its names
abbrev pub mentions_of : List ℕ → List Atom
mentions_of text = scan false (words_of text)

abbrev pub names_in : List ℕ → List Atom
names_in text = table_of (mentions_of text)

pub record TakenWords (text numbers : List ℕ) (t : Table) (many : ℕ) : Type 0 where
  pub words : many ≡ length (words_of text)
  pub codes : take many numbers ≡ codes_of (map name_of (names_in text)) (words_of text)
  pub names : t.names ≡ length (names_in text)
  pub marked : t.marked ≡ length (filter is_marked (names_in text))
  pub clash : t.clash ≡ clashes [] (mentions_of text)
  pub entries : Entries text t.entries (names_in text)
  pub few : t.names ≤ many
  pub short : many ≤ length text
  pub long : (length numbers ≡ longest_text) × (length t.entries ≡ longest_text) × (length t.earlier ≡ longest_text)

-- arrays to begin with
pub record Ready (text codes : List ℕ) (t : Table) : Type 0 where
  pub short : length text ≤ longest_text
  pub numbers : length codes ≡ longest_text
  pub fresh : Fresh t

-- what the words before `at` leave; `marked` tells whether the last of them was `abd(`
pub record Taking (text codes : List ℕ) (t : Table) (at many : ℕ) (marked : Bool) : Type 0 where
  pub table : List Atom
  pub past : List Word
  pub within : at ≤ length text
  pub short : many ≤ at
  pub few : t.names ≤ many
  pub long : length codes ≡ longest_text
  pub counted : many ≡ length past
  pub whole : words_of text ≡ past ++ words_from text at
  pub coded : take many codes ≡ codes_of (names table) past
  pub told : Every (Told table) past
  pub listed : Listed text t table at
  pub tabled : names_in text ≡ entered table (scan marked (words_from text at))
  pub clashed : clashes [] (mentions_of text) ≡ (t.clash || clashes table (scan marked (words_from text at)))

pub taking_none : {text codes : List ℕ} {t : Table} {at : ℕ} → Ready text codes t → BlanksEnd text 0 at → Taking text codes t at 0 false
taking_none {text = text} {t = t} {at = at} r b =
    let f = r.fresh in
    record {
      table = [];
      past = [];
      within = b.within;
      short = omega arith;
      few = omega (arith, f.none.0);
      long = r.numbers;
      counted = refl;
      whole = words_start b;
      coded = refl;
      told = every_none (Told []);
      listed = record { chained = chained_none at f.long f.empty; counted = f.none.0; marked = f.none.1 };
      tabled = ap (λ (ws : List Word). table_of (scan false ws)) (words_start b);
      clashed = ap (λ (ws : List Word). clashes [] (scan false ws)) (words_start b) ∙ ap (λ (c : Bool). c || clashes [] (scan false (words_from text at))) (sym f.single);
    }

module _ {text codes : List ℕ} {list : Table} {at many : ℕ} {marked : Bool} (t : Taking text codes list at many marked) where
  pub taking_more : {list' : Table} {code end next : ℕ} → at < length text → length text ≤ longest_text → Past text at end
      → BlanksEnd text end next → WordTaken text list list' t.table (word_at text at) marked code end
      → Taking text (set codes many code) list' next (many + 1) (eqb code abd_code)
  taking_more {list' = list'} {code = code} {end = end} {next = next} l ll p b d =
      record {
        table = table';
        past = t.past ++ w ∷ [];
        within = b.within;
        short = omega (arith, t.short, p.ahead, b.ahead);
        few = omega (arith, t.few, t.listed.counted, d.listed.counted, ap length more.1, length-append t.table more.0, more.2);
        long = length-set codes many code ∙ t.long;
        counted = ap (λ (n : ℕ). n + 1) t.counted ∙ sym (length-append t.past (w ∷ []));
        whole = t.whole ∙ ap (λ (ws : List Word). t.past ++ ws) on ∙ sym (append_assoc t.past (w ∷ []) (words_from text next));
        coded =
            stored codes many code (omega (arith, t.short, t.long))
            ∙ ap₂ (λ (is : List ℕ) (i : ℕ). is ++ i ∷ []) (t.coded ∙ sym kept) d.coded
            ∙ sym (map-append (code_of (names table')) t.past (w ∷ []));
        told = every_both told (every_more (known_new t.table w marked) (every_none (Told table')));
        listed = listed_on next b.ahead d.listed;
        tabled =
            t.tabled
            ∙ ap (λ (ws : List Word). entered t.table (scan marked ws)) on
            ∙ entered_next t.table marked w (words_from text next)
            ∙ ap (λ (m : Bool). entered table' (scan m (words_from text next))) (sym flag);
        clashed =
            t.clashed
            ∙ ap (λ (ws : List Word). list.clash || clashes t.table (scan marked ws)) on
            ∙ ap (λ (c : Bool). list.clash || c) (clashes_next t.table marked w (words_from text next))
            ∙ sym (or_assoc list.clash (clashing t.table w marked) (clashes table' (scan (same w abd) (words_from text next))))
            ∙ ap₂ (λ (c m : Bool). c || clashes table' (scan m (words_from text next))) (sym d.clashed) (sym flag);
      }
    where
      w : Word
      w = word_at text at

      table' : List Atom
      table' = after t.table w marked

      more : (more : List Atom) × (after t.table w marked ≡ t.table ++ more) × (length more ≤ 1)
      more = grown t.table w marked

      on : words_from text at ≡ w ∷ words_from text next
      on = words_next l p b

      flag : eqb code abd_code ≡ same w abd
      flag = ap (λ (i : ℕ). eqb i abd_code) d.coded ∙ code_abd (names table') w

      kept : codes_of (names table') t.past ≡ codes_of (names t.table) t.past
      kept = ap (λ (s : List Atom). codes_of (names s) t.past) more.1 ∙ codes_kept t.table more.0 t.past t.told

      told : Every (Told table') t.past
      told v i e = subst (λ (s : List Atom). known s v ≡ true) (sym more.1) (known_kept t.table more.0 v (t.told v i e))

  pub taking_all : length text ≤ at → TakenWords text codes list many
  unfolding scan
  taking_all l =
      record {
        words = t.counted ∙ ap length (sym over);
        codes = t.coded ∙ ap₂ (λ (s : List Atom) (ws : List Word). codes_of (names s) ws) (sym table) (sym over);
        names = t.listed.counted ∙ ap length (sym table);
        marked = t.listed.marked ∙ ap (λ (s : List Atom). length (filter is_marked s)) (sym table);
        clash = sym (t.clashed ∙ ap (λ (ws : List Word). list.clash || clashes t.table (scan marked ws)) none ∙ or-false list.clash);
        entries = subst (Entries text list.entries) (sym table) t.listed.chained.placed;
        few = t.few;
        short = omega (arith, t.short, t.within);
        long = (t.long, t.listed.chained.long.0, t.listed.chained.long.1);
      }
    where
      none : words_from text at ≡ []
      none = words_over text at l

      over : words_of text ≡ t.past
      over = t.whole ∙ ap (λ (ws : List Word). t.past ++ ws) none ∙ append-nil t.past

      table : names_in text ≡ t.table
      table = t.tabled ∙ ap (λ (ws : List Word). entered t.table (scan marked ws)) none
