-- What the parts of the code find of a text, put together: the document that its words spell, the numbers of its names, and its image.
-- Assumes nothing.
use Rattle.std.specs.Prelude.{ℕ, ◌≤◌, ◌<◌, ◌≡◌, true, false, Some, None, List, ◌++◌, map, length, take, drop}
use Rattle.std.proofs.Common.{arith, sym, ap₂, ◌∙◌, subst, length-append, length-drop, take_at}
use Rattle.std.proofs.Math.Path.{ap}
use Rattle.base.specs.paper.Lists.{◌∈◌, flat, filter}
use Rattle.base.specs.Parts.{filter_length}
use Rattle.book.specs.paper.Reading.{Accepted, Refused, Reads}
use Rattle.spelling.specs.paper.Words.{Word}
use Rattle.spelling.specs.paper.Document.{Atom, Document, of_statement, of_document}
use Rattle.spelling.specs.paper.Said.{mentions, numbered, number_of}
use Rattle.spelling.specs.paper.Answer.{longest_text, Says, image_of, Clear}
use Rattle.spelling.specs.Cut.{words as words_of}
use Rattle.spelling.specs.Reader.{reads, parse, parse_words}
use Rattle.spelling.proofs.Sound.{parse_sound}
use Rattle.spelling.proofs.Found.{parse_spelt}
use Rattle.spelling.proofs.Mentioned.{scan}
use Rattle.spelling.specs.Codes.{codes_of}
use Rattle.spelling.specs.Table.{name_of, is_marked, table_of, Entries, number_in}
use Rattle.spelling.proofs.Ranks.{table_atoms, table_marked, mention_number}
use Rattle.naming.specs.declared.Table.{Table}
use Rattle.naming.specs.Taken.{TakenWords}
use Rattle.grammar.specs.Places.{goal_place, place_of}
use Rattle.grammar.proofs.Goal.{goal_placed}
use Rattle.writer.specs.Fields.{image_by}
use Rattle.writer.specs.Due.{Statements}
use Rattle.writer.proofs.OfDocument.{image_by_lem}
use Rattle.writer.specs.Writable.{codes_due, image_room}
use Rattle.writer.proofs.Writable.{image_fits}
use Rattle.text.specs.Given.{Numbered}
use Rattle.text.specs.Made.{Lent, Found, Refuses, not_placed, placed, clash_ends, no_clash, turned_ends, accepted_good}

read_words : (text : List ℕ) (d : Document) → parse text ≡ reads d → parse_words (words_of text) ≡ reads d
unfolding parse
read_words text d e = e

-- all that the writer of the image needs, and what it then writes
pub record Drafted (text codes entries numbers : List ℕ) (words names marked goal : ℕ) : Type 0 where
  pub d : Document
  pub clear : Clear text d
  pub due : Statements (take words codes) goal numbers
  pub image : image_by (take words codes) goal numbers names marked ≡ image_of d
  pub table : Entries text entries (table_of (mentions d))
  pub many : names ≡ length (table_of (mentions d))

pub marked_few : {text codes : List ℕ} {list : Table} {words : ℕ} → TakenWords text codes list words → list.marked ≤ list.names
marked_few {text} t = omega (arith, t.marked, t.names, filter_length is_marked (table_of (scan false (words_of text))))

-- where the document is known
module _ {text codes : List ℕ} {list : Table} {words : ℕ} (t : TakenWords text codes list words) {goal : ℕ} (d : Document) (says : Says text d)
    (place : goal ≡ length (flat of_statement d.statements)) (met : scan false (words_of text) ≡ mentions d) (single : list.clash ≡ false) {numbers : List ℕ}
    (n : Numbered list.entries list.marked numbers list.names) where
  clear : Clear text d
  clear = no_clash text d says met (sym t.clash ∙ single)

  table : table_of (scan false (words_of text)) ≡ table_of (mentions d)
  table = ap table_of met

  many : list.names ≡ length (table_of (mentions d))
  many = t.names ∙ ap length table

  marks : list.marked ≡ length (filter is_marked (table_of (mentions d)))
  marks = t.marked ∙ ap (λ (l : List Atom). length (filter is_marked l)) table

  listed : Entries text list.entries (table_of (mentions d))
  listed = subst (Entries text list.entries) table t.entries

  coded : take words codes ≡ codes_of (map name_of (table_of (mentions d))) (of_document d)
  coded =
      t.codes
      ∙ ap₂ (λ (l : List Atom) (ws : List Word). codes_of (map name_of l) ws) table (parse_sound (words_of text) d (read_words text d ((parse_spelt text d).1 says.1))).0

  each : (a : Atom) → a ∈ mentions d
      → (number_of (map name_of (table_of (mentions d))) a.name < length (table_of (mentions d)))
      × (number_in (length (filter is_marked (table_of (mentions d)))) list.entries (number_of (map name_of (table_of (mentions d))) a.name) ≡ number_of (numbered d) a.name)
  each = mention_number d clear.clear text list.entries listed (omega (arith, many, t.few, t.short, t.long.1))

  known_drafted : Drafted text codes list.entries numbers words list.names list.marked goal
  known_drafted =
      record {
        d = d;
        clear = clear;
        due =
            subst (λ (l : List ℕ). Statements l goal numbers) (sym coded)
            (subst (λ (k : ℕ). Statements (codes_of (map name_of (table_of (mentions d))) (of_document d)) k numbers) (sym place)
            (codes_due d (map name_of (table_of (mentions d))) numbers (λ a i. omega (arith, (each a i).0, n.size, many, t.few, t.short))));
        image =
            ap₂ (λ (l : List ℕ) (k : ℕ). image_by l k numbers list.names list.marked) coded place
            ∙ ap₂ (λ (x y : ℕ). image_by (codes_of (map name_of (table_of (mentions d))) (of_document d)) (length (flat of_statement d.statements)) numbers x y)
            (many ∙ table_atoms d clear.clear) (marks ∙ table_marked d clear.clear)
            ∙ image_by_lem d (map name_of (table_of (mentions d))) numbers clear.says.1.1
            (λ a i. n.given (number_of (map name_of (table_of (mentions d))) a.name) (omega (arith, (each a i).0, many))
            ∙ ap (λ (m : ℕ). number_in m list.entries (number_of (map name_of (table_of (mentions d))) a.name)) marks ∙ (each a i).1);
        table = listed;
        many = many;
      }

module _ {text codes : List ℕ} {list : Table} {words : ℕ} (short : length text ≤ longest_text) (t : TakenWords text codes list words) where
  parsed : goal_place (take words codes) ≡ place_of (parse text)
  unfolding parse
  parsed = ap goal_place t.codes ∙ goal_placed _ (words_of text)

  pub drafted_malformed : None ≡ goal_place (take words codes) → Refuses text 50
  drafted_malformed g what room = not_placed what text room (sym (g ∙ parsed))

  module _ {goal : ℕ} (g : Some goal ≡ goal_place (take words codes)) where
    spelt : (d : Document) × Says text d × (goal ≡ length (flat of_statement d.statements)) × (scan false (words_of text) ≡ mentions d)
    spelt = placed text goal short (g ∙ parsed)

    pub drafted_clash : list.clash ≡ true → Refuses text 51
    drafted_clash e what room = clash_ends text spelt.0 spelt.1 spelt.3 what room (sym t.clash ∙ e)

    pub drafted : list.clash ≡ false → {numbers : List ℕ} → Numbered list.entries list.marked numbers list.names
        → Drafted text codes list.entries numbers words list.names list.marked goal
    drafted single n = known_drafted t spelt.0 spelt.1 spelt.2 spelt.3 single n

module _ {text codes entries numbers : List ℕ} {words names marked goal : ℕ} (f : Drafted text codes entries numbers words names marked goal) where
  abbrev drawn : List ℕ
  drawn = image_by (take words codes) goal numbers names marked

  pub drafted_fits : length drawn ≤ image_room
  drafted_fits = subst (λ (s : List ℕ). length s ≤ image_room) (sym f.image) (image_fits text f.d f.clear.says)

  module _ (old : List ℕ) {image : List ℕ} {size : ℕ} (s : size ≡ length drawn) (e : image ≡ drawn ++ drop (length drawn) old) where
    pub drafted_front : take size image ≡ image_of f.d
    drafted_front = ap (take size) e ∙ take_at drawn (drop (length drawn) old) size (sym s) ∙ f.image

    pub drafted_within : size ≤ length image
    drafted_within = omega (arith, s, ap length e, length-append drawn (drop (length drawn) old))

    module _ (r : image_room ≤ length old) (l : length entries ≡ longest_text) where
      pub drafted_lent : Lent entries image
      drafted_lent = (omega (arith, r, drafted_fits, ap length e, length-append drawn (drop (length drawn) old), length-drop (length drawn) old), l)

      pub drafted_turned : (m place : ℕ) → Reads (take size image) (Refused m place) → Refuses text m
      drafted_turned m place q what room = turned_ends text f.d f.clear what room m place (subst (λ (l : List ℕ). Reads l (Refused m place)) drafted_front q)

      pub drafted_accepted : Reads (take size image) Accepted → names ≤ longest_text → Found text entries image size names
      drafted_accepted q few =
          record {
            d = f.d;
            clear = f.clear;
            good = accepted_good text f.d f.clear (subst (λ (l : List ℕ). Reads l Accepted) drafted_front q);
            within = omega (arith, s, drafted_fits);
            front = drafted_front;
            table = f.table;
            few = few;
            many = f.many;
          }
