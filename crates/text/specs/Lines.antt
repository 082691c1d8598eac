-- The names' lines, written from the table's entries: those of one mark after those of the other.
-- Assumes nothing.
use Rattle.std.specs.Prelude.{ℕ, zero, suc, ◌+◌, ◌/◌, ◌%◌, ◌≤◌, ◌<◌, ◌≡◌, refl, Bool, true, false, List, [], ◌∷◌, ◌++◌, map, length, take, drop, get_or, set, eqb}
use Rattle.std.proofs.Common.{arith, add-one, sym, ap, ap₂, ◌∙◌, subst, append-nil, length-append, length-take, drop_of_length-le, take-suc, take_at, eq-eqb, ne_eqb}
use Rattle.std.proofs.lemmas.List.{map-append}
use Rattle.std.proofs.lemmas.List.Edits.{sets, sets-eq}
use Rattle.std.proofs.Math.Seq.{length-sets}
use Rattle.base.specs.paper.Bools.{choose}
use Rattle.base.specs.paper.Lists.{flat, put, filter}
use Rattle.base.specs.Flat.{flat_append}
use Rattle.base.specs.Parts.{filter_append}
use Rattle.base.specs.Stores.{next_all, sets_more}
use Rattle.spelling.specs.paper.Words.{Word, ascii, in_name}
use Rattle.spelling.specs.paper.Document.{Atom}
use Rattle.spelling.specs.Cut.{span, cutting, behind}
use Rattle.spelling.specs.Table.{name_of, name_at, no_atom, bit, Entries}

-- LF
abbrev pub line_end : List ℕ
line_end = ascii "\n"

abbrev pub line_at : List ℕ → ℕ → List ℕ
line_at text at = name_at text at ++ line_end

abbrev pub has_mark : ℕ → ℕ → Bool
has_mark mark e = eqb (e % 2) mark

-- the lines of the entries with this mark
abbrev pub lines_by : List ℕ → ℕ → List ℕ → List ℕ
lines_by text mark entries = flat (λ (e : ℕ). line_at text (e / 2)) (filter (has_mark mark) entries)

-- bytes written from a place on: the place behind them, and the room
pub record Lined (s before : List ℕ) (at : ℕ) (after : List ℕ) (r : ℕ) : Type 0 where
  pub end : r ≡ at + length s
  pub room : after ≡ sets before at s

-- what a loop still has to write of `all`, which goes into `old` from `from` on
pub record Owing (old : List ℕ) (from : ℕ) (all now : List ℕ) (at : ℕ) (rest : List ℕ) : Type 0 where
  pub place : at + length rest ≡ from + length all
  pub room : sets now at rest ≡ sets old from all

pub owing_start : (old : List ℕ) (at : ℕ) (s : List ℕ) → Owing old at s old at s
owing_start old at s = record { place = refl; room = refl }

module _ {old : List ℕ} {from : ℕ} {all now : List ℕ} {at : ℕ} {rest : List ℕ} (o : Owing old from all now at rest) where
  pub owing_size : length now ≡ length old
  owing_size = sym (length-sets now at rest) ∙ ap length o.room ∙ length-sets old from all

  -- one byte of it, and some bytes
  pub owing_byte : {b : ℕ} {more : List ℕ} → rest ≡ b ∷ more → Owing old from all (set now at b) (at + 1) more
  owing_byte {b} {more} e =
      record {
        place = omega (arith, o.place, ap length e);
        room = ap (λ (j : ℕ). sets (set now at b) j more) (add-one at) ∙ ap (sets now at) (sym e) ∙ o.room;
      }

  pub owing_some : {s more after : List ℕ} {r : ℕ} → rest ≡ s ++ more → Lined s now at after r → Owing old from all after r more
  owing_some {s} {more} {after} {r} e w =
      record {
        place = omega (arith, o.place, w.end, ap length e, length-append s more);
        room = ap₂ (λ (l : List ℕ) (j : ℕ). sets l j more) w.room w.end ∙ sets_more now at s more ∙ ap (sets now at) (sym e) ∙ o.room;
      }

  pub owing_none : {more : List ℕ} → rest ≡ more → Owing old from all now at more
  owing_none e = subst (Owing old from all now at) e o

  pub owing_lined : rest ≡ [] → Lined all old from now at
  owing_lined e = record { end = omega (arith, o.place, ap length e); room = ap (sets now at) (sym e) ∙ o.room }

-- a byte behind bytes
pub lined_byte : {s before middle : List ℕ} {at m : ℕ} (b : ℕ) → Lined s before at middle m → Lined (s ++ b ∷ []) before at (set middle m b) (m + 1)
lined_byte {s} {before} {at = at} b w =
    record {
      end = omega (arith, w.end, length-append s (b ∷ []));
      room = ap₂ (λ (l : List ℕ) (j : ℕ). sets l j (b ∷ [])) w.room w.end ∙ sets_more before at s (b ∷ []);
    }

pub lined_none : (s before : List ℕ) (at : ℕ) → s ≡ [] → Lined s before at before at
lined_none s before at e = record { end = omega (arith, ap length e); room = sym (ap (sets before at) e) }

pub lined_same : {s t before after : List ℕ} {at r : ℕ} → s ≡ t → Lined s before at after r → Lined t before at after r
lined_same {before = before} {after} {at} {r} e w = subst (λ (s : List ℕ). Lined s before at after r) e w

pub lined_size : {s before after : List ℕ} {at r : ℕ} → Lined s before at after r → length after ≡ length before
lined_size {s} {before} {at = at} w = ap length w.room ∙ length-sets before at s

pub lined_both : (s t before middle after : List ℕ) (at m r : ℕ) → Lined s before at middle m → Lined t middle m after r → Lined (s ++ t) before at after r
lined_both s t before middle after at m r v w =
    record {
      end = omega (arith, v.end, w.end, length-append s t);
      room = w.room ∙ ap₂ (λ (l : List ℕ) (j : ℕ). sets l j t) v.room v.end ∙ sets_more before at s t;
    }

-- from the front on
pub lined_taken : {s before after : List ℕ} {r : ℕ} → Lined s before 0 after r → length s ≤ length before → take r after ≡ s
lined_taken {s} {before} {after} {r} w h =
    let zero : 0 + length s ≤ length before = omega arith in
    let size : length s ≡ r = omega (arith, w.end) in
    ap (take r) (w.room ∙ sets-eq s before 0 zero) ∙ take_at s (drop (0 + length s) before) r size

pub length_take_most : (n : ℕ) (l : List ℕ) → length (take n l) ≤ n
length_take_most n l = omega (arith, length-take n l)

-- ---- a name, byte by byte

pub name_goes : (text : List ℕ) (i : ℕ) → i < length text → in_name (get_or text i 0) ≡ true → name_at text i ≡ get_or text i 0 ∷ name_at text (i + 1)
unfolding span
name_goes text i h e =
    ap (λ (t : List ℕ). (span in_name t).front) (next_all text i h)
    ∙ ap (λ (b : Bool). (choose b (behind (get_or text i 0) (span in_name (drop (i + 1) text))) (cutting [] (get_or text i 0 ∷ drop (i + 1) text))).front) e

pub name_ends : (text : List ℕ) (i : ℕ) → i < length text → in_name (get_or text i 0) ≡ false → name_at text i ≡ []
unfolding span
name_ends text i h e =
    ap (λ (t : List ℕ). (span in_name t).front) (next_all text i h)
    ∙ ap (λ (b : Bool). (choose b (behind (get_or text i 0) (span in_name (drop (i + 1) text))) (cutting [] (get_or text i 0 ∷ drop (i + 1) text))).front) e

pub text_ends : (text : List ℕ) (i : ℕ) → length text ≤ i → name_at text i ≡ []
unfolding span
text_ends text i h = ap (λ (t : List ℕ). (span in_name t).front) (drop_of_length-le text h)

-- ---- the entries, one after the other

module _ (text : List ℕ) (mark e : ℕ) where
  pub line_taken : e % 2 ≡ mark → lines_by text mark (e ∷ []) ≡ line_at text (e / 2)
  line_taken h =
      ap (λ (b : Bool). flat (λ (e : ℕ). line_at text (e / 2)) (put b e [])) (eq-eqb (e % 2) mark h) ∙ append-nil (line_at text (e / 2))

  pub line_passed : (e % 2 ≡ mark → ⊥) → lines_by text mark (e ∷ []) ≡ []
  line_passed h = ap (λ (b : Bool). flat (λ (e : ℕ). line_at text (e / 2)) (put b e [])) (ne_eqb (e % 2) mark h)

module _ (text : List ℕ) (mark : ℕ) (entries : List ℕ) (i : ℕ) where
  pub lines_next : i < length entries
      → lines_by text mark (drop i entries) ≡ lines_by text mark (get_or entries i 0 ∷ []) ++ lines_by text mark (drop (i + 1) entries)
  lines_next h =
      let line : ℕ → List ℕ = λ (e : ℕ). line_at text (e / 2) in
      let e : ℕ = get_or entries i 0 in
      let more : List ℕ = drop (i + 1) entries in
      ap (lines_by text mark) (next_all entries i h)
      ∙ ap (flat line) (filter_append (has_mark mark) (e ∷ []) more)
      ∙ flat_append line (filter (has_mark mark) (e ∷ [])) (filter (has_mark mark) more)

  pub lines_over : length entries ≤ i → lines_by text mark (drop i entries) ≡ []
  lines_over h = ap (lines_by text mark) (drop_of_length-le entries h)

-- ---- they are the table's names

module _ (text entries : List ℕ) (table : List Atom) (e : Entries text entries table) (room : length table ≤ length entries) (mark : ℕ) (kind : Atom → Bool)
    (of-mark : (a : Atom) → eqb (bit a.marked) mark ≡ kind a) where
  pub lines_table : (i : ℕ) → i ≤ length table → lines_by text mark (take i entries) ≡ flat (λ (n : Word). n ++ line_end) (map name_of (filter kind (take i table)))
  lines_table zero h = refl
  lines_table (suc i) h =
      let x : ℕ = get_or entries i 0 in
      let a : Atom = get_or table i no_atom in
      ap (lines_by text mark) (take-suc entries i 0 (omega (arith, h, room)))
      ∙ ap (flat (λ (e : ℕ). line_at text (e / 2))) (filter_append (has_mark mark) (take i entries) (x ∷ []))
      ∙ flat_append (λ (e : ℕ). line_at text (e / 2)) (filter (has_mark mark) (take i entries)) (filter (has_mark mark) (x ∷ []))
      ∙ ap₂ ◌++◌ (lines_table i (omega (arith, h))) (one x a (ap (λ (n : ℕ). eqb n mark) (e i (omega (arith, h))).mark ∙ of-mark a) (e i (omega (arith, h))).name)
      ∙ sym (flat_append (λ (n : Word). n ++ line_end) (map name_of (filter kind (take i table))) (map name_of (filter kind (a ∷ []))))
      ∙ sym (ap (flat (λ (n : Word). n ++ line_end)) (map-append name_of (filter kind (take i table)) (filter kind (a ∷ []))))
      ∙ sym (ap (λ (l : List Atom). flat (λ (n : Word). n ++ line_end) (map name_of l)) (filter_append kind (take i table) (a ∷ [])))
      ∙ sym (ap (λ (l : List Atom). flat (λ (n : Word). n ++ line_end) (map name_of (filter kind l))) (take-suc table i no_atom (omega (arith, h))))
    where
      one : (x : ℕ) (a : Atom) → has_mark mark x ≡ kind a → name_at text (x / 2) ≡ a.name
          → flat (λ (e : ℕ). line_at text (e / 2)) (filter (has_mark mark) (x ∷ [])) ≡ flat (λ (n : Word). n ++ line_end) (map name_of (filter kind (a ∷ [])))
      one x a q n = ap (λ (t : Bool). flat (λ (e : ℕ). line_at text (e / 2)) (put t x [])) q ∙ go (kind a)
        where
          go : (t : Bool) → flat (λ (e : ℕ). line_at text (e / 2)) (put t x []) ≡ flat (λ (n : Word). n ++ line_end) (map name_of (put t a []))
          go true = ap (λ (w : Word). (w ++ line_end) ++ []) n
          go false = refl
