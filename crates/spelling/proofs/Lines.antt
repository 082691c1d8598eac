-- The lines of the names of an accepted text: 256 names at the most, each with at most 31 bytes and the end of its line.
-- Assumes nothing.
use Rattle.std.specs.Prelude.{ℕ, ◌*◌, ◌≤◌, ◌≡◌, refl, Bool, true, false, ◌&&◌, not, List, [], ◌∷◌, ◌++◌, length, leb}
use Rattle.std.proofs.Common.{arith, sym, ap, subst, ⊎_elim, length-append, leb-true}
use mathlib.Core.List.Memᴰ
use Rattle.base.specs.Bools.{both_left, both_right}
use Rattle.base.specs.paper.Lists.{◌∈◌, Every, all, any, put, flat}
use Rattle.base.specs.Lists.{∈_split, every_first, every_rest}
use Rattle.image.specs.paper.Decode.{accepted, decode}
use Rattle.spelling.specs.paper.Words.{Word, ascii, same, in_name, starts_small, bare_abd, bare_naf, true_word, false_word, abd, is_name}
use Rattle.spelling.specs.paper.Document.{Atom, Document}
use Rattle.spelling.specs.paper.Said.{mentions, names_of, abducibles, numbered, book_of}
use Rattle.spelling.specs.paper.Answer.{image_of, name_lines, Clear}
use Rattle.spelling.specs.Cut.{words}
use Rattle.spelling.specs.Reader.{atom_of}
use Rattle.spelling.proofs.Found.{parse_spelt}
use Rattle.spelling.proofs.Mentioned.{scan, scan_words}
use Rattle.spelling.proofs.Numbering.{names_from_lem}
use Rattle.spelling.proofs.Meant.{accepted_exactly}

abbrev pub longest_lines : ℕ
longest_lines = 8192

name_short : (w : Word) → is_name w ≡ true → length w ≤ 31
unfolding is_name
name_short w e =
    let size : Bool = leb (length w) 31 in
    let fixed : Bool = not (any (same w) (bare_abd ∷ bare_naf ∷ true_word ∷ false_word ∷ [])) in
    leb-true (length w) 31 (both_right (starts_small w && all in_name w) size (both_left ((starts_small w && all in_name w) && size) fixed e))

scan_named : (t : Bool) (ws : List Word) (a : Atom) → a ∈ scan t ws → length a.name ≤ 31
unfolding scan
scan_named t [] a i = absurd (Memᴰ.not-nil i)
scan_named t (w ∷ ws) a i = go (is_name w) refl i (scan_named (same w abd) ws a)
  where
    go : (q : Bool) → is_name w ≡ q → a ∈ put q (atom_of w t) (scan (same w abd) ws) → (a ∈ scan (same w abd) ws → length a.name ≤ 31) → length a.name ≤ 31
    go false e j later = later j
    go true e j later =
        ⊎_elim (λ (r : a ≡ atom_of w t). subst (λ (n : Word). length n ≤ 31) (sym (ap (λ (b : Atom). b.name) r)) (name_short w e)) later (Memᴰ.cases_cons j)

lines_short : (names : List Word) → Every (λ (n : Word). length n ≤ 31) names → length (flat (λ (n : Word). n ++ ascii "\n") names) ≤ 32 * length names
lines_short [] h = omega arith
lines_short (n ∷ names) h =
    omega (
      arith,
      every_first h,
      lines_short names (every_rest h),
      length-append n (ascii "\n"),
      length-append (n ++ ascii "\n") (flat (λ (n : Word). n ++ ascii "\n") names),
    )

module _ (text : List ℕ) (d : Document) (c : Clear text d) where
  mention_short : (a : Atom) → a ∈ mentions d → length a.name ≤ 31
  mention_short a i =
      scan_named false (words text) a (subst (λ (l : List Atom). a ∈ l) (sym (scan_words text d ((parse_spelt text d).1 c.says.1))) i)

  numbered_short : Every (λ (n : Word). length n ≤ 31) (numbered d)
  numbered_short n i = ⊎_elim (of (λ a. a.marked)) (of (λ a. not a.marked)) (∈_split (abducibles d) i)
    where
      of : (kind : Atom → Bool) → n ∈ names_of kind (mentions d) → length n ≤ 31
      of kind j =
          let m = names_from_lem kind (mentions d) n j in
          subst (λ (w : Word). length w ≤ 31) (sym m.3) (mention_short m.0 m.1)

  pub lines_fit : decode (image_of d) ≡ accepted (book_of d) → length (name_lines d) ≤ longest_lines
  lines_fit e = omega (arith, lines_short (numbered d) numbered_short, ((accepted_exactly text d c).0 e).few.atoms)
