-- The reader reads d exactly if the text spells d; and a text spells one document at the most.
-- Assumes nothing.
use Rattle.std.specs.Prelude.{ℕ, ◌≡◌, ◌↔◌, List, length}
use Rattle.std.proofs.Common.{arith, sym, ap, ◌∙◌, subst}
use Rattle.spelling.specs.Cut.{words}
use Rattle.spelling.specs.paper.Document.{Document, of_document}
use Rattle.spelling.specs.Reader.{reads, parse_words, parse}
use Rattle.spelling.proofs.Sound.{parse_sound}
use Rattle.spelling.proofs.Complete.{parse_complete}
use Rattle.spelling.specs.paper.Spelt.{Spaced, Spelt}
use Rattle.spelling.specs.Cutting.{words_spaced, words_apart}
use Rattle.spelling.proofs.Apart.{document_apart}

pub parse_spelt : (t : List ℕ) (d : Document) → (parse t ≡ reads d) ↔ Spelt t d
unfolding parse
parse_spelt t d = (to, back)
  where
    to : parse_words (words t) ≡ reads d → Spelt t d
    to e =
        let s = parse_sound (words t) d e in
        (subst (Spaced t) s.0 (words_spaced (length t) t (omega arith)), s.1)

    back : Spelt t d → parse_words (words t) ≡ reads d
    back s =
        ap parse_words (words_apart (length t) t (of_document d) (omega arith) s.0 (document_apart d s.1))
        ∙ parse_complete d s.1

-- so a text spells at most one document
pub spelt_once : (t : List ℕ) (c d : Document) → Spelt t c → Spelt t d → c ≡ d
spelt_once t c d p q =
    let e : reads c ≡ reads d = sym ((parse_spelt t c).1 p) ∙ (parse_spelt t d).1 q in
    cc
