-- What `write` leaves: the image of the book with a group's facts, from the room's front on.
-- Assumes nothing.
use Rattle.std.specs.Prelude.{ℕ, ◌+◌, ◌-◌, ◌*◌, ◌≤◌, ◌≡◌, List, [], ◌∷◌, length, take, drop}
use Rattle.std.proofs.Common.{sym, ap, subst, ◌∙◌, arith}
use Rattle.std.proofs.lemmas.List.{drop-take}
use Rattle.std.proofs.Math.Seq.{slice}
use Rattle.image.specs.paper.Front.{version_at, atoms_at}
use Rattle.image.specs.paper.Walk.{field_at}
use Rattle.image.specs.Laid.{laid}
use Rattle.image.specs.Accepted.{book_in}
use Rattle.image.specs.Shown.{clause_count_at, constraint_count_at}
use Rattle.image.specs.Written.{decode_written}
use Rattle.image.specs.Encode.{Bytes}
use Rattle.image.specs.Places.{shows, goal_before}
use Rattle.groups.specs.paper.Group.{observed, group_image}
use Rattle.groups.proofs.GroupLaws.{group_length}
use Rattle.groups.specs.Wrote.{WroteBytes, wrote_field, wrote_more, wrote_front}
use Rattle.groups.specs.Pieces.{front_bytes, fact_length, fact_bytes, clauses_before}
use Rattle.groups.proofs.Pieces.{group_bytes, group_pieces}
use Rattle.groups.specs.Writes.{Writable, WroteGroup, Found, Ordered}

-- a part of a list, as the code cuts it
part : (from to : ℕ) (s : List ℕ) → from ≤ to → take (to - from) (drop from s) ≡ slice from to s
part from to s h = sym (drop-take from (to - from) s) ∙ ap (λ (n : ℕ). drop from (take n s)) (omega arith)

module _ {book group image : List ℕ} {counted told facts : ℕ} (w : Writable book group image) (f : Found book group counted told facts) where
  fits : length (group_image (book_in book) (observed group)) ≤ length image
  fits =
      let d = decode_written book (book_in book) w.book in
      omega (arith, group_length (book_in book) (observed group) d.within d.free w.known w.few, w.room)

  pub ordered : Ordered book image counted told facts
  ordered =
      record {
        front = omega (arith, goal_before book, f.clauses);
        order = omega (arith, clauses_before book (book_in book) w.book, f.clauses, f.constraints);
        within = omega (arith, (shows book w.book).fits, f.constraints);
        room = omega (arith, fits, group_bytes book (book_in book) w.book (observed group), f.observations);
      }

  module _ (bytes : Bytes book) where
    pub group_wrote : {m₁ m₂ m₃ m₄ m₅ m₆ : List ℕ} {n r₂ r₄ r₅ r₆ : ℕ} → n ≡ field_at book counted
        → WroteBytes (front_bytes (length book + fact_length * facts - atoms_at)) image version_at m₁ atoms_at
        → WroteBytes (take (counted - atoms_at) (drop atoms_at book)) m₁ atoms_at m₂ r₂
        → m₃ ≡ laid m₂ r₂ ((n + facts) ∷ [])
        → WroteBytes (take (told - (counted + 2)) (drop (counted + 2) book)) m₃ (r₂ + 2) m₄ r₄
        → WroteBytes (fact_bytes (observed group)) m₄ r₄ m₅ r₅
        → WroteBytes (take (length book - told) (drop told book)) m₅ r₅ m₆ r₆
        → WroteGroup book group image m₆ r₆
    group_wrote {m₆ = m₆} {n = n} {r₆ = r₆} e front goal count clauses added constraints =
        let goal' = rw (part atoms_at counted book ordered.front) at goal in
        let clauses' = rw (part (counted + 2) told book ordered.order) at clauses in
        let constraints' = rw (part told (length book) book ordered.within) at constraints in
        let written = wrote_more (wrote_more (wrote_more (wrote_more (wrote_more front goal') (wrote_field (n + facts) count)) clauses') added) constraints' in
        let same = group_pieces book (book_in book) w.book bytes (observed group) f.clauses f.constraints f.observations e in
        let whole = subst (λ (s : List ℕ). WroteBytes s image version_at m₆ r₆) same written in
        record { bytes = omega (arith, whole.end); image = wrote_front fits whole }

-- the places in their order, by what the code finds
pub in_order : {book group image : List ℕ} {counted told facts : ℕ} → counted ≡ clause_count_at book → told ≡ constraint_count_at book → facts ≡ length (observed group)
    → Writable book group image → (atoms_at ≤ counted) × (counted + 2 ≤ told) × (told ≤ length book) × (length book + fact_length * facts ≤ length image)
in_order e f g w = let o = ordered w (record { clauses = e; constraints = f; observations = g }) in (o.front, o.order, o.within, o.room)
