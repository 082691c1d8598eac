-- The image of the book with a group's facts is accepted, as that book.
-- Assumes nothing.
use Rattle.std.specs.Prelude.{ℕ, ◌+◌, ◌≤◌, ◌≡◌, true, List, length}
use Rattle.std.proofs.Common.{◌∙◌}
use Rattle.base.specs.paper.Lists.{all}
use Rattle.image.specs.paper.Book.{Book}
use Rattle.image.specs.paper.Faults.{limits}
use Rattle.image.specs.paper.Loops.{loop_free}
use Rattle.image.specs.paper.Decode.{decode, accepted}
use Rattle.image.specs.Written.{Within, decode_written}
use Rattle.image.specs.Encode.{decode_encode, longest_image, longest_image_lem}
use Rattle.groups.specs.paper.Group.{is_defined, with_facts, group_image}
use Rattle.groups.specs.GroupLaws.{facts_within, facts_free}

pub group_accepted : (b : Book) (xs : List ℕ) → Within limits b → loop_free b ≡ true → all (is_defined b) xs ≡ true
    → length b.clauses + length xs ≤ limits.clauses → decode (group_image b xs) ≡ accepted (with_facts b xs)
group_accepted b xs w free defined few = decode_encode (with_facts b xs) (facts_within b xs defined few w) (facts_free b xs ∙ free)

pub group_length : (b : Book) (xs : List ℕ) → Within limits b → loop_free b ≡ true → all (is_defined b) xs ≡ true
    → length b.clauses + length xs ≤ limits.clauses → length (group_image b xs) ≤ longest_image
group_length b xs w free defined few = longest_image_lem (group_image b xs) (with_facts b xs) (group_accepted b xs w free defined few)

pub group_of_image : (s : List ℕ) (b : Book) (xs : List ℕ) → decode s ≡ accepted b → all (is_defined b) xs ≡ true
    → length b.clauses + length xs ≤ limits.clauses → decode (group_image b xs) ≡ accepted (with_facts b xs)
group_of_image s b xs e = let w = decode_written s b e in group_accepted b xs w.within w.free
