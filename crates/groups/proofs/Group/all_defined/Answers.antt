-- `groups::Group::all_defined` meets its contract. Assumes nothing.
use Rattle.std.proofs.Common.{ℕ, zero, suc, ◌+◌, ◌*◌, ◌<◌, ◌≡◌, Bool, true, false, List, length, get_or, refl, sym, ap, subst, ◌∙◌, arith, rules}
use Rattle.std.proofs.lemmas.Bool.Decides.{nat_tests}
use Rattle.std.specs.Bool.{MatchBool}
use Rattle.std.specs.List.{AllWithin, HoldsAt, range_with_len}
use Rattle.std.proofs.lemmas.Iterator.{YieldsList-from_range, cases_from_all}
use Rattle.std.proofs.lemmas.List.FromFn.{length-range_with_len, get_or-range_with_len}
use Rattle.base.specs.paper.Lists.{all}
use Rattle.image.specs.paper.Walk.{field_at}
use Rattle.image.specs.Accepted.{book_in}
use Rattle.image.specs.Places.{shows}
use Rattle.image.specs.Shown.{shown_front}
use Rattle.groups.specs.paper.Group.{observed_at, observed, is_defined}
use Rattle.groups.specs.RecordLaws.{observed_from, observed_all, observed_index, all_none, all_met, all_unmet}
use Rattle.groups.proofs.Group.all_defined.Goals as goal

pub abducibles-requires : goal.abducibles-requires
abducibles-requires c = shown_front (shows _ c.requires)

pub atoms-requires : goal.atoms-requires
atoms-requires c = shown_front (shows _ c.requires)

-- what `all` tells of the places, from 0 on
place : {k n : ℕ} → k < n → get_or (range_with_len 0 n) k 0 ≡ k
place {k} {n} i = get_or-range_with_len 0 n k 0 i ∙ omega arith

module _ (t : ℕ → Bool) (s : List ℕ) where
  -- the i-th atom, where its test is known
  atom : {i : ℕ} {u : Bool} → i < length (observed s) → t (get_or (observed s) i 0) ≡ u → t (field_at s (observed_at + 2 * i)) ≡ u
  atom {i} h e = ap t (sym (observed_index s i h)) ∙ e

  -- all pass, or the k-th does not
  all_pass : (d i : ℕ) → i + d ≡ length (observed s) → ((k : ℕ) → k < length (observed s) → t (get_or (observed s) k 0) ≡ true) → all t (observed_from s i) ≡ true
  all_pass zero i e h = all_none t s i (omega arith)
  all_pass (suc d) i e h = all_met t s i (omega arith) (atom (omega arith) (h i (omega arith))) ∙ all_pass d (i + 1) (omega arith) h

  one_fails : (d i k : ℕ) → i + d ≡ k → k < length (observed s) → t (get_or (observed s) k 0) ≡ false → all t (observed_from s i) ≡ false
  one_fails zero i k e h q = all_unmet t s i (omega arith) (atom (omega arith) (subst (λ (j : ℕ). t (get_or (observed s) j 0) ≡ false) (omega arith) q))
  one_fails (suc d) i k e h q = go (t (field_at s (observed_at + 2 * i))) refl (one_fails d (i + 1) k (omega arith) h q)
    where
      go : (u : Bool) → t (field_at s (observed_at + 2 * i)) ≡ u → all t (observed_from s (i + 1)) ≡ false → all t (observed_from s i) ≡ false
      go true m later = all_met t s i (omega arith) m ∙ later
      go false m later = all_unmet t s i (omega arith) m

  all_placed : (r : Bool) → let ps = range_with_len 0 (length (observed s)) in
      MatchBool r (AllWithin (λ k. t (get_or (observed s) k 0) ≡ true) ps 0 (length ps)) ((k : ℕ) × (k < length ps) × HoldsAt (λ k. t (get_or (observed s) k 0) ≡ false) ps k)
      → r ≡ all t (observed s)
  all_placed true h =
      let n = length-range_with_len 0 (length (observed s)) in
      sym
      (ap (all t) (sym (observed_all s))
      ∙ all_pass (length (observed s)) 0 (omega arith) (λ k i. subst (λ (p : ℕ). t (get_or (observed s) p 0) ≡ true) (place i) (h k 0 (omega arith) (omega (arith, n)))))
  all_placed false (k, i, h) =
      let within : k < length (observed s) = omega (arith, length-range_with_len 0 (length (observed s))) in
      sym
      (ap (all t) (sym (observed_all s))
      ∙ one_fails k 0 k (omega arith) within (subst (λ (p : ℕ). t (get_or (observed s) p 0) ≡ false) (place within) (h 0)))

pub returns : goal.returns
returns c =
    let t = is_defined (book_in c.args.book.now) in
    let xs = observed c.args.self.bytes.now in
    let sh = shows _ c.requires in
    let abducibles : c.abducibles.result ≡ (book_in c.args.book.now).abducibles = c.abducibles.ensures.0 ∙ sh.abducibles in
    let atoms : c.atoms.result ≡ (book_in c.args.book.now).atoms = c.atoms.ensures.0 ∙ sh.atoms in
    all_placed t c.args.self.bytes.now c.all.result
    (cases_from_all _ _ _ (λ k. t (get_or xs k 0) ≡ true) (λ k. t (get_or xs k 0) ≡ false) c.all.ensures.ran
    (YieldsList-from_range 0 c.count.result (length xs) refl (omega arith))
    (λ x q k. (search rules, grind (arith, nat_tests))) (λ x q k. grind (arith, nat_tests)))
