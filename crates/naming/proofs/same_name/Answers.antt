-- `naming::same_name` meets its contract. Assumes nothing.
use Rattle.std.specs.Prelude.{ℕ, List, ◌+◌, ◌-◌, ◌≡◌, not, length, take, drop}
use Rattle.std.specs.Bool.{Decides}
use Rattle.std.proofs.Common.{arith, sym, ap, ◌∙◌, length-drop}
use Rattle.std.proofs.lemmas.Bool.Decides.{Decides-eqb}
use Rattle.std.proofs.lemmas.List.{length-take-le, take_rest}
use Rattle.std.proofs.lemmas.Slice.Eq.{slice_eq-Decides}
use Rattle.naming.specs.Spans.{other_bytes, told}
use Rattle.naming.proofs.same_name.Goals as goal
use Rattle.naming.proofs.same_name.Goals.{After-starts_with}

-- what the test of the bytes decides
decided : (c : After-starts_with) → let a = c.args in Decides c.starts_with.result (take a.n (drop a.at a.text.now) ≡ take a.n (drop a.there a.text.now))
decided c =
    let a = c.args in
    let text : List ℕ = a.text.now in
    let name : List ℕ = take (a.at + a.n - a.at) (drop a.at text) in
    let here : a.at + a.n - a.at ≡ a.n = omega arith in
    let size : length (take a.n (drop a.at text)) ≡ a.n = length-take-le a.n (drop a.at text) (omega (arith, c.requires.0.within, length-drop a.at text)) in
    rw (here, size, take_rest text a.there) at
    (slice_eq-Decides Decides-eqb name (take (length name) (take (length text - a.there) (drop a.there text))) c.starts_with.result c.starts_with.ensures.value)

pub returns-then-starts_with : goal.returns-then-starts_with
returns-then-starts_with c =
    ap not c.in_name.ensures ∙ told c.requires.0 c.args.there c.requires.1 ((decided (goal.at.returns-then-starts_with c).After-starts_with).0 c.if-starts_with.true)

pub returns-else-starts_with : goal.returns-else-starts_with
returns-else-starts_with c =
    let d = decided (goal.at.returns-else-starts_with c).After-starts_with in
    c.if-starts_with.false ∙ sym (other_bytes c.requires.0 c.args.there c.requires.1 (λ e. let t = d.1 e in cc))
