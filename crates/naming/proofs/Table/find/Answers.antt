-- `naming::Table::find` meets its contract. Assumes nothing.
use Rattle.std.specs.Prelude.{ℕ, List, ◌-◌, ◌/◌, ◌≤◌, ◌<◌, ◌≡◌, get_or}
use Rattle.std.proofs.Common.{arith, sym, ap, ◌∙◌, subst}
use Rattle.spelling.specs.paper.Words.{same}
use Rattle.spelling.specs.paper.Document.{Atom}
use Rattle.spelling.specs.Table.{name_at}
use Rattle.naming.specs.Chains.{name_in, Passed, passed_start, passed_next, found, none_found}
use Rattle.naming.specs.Names.{Listed}
use Rattle.naming.proofs.Table.find.Goals as goal
use Rattle.naming.proofs.Table.find.Goals.{In-loop-link, After-same_name}

-- what is known of some table, for what the code may do
passing : (m : In-loop-link) → Passed m.requires.listed.0 (name_at m.args.text.now m.args.at) m.loop-link.link
passing m = m.loop-link.invariant m.requires.listed.0 m.requires.listed.1

entry : (m : In-loop-link) → m.loop-link.link ≤ m.args.at
entry m = omega (arith, (passing m).within, m.requires.listed.1.chained.few)

-- the entry stands before the name that is sought
before : (m : In-loop-link) → get_or m.args.self.now.entries (m.loop-link.link - 1) 0 / 2 < m.args.at
before m = m.requires.listed.1.chained.before (m.loop-link.link - 1) (omega (arith, (passing m).within, m.loop-link-test.true))

falls : (m : In-loop-link) → get_or m.args.self.now.earlier (m.loop-link.link - 1) 0 < m.loop-link.link
falls m =
    omega
    (arith, (m.requires.listed.1.chained.back (m.loop-link.link - 1) (omega (arith, (passing m).within, m.loop-link-test.true))).within, m.loop-link-test.true)

pub loop-link-init : goal.loop-link-init
loop-link-init c =
    λ table d. subst (Passed table _) (sym c.from-link.ensures) (passed_start d.chained _ c.args.hash c.requires.sought.hashed c.requires.sought.bucket)

pub offset_bounds-self-i : goal.offset_bounds-self-i
offset_bounds-self-i c = omega (arith, entry (goal.at.offset_bounds-self-i c).In-loop-link)

pub bounds-self-i : goal.bounds-self-i
bounds-self-i c = omega (arith, entry (goal.at.bounds-self-i c).In-loop-link)

pub same_name-requires : goal.same_name-requires
same_name-requires c =
    (c.requires.sought.name, subst (λ (e : ℕ). e / 2 < c.args.at) (sym c.from.ensures) (before (goal.at.same_name-requires c).In-loop-link))

-- the name of an entry that was looked at
told : (m : After-same_name) (table : List Atom) → Listed m.args.text.now m.args.self.now table m.args.at
    → same (name_at m.args.text.now m.args.at) (name_in table (m.loop-link.link - 1)) ≡ m.same_name.result
told m table d =
    let a = m.args in
    let l = m.loop-link in
    let entry = d.chained.placed (l.link - 1) (omega (arith, (l.invariant table d).within, m.loop-link-test.true)) in
    ap (same (name_at a.text.now a.at)) (sym entry.name ∙ ap (λ (e : ℕ). name_at a.text.now (e / 2)) (sym m.from.ensures)) ∙ sym m.same_name.ensures

pub returns-then-same_name : goal.returns-then-same_name
returns-then-same_name c =
    λ table d.
    let l = c.loop-link in
    found d.chained _ l.link c.loop-link-test.true (l.invariant table d) (told (goal.at.returns-then-same_name c).After-same_name table d ∙ c.if-same_name.true)

pub offset_bounds-self-i-in-loop-link : goal.offset_bounds-self-i-in-loop-link
offset_bounds-self-i-in-loop-link c = omega (arith, entry (goal.at.offset_bounds-self-i-in-loop-link c).In-loop-link)

pub bounds-self-i-in-loop-link : goal.bounds-self-i-in-loop-link
bounds-self-i-in-loop-link c = omega (arith, entry (goal.at.bounds-self-i-in-loop-link c).In-loop-link)

pub loop-link-smaller : goal.loop-link-smaller
loop-link-smaller c = omega (arith, c.from-link-in-loop-link.ensures, falls (goal.at.loop-link-smaller c).In-loop-link)

pub loop-link-preserved : goal.loop-link-preserved
loop-link-preserved c =
    λ table d.
    let l = c.loop-link in
    subst (Passed table _) (sym c.from-link-in-loop-link.ensures)
    (passed_next d.chained _ l.link c.loop-link-test.true (l.invariant table d) (told (goal.at.loop-link-preserved c).After-same_name table d ∙ c.if-same_name.false))

pub returns : goal.returns
returns c =
    λ table d.
    let over : c.loop-link.link ≡ 0 = omega arith in
    none_found d.chained _ (subst (Passed table _) over (c.loop-link.invariant table d))
