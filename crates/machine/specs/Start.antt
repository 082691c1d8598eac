-- The start: the tables are filled, and the first task is in hand, the root's own or a hypothesis with the root's agenda behind it.
-- Assumes nothing.
use Prim.Native.Nat.{ℕ, zero, suc, ◌+◌, ◌-◌, ◌*◌, ◌≤◌, ◌<◌}
use Rattle.std.proofs.Math.Nat.{sub-zero}
use native.Mathlib.Omega.{arith}
use Rattle.std.specs.Prelude.{◌≡◌, Option, Some, None, false, take, drop}
use Rattle.std.proofs.Math.Path.{refl, sym, ap}
use Rattle.std.proofs.Common.{subst, subst₂, ◌∙◌}
use mathlib.Core.List.{List, [], ◌∷◌, ◌++◌, map}
use Rattle.std.proofs.Math.ListN.{length}
use Rattle.image.specs.paper.Book.{Lit, Book}
use Rattle.image.specs.paper.Decode.{lit_of}
use Rattle.image.specs.Spell.{of_lit, of_lits, Stands}
use Rattle.image.specs.StandsLaws.{stands_within}
use Rattle.image.specs.Finds.{length_lits, lit_in_lem}
use Rattle.image.specs.Written.{Within}
use Rattle.image.specs.paper.Faults.{limits}
use Rattle.image.specs.Shown.{goal_at, lits_at_lem, clause_count_at, Shown, shown}
use Rattle.image.specs.Accepted.{within, book_in}
use Rattle.image.proofs.Accepted.{orderly}
use Rattle.sets.specs.paper.Kept.{zeros, longest}
use Rattle.searching.specs.paper.Rules.{want, keep, Node, root, on, gather, assumed, run_from}
use Rattle.searching.specs.paper.Rules
use Rattle.searching.specs.paper.Seek.{root_with}
use Rattle.searching.proofs.Bounds.{root_frames, root_named, with_frames, with_named}
use Rattle.area.specs.Ground.{pos}
use Rattle.area.specs.Lay.{of, behind_stays}
use Rattle.tables.specs.Filling.{Filled}
use Rattle.area.specs.Area as layout
use Rattle.memory.specs.declared.run.Agenda.{Agenda}
use Rattle.memory.specs.declared.run.Run.{Run}
use Rattle.memory.specs.States.{rank_tells, TASK, AGENDA}
use Rattle.memory.specs.Machine.{Trail, Own, Tail, Leads, bottom, node_of, Fine, Hand, Holds, with_hand}
use Rattle.memory.specs.Pieces.{giving}
use Rattle.memory.specs.Agreed.{Standing, Moved}
use Rattle.machine.specs.Agreed.{Searching, Told, Walked, begins_at, Known, Started, Searched}
use Rattle.machine.specs.declared.Ended.{Ended}

-- the goal, which ends where the clause count stands, and then all constraints
abbrev pub root_agenda : ℕ → Agenda
root_agenda clauses = record { at = goal_at; end = clauses; link = layout.cell_from 0 }

abbrev pub root_run : ℕ → Run
root_run clauses =
    record { state = AGENDA; task = 0; agenda = root_agenda clauses; marked = layout.trail; top = layout.frames; nodes = 0; count = 0; set = 0 }

pub known_with : {hypothesis : Option ℕ} {h : ℕ} (b : Book) → hypothesis ≡ Some h → Known hypothesis b → h < b.abducibles
known_with b i k = subst (λ (x : Option ℕ). Known x b) i k

module _ (image work work' : List ℕ) (filled : Filled image work work') (clauses : ℕ) (is-clauses : clauses ≡ clause_count_at image) where
  abbrev its : Book
  its = book_in image

  agenda : Leads image its (of work') work' 0 (root_agenda clauses) (map want its.goal ++ map keep its.constraints)
  unfolding clause_count_at
  agenda =
      let sh : Shown image its = shown image its filled.grounded.book in
      go clauses its.goal (is-clauses ∙ ap (λ (n : ℕ). goal_at + 2 * n) sh.goals) sh.goal
    where
      go : (end : ℕ) (ls : List Lit) → end ≡ goal_at + 2 * length ls → Stands image goal_at (of_lits ls)
          → Leads image its (of work') work' 0 (root_agenda end) (map want ls ++ map keep its.constraints)
      go end [] x st = Leads.linked (omega (arith, x)) (omega arith) (Tail.constraints_from 0 (omega arith))
      go end (l ∷ ls) x st =
          Leads.more
          (subst (λ (ks : List Lit). Own image (of work') goal_at end (map want ks)) (lits_at_lem image goal_at (l ∷ ls) st)
          (Own.lits (length ls) (omega (arith, x)) (omega (arith, x, length_lits (l ∷ ls), stands_within (of_lit l) (of_lits ls) st))))
          (Tail.constraints_from 0 (omega arith))

  gather_none : (n : ℕ) → gather n (λ (j : ℕ). false) ≡ 0
  unfolding gather
  gather_none zero = refl
  gather_none (suc n) = omega (arith, gather_none n)

  set_none : 0 ≡ assumed its []
  unfolding on
  set_none = sym (gather_none its.abducibles)

  root_fine : Fine its 0 (root its)
  root_fine =
      let fine : Within limits its = within image its filled.grounded.book in
      (omega (arith, root_frames its, fine.constraints, fine.atoms, fine.clauses), root_named its (orderly image its filled.grounded.book))

  root_holds : Holds image its work' (root_run clauses) (root its ∷ [])
  root_holds = record {
    tab = of work';
    height = 0;
    marks = 0;
    used = 0;
    sheet = [];
    due = [];
    grounded = filled.grounded;
    area = filled.area;
    trail = Trail.none;
    held = bottom;
    chosen = set_none;
    marked = refl;
    top = refl;
    hand = Hand.agenda agenda root_fine;
  }

  -- a hypothesis is in hand as the task, and the root's agenda behind it
  with_fine : (h : ℕ) → h < its.abducibles → Fine its 0 (root_with its h)
  with_fine h p =
      let fine : Within limits its = within image its filled.grounded.book in
      (omega (arith, with_frames its h, fine.constraints, fine.atoms, fine.clauses), with_named its (orderly image its filled.grounded.book) h p)

  with_holds : (h : ℕ) → h < its.abducibles → Holds image its work' (giving (root_run clauses) TASK (2 * h)) (root_with its h ∷ [])
  unfolding root_holds
  with_holds h p =
      with_hand root_holds (giving (root_run clauses) TASK (2 * h)) refl refl refl
      (go (2 * h) (ap lit_of even ∙ lit_in_lem (pos h)) (omega (arith, p, fine.abducibles)))
    where
      even : 2 * h ≡ of_lit (pos h)
      even = omega arith

      fine : Within limits its
      fine = within image its filled.grounded.book

      go : (task : ℕ) → lit_of task ≡ pos h → task < layout.literal_numbers
          → Hand image its (of work') work' 0 0 0 [] [] task (root_agenda clauses) TASK (root_with its h ∷ [])
      go task e low =
          let ahead : node_of (want (lit_of task) ∷ (root its).agenda) [] ≡ root_with its h = ap (λ (l : Lit). node_of (want l ∷ (root its).agenda) []) e in
          subst (λ (x : Node). Hand image its (of work') work' 0 0 0 [] [] task (root_agenda clauses) TASK (x ∷ [])) ahead
          (Hand.literal low agenda (subst (Fine its 0) (sym ahead) (with_fine h p)))

  behind : drop layout.end work' ≡ drop layout.end work
  behind = behind_stays work work' layout.end filled.size (λ j h. filled.stays j (omega arith))

  module _ (run : Run) (is-root : run ≡ root_run clauses) where
    run_holds : Holds image its work' run (root its ∷ [])
    run_holds = subst (λ (o : Run). Holds image its work' o (root its ∷ [])) (sym is-root) root_holds

    pub root_stands : Standing image work' run AGENDA
    root_stands = record { b = its; all = root its ∷ []; holds = run_holds; state = ap (λ (o : Run). o.state) is-root }

    pub started_root : {hypothesis : Option ℕ} {first : Run} → hypothesis ≡ None → Moved image work' run work' first TASK → Started image hypothesis work work' first
    started_root {first = first} i m = record {
      holds = subst (λ (x : Option ℕ). Holds image its work' first (begins_at x its ∷ [])) (sym i) (m.holds its (root its ∷ []) run_holds);
      state = rank_tells first.state TASK (omega (arith, m.state));
      nodes = m.nodes ∙ ap (λ (o : Run). o.nodes) is-root;
      count = m.count ∙ ap (λ (o : Run). o.count) is-root;
      later = behind;
    }

    pub started_with : {hypothesis : Option ℕ} {first : Run} (h : ℕ) → hypothesis ≡ Some h → Known hypothesis its → first ≡ giving run TASK (2 * h)
        → Started image hypothesis work work' first
    started_with {first = first} h i k e =
        let is : first ≡ giving (root_run clauses) TASK (2 * h) = e ∙ ap (λ (o : Run). giving o TASK (2 * h)) is-root in
        record {
          holds = subst₂ (λ (x : Option ℕ) (o : Run). Holds image its work' o (begins_at x its ∷ [])) (sym i) (sym is) (with_holds h (known_with its i k));
          state = ap (λ (o : Run). o.state) is;
          nodes = ap (λ (o : Run). o.nodes) is;
          count = ap (λ (o : Run). o.count) is;
          later = behind;
        }

-- ---- the search begins at a node, and ends with what the rules give from it

module _ {image work work' : List ℕ} {hypothesis : Option ℕ} {first : Run} (h : Started image hypothesis work work' first) (budget : ℕ) where
  pub begins : (sets : List ℕ) → length sets ≤ longest
      → Searching image budget (run_from (book_in image) (length sets) budget (begins_at hypothesis (book_in image))) sets work' first
  begins sets few = record {
    b = book_in image;
    all = begins_at hypothesis (book_in image) ∷ [];
    holds = h.holds;
    nodes = omega (arith, h.nodes);
    count = omega (arith, h.count);
    entries = few;
    answer = go first.nodes first.count h.nodes h.count;
  }
    where
      go : (n c : ℕ) → n ≡ 0 → c ≡ 0
          → run_from (book_in image) (length sets) budget (begins_at hypothesis (book_in image))
          ≡ Rules.run (book_in image) (length sets) (budget - n) (begins_at hypothesis (book_in image) ∷ []) (take c sets) n
      go n c p q = rw (p, q, sub-zero)

  pub searched : {sets after work'' : List ℕ} {answer : Ended} → length sets ≤ longest → Walked image budget sets work' first after work'' answer
      → length after ≡ length sets → Searched image hypothesis budget work after work'' answer
  searched {sets} {after} {answer = answer} few w same = record {
    told =
        subst (λ (n : ℕ). Told (run_from (book_in image) n budget (begins_at hypothesis (book_in image))) after answer) (sym same) (w.told _ (begins sets few));
    cleared = w.cleared ∙ ap (λ (l : List ℕ). zeros layout.end ++ l) h.later;
  }
