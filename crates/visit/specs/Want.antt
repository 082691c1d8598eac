-- A literal is wanted, as the code does it.
-- Assumes nothing.
use Rattle.std.specs.Prelude.{ℕ, ◌+◌, ◌/◌, ◌%◌, ◌^◌, ◌≤◌, ◌<◌, ◌≡◌, refl, List, ◌∷◌, ◌++◌, get_or, drop}
use Rattle.std.proofs.Common.{arith, sym, ap, ap₂, subst, subst₂, ◌∙◌}
use Rattle.image.specs.paper.Book.{Book}
use Rattle.image.specs.paper.Faults.{limits}
use Rattle.searching.specs.paper.Rules.{Node, children}
use Rattle.area.specs.Area as layout
use Rattle.memory.specs.Places.{record_agenda, bits64}
use Rattle.memory.specs.declared.run.Run.{Run}
use Rattle.memory.specs.States.{rank, AGENDA, WAY, FAILED}
use Rattle.memory.specs.Machine.{Holds}
use Rattle.memory.specs.Pieces.{in_state, giving, placing, Layable, LaidDown, marked_with, raised, adding, Markable, Marked}
use Rattle.visit.specs.Visit
use Rattle.memory.specs.Agreed.{Visited, Tasked, FreeLiteral}

module _ (work : List ℕ) (run : Run) (pre : Tasked work run) (lit : run.task < layout.literal_numbers) where
  visited : (v : List ℕ) (o q : Run) → q ≡ o → rank o.state ≤ rank FAILED → o.nodes ≡ run.nodes → o.count ≡ run.count → drop layout.end v ≡ drop layout.end work
      → ((image : List ℕ) (b : Book) (x : Node) (rest : List Node) → Holds image b work run (x ∷ rest) → Holds image b v o (children b x ++ rest)) → Visited work run v q
  visited v o q e st n c l f =
      subst (λ (p : Run). Visited work run v p) (sym e)
      (record { holds = f; some = λ image b x rest h. Visit.has_task h pre.state run.task refl lit; state = st; nodes = n; count = c; later = l })

  module _ (wanted : ℕ) (is-task : wanted ≡ run.task) where
    pub so_visited : (q : Run) → get_or work (wanted / 2) 0 ≡ wanted + 1 → q ≡ in_state run AGENDA → Visited work run work q
    so_visited q m e = visited work (in_state run AGENDA) q e (omega arith) refl refl refl (λ image b x rest h. Visit.want_so h pre.state wanted is-task lit m)

    pub refused_visited : (q : Run) → (get_or work (wanted / 2) 0 ≡ layout.no_mark → ⊥) → (get_or work (wanted / 2) 0 ≡ wanted + 1 → ⊥) → q ≡ in_state run FAILED → Visited work run work q
    refused_visited q m n e = visited work (in_state run FAILED) q e (omega arith) refl refl refl (λ image b x rest h. Visit.want_refused h pre.state wanted is-task lit m n)

    pub fails_visited : (q : Run) → get_or work (wanted / 2) 0 ≡ layout.no_mark → get_or work (layout.literals + wanted) 0 ≡ layout.fails → q ≡ in_state run FAILED → Visited work run work q
    fails_visited q m z e = visited work (in_state run FAILED) q e (omega arith) refl refl refl (λ image b x rest h. Visit.want_fails h pre.state wanted is-task lit m z)

module _ (work : List ℕ) (run : Run) (wanted number : ℕ) (pre : FreeLiteral work run wanted number) where
  pub put_markable : Markable work run wanted
  put_markable = let t = pre.tasked in Visit.want_markable t.holds t.state wanted pre.is pre.lit pre.free

  module _ (after : List ℕ) (run' : Run) (marked : Marked work run wanted after run') where
    moved_later : drop layout.end (marked_with work run wanted) ≡ drop layout.end work
    moved_later = let t = pre.tasked in Visit.later_same t.holds t.state wanted pre.is pre.lit pre.free

    in_area : (q : Run) → Visited work run (marked_with work run wanted) q → Visited work run after q
    in_area q x = subst (λ (l : List ℕ). Visited work run l q) (sym marked.area) x

    pub put_fits : number ≡ layout.joins_set → (wanted / 2 < limits.abducibles) × (run'.set + 2 ^ (wanted / 2) < bits64)
    put_fits z =
        let t = pre.tasked in
        let f = Visit.set_fits t.holds t.state wanted pre.is pre.lit pre.free (sym pre.number ∙ z) in
        (f.0, subst (λ (o : Run). o.set + 2 ^ (wanted / 2) < bits64) (sym marked.is) f.1)

    pub assumed_visited : (t q : Run) → number ≡ layout.joins_set → t ≡ adding run' (wanted / 2) → q ≡ in_state t AGENDA → Visited work run after q
    assumed_visited t q z i e =
        in_area q
        (visited work run pre.tasked pre.lit (marked_with work run wanted) (in_state (adding (raised run) (wanted / 2)) AGENDA) q (e ∙ ap (λ (o : Run). in_state o AGENDA) (i ∙ ap (λ (o : Run). adding o (wanted / 2)) marked.is)) (omega arith) refl refl moved_later
        (λ image b x rest h. Visit.put_assumed h pre.tasked.state wanted pre.is pre.lit pre.free (sym pre.number ∙ z)))

    pub plain_visited : (q : Run) → number ≡ layout.joins → q ≡ in_state run' AGENDA → Visited work run after q
    plain_visited q z e =
        in_area q
        (visited work run pre.tasked pre.lit (marked_with work run wanted) (in_state (raised run) AGENDA) q (e ∙ ap (λ (o : Run). in_state o AGENDA) marked.is) (omega arith) refl refl moved_later
        (λ image b x rest h. Visit.put_plain h pre.tasked.state wanted pre.is pre.lit pre.free (sym pre.number ∙ z)))

    pub put_layable : Layable after run'
    put_layable =
        let t = pre.tasked in
        subst₂ (λ (l : List ℕ) (o : Run). Layable l o) (sym marked.area) (sym marked.is)
        (Visit.want_layable t.holds t.state wanted pre.is pre.lit pre.free)

    pub denied_visited : (u : List ℕ) (l : ℕ) (q : Run) → (number ≡ layout.joins → ⊥) → wanted % 2 ≡ 1 → LaidDown after run' u l → q ≡ placing run' (record_agenda number l) → Visited work run u q
    denied_visited u l q n o d e =
        let t = pre.tasked in
        let d' : LaidDown (marked_with work run wanted) (raised run) u l = subst₂ (λ (m : List ℕ) (g : Run). LaidDown m g u l) marked.area marked.is d in
        visited work run pre.tasked pre.lit u (placing (raised run) (record_agenda (get_or work (layout.literals + wanted) 0) l)) q (e ∙ ap₂ (λ (g : Run) (m : ℕ). placing g (record_agenda m l)) marked.is pre.number) (omega arith) refl refl
        (Visit.denied_later t.holds t.state wanted pre.is pre.lit pre.free u l d')
        (λ image b x rest h. Visit.put_denied h pre.tasked.state wanted pre.is pre.lit pre.free u l o (λ z. n (pre.number ∙ z)) d')

    pub proved_visited : (q : Run) → (number ≡ layout.joins_set → ⊥) → (wanted % 2 ≡ 1 → ⊥) → q ≡ giving run' WAY number → Visited work run after q
    proved_visited q t o e =
        let even : wanted % 2 ≡ 0 = omega (arith, o) in
        in_area q
        (visited work run pre.tasked pre.lit (marked_with work run wanted) (giving (raised run) WAY (get_or work (layout.literals + wanted) 0)) q (e ∙ ap₂ (λ (g : Run) (m : ℕ). giving g WAY m) marked.is pre.number) (omega arith) refl refl moved_later
        (λ image b x rest h. Visit.put_proved h pre.tasked.state wanted pre.is pre.lit pre.free even (λ z. pre.some (pre.number ∙ z)) (λ z. t (pre.number ∙ z))))
