-- A round over the clauses, one at a time.
-- Assumes nothing.
use Rattle.std.specs.Prelude.{ℕ, ◌≡◌, Bool, List, [], ◌∷◌}
use Rattle.std.proofs.Common.{sym, ap}
use Rattle.std.proofs.Math.Path.{fun_ext}
use Rattle.image.specs.paper.Book.{Clause}
use Rattle.depends.specs.Spreading.{follow, spread}

-- g has the marks behind the first clause
pub spread_next : (c : Clause) (cs : List Clause) (p : ℕ) (f g : ℕ → Bool) → ((q : ℕ) → g q ≡ follow p c f q) → spread (c ∷ cs) p f ≡ spread cs p g
unfolding spread
spread_next c cs p f g e = ap (spread cs p) (sym (fun_ext e))

pub spread_over : (cs : List Clause) (p : ℕ) (f : ℕ → Bool) → cs ≡ [] → f ≡ spread cs p f
unfolding spread
spread_over cs p f e = ap (λ (l : List Clause). spread l p f) (sym e)
