-- What `?` hands on is the fault that it met.
-- Assumes nothing.
use Rattle.std.specs.Prelude.{ℕ, ◌≡◌, Result, Ok, Err, IsErrAnd, MatchResult}
use Rattle.std.proofs.Common.{sym, ap, ◌∙◌, subst}
use Rattle.image.specs.paper.Refusals.{number_of}
use Rattle.image.specs.paper.Walk.{Step, fault}
use Rattle.image.specs.declared.refusals.Fault.{Fault}
use Rattle.faults.specs.Taking.{taken, passed}

-- a fault as a step
abbrev pub fault_of : {A : Type 0} → Fault → Step A
fault_of e = fault (number_of e.refusal) e.place

pub taken_err : {A : Type 0} (r : Result (A × ℕ) Fault) (e : Fault) {st : Step A} → IsErrAnd r (λ d. d ≡ e) → st ≡ fault_of e → taken r ≡ st
taken_err (Ok x) e h k = absurd h
taken_err (Err d) e h k = ap fault_of h ∙ sym k

pub passed_err : (r : Result ℕ Fault) (e : Fault) {st : Step ℕ} → IsErrAnd r (λ d. d ≡ e) → st ≡ fault_of e → passed r ≡ st
passed_err (Ok x) e h k = absurd h
passed_err (Err d) e h k = ap fault_of h ∙ sym k

pub match_err : {A : Type 0} (P : A → Type 0) (Q : Fault → Type 0) (r : Result A Fault) (e : Fault) → IsErrAnd r (λ d. d ≡ e) → Q e → MatchResult r P Q
match_err P Q (Ok x) e h q = absurd h
match_err P Q (Err d) e h q = subst Q (sym h) q

pub err_is : {A : Type 0} (r : Result A Fault) (e : Fault) → IsErrAnd r (λ d. d ≡ e) → r ≡ Err e
err_is (Ok x) e h = absurd h
err_is (Err d) e h = ap Err h
