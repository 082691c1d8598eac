-- A choice by a test.
-- Assumes nothing.
use Rattle.std.specs.Prelude.{Bool, true, false}

-- the one where the test holds, else the other
abbrev pub choose {ℓ} : {A : Type ℓ} → Bool → A → A → A
choose true a b = a
choose false a b = b
