-- The kinds of records: a clause's first part ends with a `.`, and a constraint's with a `--->`.
-- Assumes nothing.
use Rattle.std.specs.Prelude.{ℕ}
use Rattle.spelling.specs.Codes.{dot_code, arrow_code}
use Rattle.writer.specs.declared.statements.Kind.{Kind}
use Rattle.writer.specs.declared.statements.Kind.TheVariants.{Clause, Constraint}

abbrev pub first_end : Kind → ℕ
first_end Clause = dot_code
first_end Constraint = arrow_code
