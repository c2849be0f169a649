-- A query for worked values.
use Rattle.std.specs.Prelude.{ℕ}
use Rattle.q_session.specs.declared.query.Phase.{Phase}
use Rattle.q_session.specs.declared.query.Query.{Query}

-- of the first program, from 7, with a collect of this tag
abbrev pub query : ℕ → Phase → Query
query tag p = record { tag = tag; program = 0; start = 7; phase = p }
