-- ask: a query, behind its kind.
use Rattle.std.proofs.Common.{[], ◌∷◌, ◌++◌, refl, rules}
use Rattle.spelling.specs.Numbers.{number_bytes}
use Rattle.std.proofs.KnownBytes.{Consumes-nil, Consumes-trans}
use Rattle.q_net.specs.Requests.{program_number, start_value}
use Rattle.q_net.proofs.Reading.{ended_at, got_none, got_some, piece_then_failed}
use Rattle.q_net.proofs.incoming.ask.Goals as goal

pub returns-in_default-clause-read : goal.returns-in_default-clause-read
returns-in_default-clause-read g c = λ version. ended_at version _ _ _ program_number (2 ∷ []) [] tt refl (Consumes-nil _)
    (got_none (number_bytes 4) 4 _ _ c.in_ok-program.field-0 c.in_default.is c.in_ok-program.ensures.read)

pub returns-in_err-start-clause-read : goal.returns-in_err-start-clause-read
returns-in_err-start-clause-read g c = λ version.
    piece_then_failed _ (number_bytes 4) 4 version (2 ∷ []) _ _ _ c.from_residual-in_err-start.result
    c.from_residual-in_err-start.ensures.1 c.in-Some.is c.in_ok-program.ensures.read c.in_err-start.ensures.read

pub returns-in_default-2-clause-read : goal.returns-in_default-2-clause-read
returns-in_default-2-clause-read g c = λ version.
    let first = got_some (number_bytes 4) 4 _ _ c.in_ok-program.field-0 c.in-Some.program c.in-Some.is c.in_ok-program.ensures.read in
    ended_at version _ _ _ (start_value c.in-Some.program) (2 ∷ []) (number_bytes 4 c.in-Some.program) tt refl first
    (got_none (number_bytes 8) 8 _ _ c.in_ok-start.field-0 c.in_default-2.is c.in_ok-start.ensures.read)

pub returns-clause-read : goal.returns-clause-read
returns-clause-read g c = λ version.
    let first = got_some (number_bytes 4) 4 _ _ c.in_ok-program.field-0 c.in-Some.program c.in-Some.is c.in_ok-program.ensures.read in
    let second = got_some (number_bytes 8) 8 _ _ c.in_ok-start.field-0 c.in-Some-2.start c.in-Some-2.is c.in_ok-start.ensures.read in
    (number_bytes 4 c.in-Some.program ++ number_bytes 8 c.in-Some-2.start, Consumes-trans _ _ _ _ _ first second, ((search rules, search rules), refl), tt)
