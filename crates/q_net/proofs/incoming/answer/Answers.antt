-- answer: a question for an answer, behind its kind.
use Rattle.std.proofs.Common.{[], ◌∷◌, refl}
use Rattle.std.proofs.KnownBytes.{Consumes-nil}
use Rattle.spelling.specs.Numbers.{number_bytes}
use Rattle.q_net.specs.Requests.{query_number}
use Rattle.q_net.proofs.Reading.{ended_at, got_none}
use Rattle.q_net.proofs.incoming.answer.Goals as goal

pub returns-in-None-clause-read : goal.returns-in-None-clause-read
returns-in-None-clause-read g c = λ version. ended_at version _ _ _ query_number (4 ∷ []) [] tt refl (Consumes-nil _)
    (got_none (number_bytes 8) 8 _ _ c.in_ok-query.field-0 c.in-None.is c.in_ok-query.ensures.read)
