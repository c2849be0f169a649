-- read_next: the next request of an input to a book of that version, or how its requests end.
use Rattle.std.proofs.Common.{[], ◌∷◌}
use Rattle.q_net.proofs.Reading.{next_behind, got_kind}
use Rattle.q_net.proofs.incoming.read_next.Goals as goal

pub returns-in-1-clause-read : goal.returns-in-1-clause-read
returns-in-1-clause-read g c = next_behind c.args.version [] (1 ∷ []) _ _ _ c.register.result
    (got_kind 1 c.in-Some.kind _ _ c.in_ok-kind.field-0 c.in-Some.is c.in-1.is c.in_ok-kind.ensures.read) c.register.ensures.read

pub returns-in-2-clause-read : goal.returns-in-2-clause-read
returns-in-2-clause-read g c = next_behind c.args.version [] (2 ∷ []) _ _ _ c.ask.result
    (got_kind 2 c.in-Some.kind _ _ c.in_ok-kind.field-0 c.in-Some.is c.in-2.is c.in_ok-kind.ensures.read) (c.ask.ensures.read c.args.version)

pub returns-in-3-clause-read : goal.returns-in-3-clause-read
returns-in-3-clause-read g c = next_behind c.args.version [] (3 ∷ []) _ _ _ c.store.result
    (got_kind 3 c.in-Some.kind _ _ c.in_ok-kind.field-0 c.in-Some.is c.in-3.is c.in_ok-kind.ensures.read) (c.store.ensures.read c.args.version)

pub returns-in-4-clause-read : goal.returns-in-4-clause-read
returns-in-4-clause-read g c = next_behind c.args.version [] (4 ∷ []) _ _ _ c.answer.result
    (got_kind 4 c.in-Some.kind _ _ c.in_ok-kind.field-0 c.in-Some.is c.in-4.is c.in_ok-kind.ensures.read) (c.answer.ensures.read c.args.version)

pub returns-in-5-clause-read : goal.returns-in-5-clause-read
returns-in-5-clause-read g c = next_behind c.args.version [] (5 ∷ []) _ _ _ c.store_of.result
    (got_kind 5 c.in-Some.kind _ _ c.in_ok-kind.field-0 c.in-Some.is c.in-5.is c.in_ok-kind.ensures.read) (c.store_of.ensures.read c.args.version)
