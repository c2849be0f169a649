-- take_turn: reads the next request, to a book of that version, and replies to it: whether requests go on.
use Rattle.q_net.proofs.Serving.{stops, loses}
use Rattle.q_net.proofs.server.take_turn.Goals as goal

pub returns-in_ok-write-in-Ended-clause-turn : goal.returns-in_ok-write-in-Ended-clause-turn
returns-in_ok-write-in-Ended-clause-turn g c =
    stops c.args.version _ _ _ _ c.args.book.now c.args.sent.now.items c.in_ok-read_next.field-0 c.in-Ended.stop c.number_of.result c.in-Ended.is
    c.in_ok-read_next.ensures.read c.number_of.ensures c.in_ok-write-in-Ended.ensures.written

pub returns-in_ok-write-in-Lost-clause-turn : goal.returns-in_ok-write-in-Lost-clause-turn
returns-in_ok-write-in-Lost-clause-turn g c = loses c.args.version _ _ _ _ c.args.book.now c.args.sent.now.items c.in_ok-read_next.field-0 c.in-Lost.is
    c.in_ok-read_next.ensures.read c.in_ok-write-in-Lost.ensures.written
