-- begin: the book before any event of the node with this head, of the head's version.
use Rattle.std.proofs.Common.{rules}
use Rattle.q_replay.proofs.Calling.{unbegun}
use Rattle.q_replay.proofs.replayer.begin.Goals as goal

pub returns-in_err-book-in-Some : goal.returns-in_err-book-in-Some
returns-in_err-book-in-Some c =
    unbegun c.args.head.now c.in_err-book-in-Some.field-0.0 c.from_residual-in_err-book-in-Some.result c.from_residual-in_err-book-in-Some.ensures.1
    (λ loud. search (rules, loud))
