-- deliver: the body of a `deliver` at the front of the bytes.
use Rattle.q_replay.specs.Reading.{IsNoBody}
use Rattle.q_replay.proofs.Exits.{passed}
use Rattle.q_replay.proofs.Bodies.{no_deliver, message_fault}
use Rattle.q_replay.proofs.body.deliver.Goals as goal

pub returns-in_err-message-clause-none : goal.returns-in_err-message-clause-none
returns-in_err-message-clause-none c =
    passed (IsNoBody c.args.version 5 c.args.body.now) c.from_residual.result c.from_residual.ensures.1
    (λ e told form. no_deliver c.args.version c.args.body.now
    (λ m is same. message_fault c.in_err-message.field-0.0 e told form (c.in_err-message.ensures.all m is same)))
