-- deliver: delivers the message of an entry.
use Rattle.q_replay.specs.declared.raw_entry.RawEntry.TheVariants as written
use Rattle.q_replay.proofs.Calling.{refused, delivered, undelivered}
use Rattle.q_replay.proofs.call.deliver.Goals as goal

pub returns-in_err-deliver : goal.returns-in_err-deliver
returns-in_err-deliver c =
    refused c.args.book.now c.deliver.new.self (written.Deliver c.args.message.now) c.in_err-deliver.field-0.0 c.from_residual.result c.from_residual.ensures.1
    (λ loud. undelivered c.one_longest.ensures c.args.book.now c.args.message.now c.requires _ (c.in_err-deliver.ensures.1 loud))

pub returns : goal.returns
returns c = delivered c.one_longest.ensures c.args.book.now c.args.message.now c.requires c.in_ok-deliver.field-0 c.deliver.new.self c.in_ok-deliver.ensures
