-- post: posts the result of the query's own job.
use Rattle.q_replay.specs.declared.raw_entry.RawEntry.TheVariants as written
use Rattle.q_replay.proofs.Calling.{refused, posted, unposted}
use Rattle.q_replay.proofs.call.post.Goals as goal

pub returns-in_err-post : goal.returns-in_err-post
returns-in_err-post c =
    let done = c.args.done.now in
    let event = written.Post done.job.query done.ran.acc done.ran.steps in
    refused c.args.book.now c.post.new.self event c.in_err-post.field-0.0 c.from_residual.result c.from_residual.ensures.1
    (λ loud. unposted c.one_longest.ensures c.args.book.now done.job done.ran c.requires.written c.requires.own _ c.in_err-post.ensures.1)

pub returns : goal.returns
returns c =
    let done = c.args.done.now in
    posted c.one_longest.ensures c.args.book.now done.job done.ran c.requires.written c.requires.own c.post.new.self c.requires.right c.in_ok-post.ensures
