-- answer_kept: does what a request asks, and settles.
use Rattle.std.proofs.Common.{refl}
use Rattle.q_node.proofs.own.answer_kept.Goals as goal

pub returns-clause-own : goal.returns-clause-own
returns-clause-own g c node first own =
    let old = c.args.kept.now in let b = c.reply-said.new.book in let x = c.reply-said.ensures in
    let grows = c.replies_grow.ensures old.held.book b c.args.request.now c.reply-said.result x.0 x.1 in
    c.settle_kept.ensures.own node first (c.own_stays.ensures node first old.held.book b old.recorder grows own)

pub returns-clause-replied : goal.returns-clause-replied
returns-clause-replied g c =
    let x = c.reply-said.ensures in
    record {
      book = c.reply-said.new.book;
      waiting = c.reply-said.new.sent.items;
      lost = c.args.kept.now.held.lost;
      happened = (x.0, x.1, x.2, refl);
      settled = c.settle_kept.ensures.settled;
    }
