-- hear_kept: takes a message's bytes, and settles.
use Rattle.q_node.proofs.Settled.{settles_from}
use Rattle.q_node.proofs.own.hear_kept.Goals as goal

pub returns-clause-own : goal.returns-clause-own
returns-clause-own g c node first own =
    let old = c.args.kept.now in let hear = c.hear-heard in let h = hear.new.self in
    let grows = c.held_books_grow.ensures.heard c.args.bytes.now old.held.book h.book old.held.waiting.items h.waiting.items hear.result hear.ensures.heard in
    c.settle_kept.ensures.own node first (c.own_stays.ensures node first old.held.book h.book old.recorder grows own)

pub returns-clause-heard : goal.returns-clause-heard
returns-clause-heard g c =
    let old = c.args.kept.now in let h = c.hear-heard.new.self in let k = c.hear-heard.ensures in
    record {
      heard = c.hear-heard.result;
      ended = c.is_end.ensures;
      settled = record {
        book = h.book;
        waiting = h.waiting.items;
        lost = h.lost;
        happened = (k.heard, k.counted);
        settled = settles_from c.settle_kept.ensures.settled k.unsent k.asker;
      };
    }
