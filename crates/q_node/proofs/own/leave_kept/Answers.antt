-- leave_kept: leaves the cluster for good, and settles.
use Rattle.std.proofs.Common.{◌∙◌, Bool, ap}
use Rattle.std.specs.Prelude.{vec_items}
use Rattle.q_node.specs.Calls.{said_to_leave}
use Rattle.q_node.proofs.Settled.{settles_from, some_mapped}
use Rattle.q_node.proofs.own.leave_kept.Goals as goal

pub returns-clause-own : goal.returns-clause-own
returns-clause-own g c node first own =
    let old = c.args.kept.now in let h = c.leave-left.new.self in
    let grows = c.held_books_grow.ensures.left old.held.book h.book old.held.waiting.items h.waiting.items c.leave-left.result c.leave-left.ensures.left in
    c.settle_kept-letters.ensures.own node first (c.own_stays.ensures node first old.held.book h.book old.recorder grows own)

pub returns-clause-left : goal.returns-clause-left
returns-clause-left g c =
    let old = c.args.kept.now in let h = c.leave-left.new.self in let k = c.leave-left.ensures in let r = c.settle_kept-letters.new.kept.recorder in
    record {
      left = c.leave-left.result;
      says = c.said_to_leave-said.ensures
          ∙ ap (λ (b : Bool). said_to_leave c.leave-left.result b r) (c.is_some.ensures ∙ some_mapped vec_items c.settle_kept-letters.result);
      settled = record {
        book = h.book;
        waiting = h.waiting.items;
        lost = h.lost;
        happened = (k.left, k.lost);
        settled = settles_from c.settle_kept-letters.ensures.settled k.unsent k.asker;
      };
    }
