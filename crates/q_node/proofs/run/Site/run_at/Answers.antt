-- Site::run_at: runs a node whose board this is, which begins or comes back, to its end.
use Rattle.std.proofs.Common.{◌∙◌}
use Rattle.q_node.proofs.Ready.{journal_ready, own_ready}
use Rattle.q_node.proofs.run.Site.run_at.Goals as goal

pub returns-in_default-clause-journal : goal.returns-in_default-clause-journal
returns-in_default-clause-journal g c = c.refuse.ensures.journal c.args.self.now.setup.now.id _

pub returns-in-Err-clause-journal : goal.returns-in-Err-clause-journal
returns-in-Err-clause-journal g c = c.refuse-in-Err.ensures.journal c.args.self.now.setup.now.id _

pub run_begun-requires-after_bounds : goal.run_begun-requires-after_bounds
run_begun-requires-after_bounds g c κs within =
    own_ready c.args.resumed c.resumption_of.result _ _ c.args.recorder _ c.resumption_of.ensures.first c.in-Ok-seat.ensures.resumed c.requires.recorded
    (λ i. (c.new.ensures.held i).book) c.new.ensures.recorder

pub returns-clause-journal : goal.returns-clause-journal
returns-clause-journal g c =
    journal_ready c.args.resumed c.resumption_of.result _ _ _ _ _ _ c.resumption_of.ensures.first
    ((λ i. (c.new.ensures.held i).book.id) ∙ c.in-Ok-seat.ensures.own) c.new.ensures.recorder c.run_begun.ensures.journal
