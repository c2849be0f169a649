-- Gathering::event_of: the entry as an event of this node, where the message that it delivers was sent.
use Rattle.std.proofs.Common.{None, subst}
use Rattle.q_desk.specs.declared.journal.Entry.{Entry}
use Rattle.q_gather.specs.Turns.{IsEventOf, IsJobFor}
use Rattle.q_gather.specs.Gathering.{Finds}
use Rattle.q_gather.proofs.gathering.Gathering.event_of.Goals as goal

pub returns-in_default-2 : goal.returns-in_default-2
returns-in_default-2 c =
    λ are ev is.
    let none : Finds (IsJobFor c.args.self.now.cluster.jobs c.args.node c.in-Post.query) None =
    subst (Finds (IsJobFor c.args.self.now.cluster.jobs c.args.node c.in-Post.query)) c.in_default-2.is (c.in_ok-job-in-Post.ensures {u = tt}) in
    let own = subst (λ (x : Entry). IsEventOf c.args.self.now.cluster c.args.node x ev) c.in-Post.is is in
    none own.0 own.1
