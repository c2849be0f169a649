-- Kept::again: what goes again at this look, since datagrams are lost.
use Rattle.q_kept.proofs.Each.{goes_each}
use Rattle.q_kept.proofs.kept.Kept.again.Goals as goal

pub returns-clause-each : goal.returns-clause-each
returns-clause-each g c =
    let old = c.args.self.now in let b = old.held.book in
    goes_each b.node c.args.nodes.now b.version old.questions.items c.ask_again.result.items c.ask_again.ensures.due
