-- Facts::add_left: learns that the node has left.
use Rattle.std.proofs.Common.{sym, true≢false}
use Rattle.sc_members.proofs.FactsLemmas.{left_known}
use Rattle.sc_members.proofs.facts.Facts.add_left.Goals as goal

pub returns-in_err-insert-clause-known : goal.returns-in_err-insert-clause-known
returns-in_err-insert-clause-known c same = absurd (true≢false (sym (c.in_err-insert.ensures.known (left_known c.args.id _ _ c.self.view_is same))))
