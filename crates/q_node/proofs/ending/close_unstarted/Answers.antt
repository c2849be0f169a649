-- close_unstarted: prints the last line of a node whose threads or journal could not be begun.
use Rattle.std.proofs.Common.{Err}
use Rattle.q_node.proofs.Closing.{journal_ended, kept_beginning, not_refused, written_unstarted}
use Rattle.q_node.proofs.ending.close_unstarted.Goals as goal

pub returns-clause-written : goal.returns-clause-written
returns-clause-written g c = λ node greeting. written_unstarted node greeting _ _ _ _ c.print_end.ensures.written

pub returns-clause-journal : goal.returns-clause-journal
returns-clause-journal g c = λ node first given file kept.
    journal_ended node first given file _ _ (Err _) _ c.print_end.ensures.written (kept_beginning node first file _ kept)

pub returns-clause-begun : goal.returns-clause-begun
returns-clause-begun g c = not_refused _ _ (Err _) _ c.print_end.ensures.written
