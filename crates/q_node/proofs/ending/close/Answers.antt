-- close: prints the last line of a run whose conversation ended so, and whose journal was written so.
use Rattle.std.proofs.Common.{inl, ap, ◌∙◌}
use Rattle.q_node.specs.Runs.{failures_after}
use Rattle.q_node.specs.Talks.{talk_count}
use Rattle.q_node.proofs.Closing.{journal_ended, kept_beginning, not_refused, unwritten_begun, written_ended}
use Rattle.q_node.proofs.ending.close.Goals as goal

pub returns-in-Ended-clause-written : goal.returns-in-Ended-clause-written
returns-in-Ended-clause-written g c = λ node greeting before h.
    written_ended node greeting before _ _ _ _ (rw c.in-Ended.is at h) c.print_end.ensures.written

pub returns-in-Ended-clause-journal : goal.returns-in-Ended-clause-journal
returns-in-Ended-clause-journal g c = λ node first given file kept. journal_ended node first given file _ _ _ _ c.print_end.ensures.written kept

pub returns-in-Ended-clause-begun : goal.returns-in-Ended-clause-begun
returns-in-Ended-clause-begun g c = not_refused _ _ c.args.events _ c.print_end.ensures.written

pub returns-in-Ended-clause-counted : goal.returns-in-Ended-clause-counted
returns-in-Ended-clause-counted g c = λ n is. c.print_end.ensures.counted ∙ ap (failures_after c.print_end.result) (is ∙ ap (λ t. talk_count t n) c.in-Ended.is)

pub returns-in-Unstarted-clause-counted : goal.returns-in-Unstarted-clause-counted
returns-in-Unstarted-clause-counted g c = λ n is.
    c.close_unstarted.ensures.counted ∙ ap (failures_after c.close_unstarted.result) (is ∙ ap (λ t. talk_count t n) c.in-Unstarted.is)

pub returns-in-Unwritten-clause-journal : goal.returns-in-Unwritten-clause-journal
returns-in-Unwritten-clause-journal g c = λ node first given file kept. inl (kept_beginning node first file _ kept)

pub returns-in-Unwritten-clause-begun : goal.returns-in-Unwritten-clause-begun
returns-in-Unwritten-clause-begun g c = unwritten_begun
