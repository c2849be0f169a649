-- What is not done, what is not told, and what is behind.
use Rattle.std.proofs.Common.{ap}
use Rattle.q_kept.specs.Sample.{hand_out, leave}
use Rattle.q_kept.specs.State.{RecorderState}
use Rattle.q_node.proofs.Told.{not_one, undone}
use Rattle.q_node.proofs.Waits.{behind_by, told_by, untold_by, wait_on}
use Rattle.q_node.proofs.worked_own.worked.Goals as goal

pub returns-clause-undone : goal.returns-clause-undone
returns-clause-undone c = λ old new letters f refused l. undone old letters new f refused l

pub returns-clause-two_events : goal.returns-clause-two_events
returns-clause-two_events c = λ r s b is h. not_one b hand_out leave is h.1

pub returns-clause-failed : goal.returns-clause-failed
returns-clause-failed c = λ r s b h. ap (λ (x : RecorderState). x.broken) h.broken

pub returns-clause-behind : goal.returns-clause-behind
returns-clause-behind c = λ o waits written journal. behind_by o _ 1 _ waits written journal

pub returns-clause-nothing : goal.returns-clause-nothing
returns-clause-nothing c = λ o waits written journal. behind_by o _ 2 _ waits written journal

pub returns-clause-told : goal.returns-clause-told
returns-clause-told c = λ o sound written journal. told_by o _ 2 _ sound written journal

pub returns-clause-untold : goal.returns-clause-untold
returns-clause-untold c = λ o broken. untold_by o broken

pub returns-clause-all_wait : goal.returns-clause-all_wait
returns-clause-all_wait c = λ old new h. wait_on old new h
