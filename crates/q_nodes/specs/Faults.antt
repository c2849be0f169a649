-- Why nodes are not run, or a line of their script is refused.
use Rattle.std.specs.Prelude.{ℕ, List, ◌++◌, codes}
use Rattle.reasons.specs.Table as table
use Rattle.reasons.specs.declared.Reason.{Reason}
use Rattle.reasons.specs.declared.Reason.TheVariants as reasons
use Rattle.q_gather.specs.declared.fault.GatherFault.{GatherFault}
use Rattle.q_gather.specs.declared.fault.GatherFault.TheVariants as gather
use Rattle.q_told.specs.Refusal as refusal_text
use Rattle.q_told.specs.declared.refusal.Refusal.TheVariants as refusal
use Rattle.q_told.specs.declared.refusal.RefusalPlace.{RefusalPlace}
use Rattle.q_told.specs.declared.refusal.RefusalPlace.TheVariants.{Untold}
use Rattle.q_nodes.specs.declared.fault.ClusterRunFault.{ClusterRunFault}
use Rattle.q_nodes.specs.declared.fault.ClusterRunFault.TheVariants.{BadCount, TransportFailed, Script}

-- what nodes and books refuse
abbrev pub of_fault : Reason → ClusterRunFault
of_fault f = Script (refusal.Cluster f)

-- 81: there is no such node
abbrev pub no_such_node : ClusterRunFault
no_such_node = of_fault reasons.NoSuchNode

-- 49: there are no founders
abbrev pub bad_founders : ClusterRunFault
bad_founders = of_fault reasons.BadFounders

-- memory was refused
abbrev pub memory : ClusterRunFault
memory = Script refusal.OutOfMemory

-- why journals do not gather
abbrev pub of_gather : GatherFault → ClusterRunFault
of_gather (gather.Journal place f) = Script (refusal.Journal f)
of_gather gather.IdUsed = of_fault reasons.IdUsed
of_gather gather.BadFounders = bad_founders
of_gather gather.NeverSent = of_fault reasons.NeverSent
of_gather gather.OutOfMemory = memory

-- the reason by which it is told
abbrev pub reason : ClusterRunFault → Reason
reason BadCount = reasons.BadCount
reason TransportFailed = reasons.TransportFailed
reason (Script r) = refusal_text.reason r

-- where it arose, as its line tells it
abbrev pub place : ClusterRunFault → RefusalPlace
place (Script r) = refusal_text.place r
place f = Untold

-- the line that is printed, without the line feed
abbrev pub text : ClusterRunFault → List ℕ
text BadCount = codes "refused " ++ table.text reasons.BadCount
text TransportFailed = codes "refused " ++ table.text reasons.TransportFailed
text (Script r) = refusal_text.text r
