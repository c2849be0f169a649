-- What books tell that gather into one cluster.
use Rattle.std.specs.Prelude.{◌≡◌, ℕ, Bool, List, [], ◌++◌, codes, if◌then◌else◌}
use Rattle.q_book.specs.State.{BookState}
use Rattle.q_gather.specs.Gather.{GathersBooks}
use Rattle.q_gather.specs.declared.fault.GatherFault.{GatherFault}
use Rattle.q_gather.specs.declared.fault.GatherFault.TheVariants as gather
use Rattle.q_history.specs.Headline.{ClusterState}
use Rattle.reasons.specs.declared.Reason.TheVariants as reasons
use Rattle.q_told.specs.Printing.{TellsPairs, ended_pairs_of}
use Rattle.q_told.specs.declared.refusal.Refusal.{Refusal}
use Rattle.q_told.specs.declared.refusal.Refusal.TheVariants as refusal
use Rattle.q_command.specs.GatheredLines.{answers_of}
use Rattle.q_command.specs.Truth.{AnswersAreTrue}

-- The books gather into the cluster, where each answer that they record is true; and the text is what they tell: those
-- answers, the pairs of the cluster's operations where these are asked for, and that the journals are right.
pub record Tells (c : ClusterState) (books : List BookState) (pairs : Bool) (text : List ℕ) : Type 0 where
  pub gathers : GathersBooks books c
  pub are_true : AnswersAreTrue c books
  pub met : List ℕ
  pub tells_pairs : TellsPairs (if pairs then ended_pairs_of c.past.ops else []) met
  pub says : text ≡ answers_of books ++ (met ++ codes "journals ok\n")

-- the refusal by which it is told that books do not gather
abbrev pub of_gather : GatherFault → Refusal
of_gather (gather.Journal place f) = refusal.Journal f
of_gather gather.IdUsed = refusal.Cluster reasons.IdUsed
of_gather gather.BadFounders = refusal.Cluster reasons.BadFounders
of_gather gather.NeverSent = refusal.Cluster reasons.NeverSent
of_gather gather.OutOfMemory = refusal.OutOfMemory
