-- The books of founders.
use Rattle.std.proofs.Common.{◌≡◌, ℕ, Bool, true, cond, List, [], refl, sym, ap, subst, ◌∙◌, Result, Ok, Err}
use Rattle.std.specs.FinMap as fin
use Rattle.sc_members.specs.Members.{Config}
use Rattle.sc_msg.specs.declared.version.Version.{Version}
use Rattle.sc_node.specs.Nodes.{are_founders}
use Rattle.sc_world.specs.State.{Past}
use Rattle.sc_world.specs.Ledgers.{first}
use Rattle.q_session.specs.declared.job.Job.{Job}
use Rattle.reasons.specs.declared.Reason.{Reason}
use Rattle.reasons.specs.declared.Reason.TheVariants as reasons
use Rattle.q_history.specs.Headline.{BookMap, ClusterState}
use Rattle.q_history.specs.Clusters.{books_with, start, started}
use Rattle.q_history.specs.Calls.{IsHistory}
use Rattle.q_cluster.specs.Acts.{cluster_of, IsCluster}

module _ (version : Version) (c : Config) (ids : List ℕ) where
  starts : are_founders ids ≡ true → started version c ids ≡ Ok (start version c ids)
  starts are = ap (λ (b : Bool). let r : Result ClusterState Reason = cond b (Ok (start version c ids)) (Err reasons.BadFounders) in r) are

  module _ {books : BookMap} {past : Past} {jobs : List Job} (made : (are_founders ids ≡ true) × (books ≡ books_with version c ids fin.empty ids))
      (is : past ≡ first c ids) (none : jobs ≡ []) where
    same_start : start version c ids ≡ cluster_of version books past jobs
    same_start = λ i. cluster_of version (sym made.1 i) (sym is i) (sym none i)

    pub new_cluster : IsCluster version books past jobs
    new_cluster = subst IsHistory same_start ([], refl, starts made.0)

    pub new_says : started version c ids ≡ Ok (cluster_of version books past jobs)
    new_says = starts made.0 ∙ (λ i. Ok (same_start i))
