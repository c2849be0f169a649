-- What the parts of a cluster are, and what they do at an event.
use Rattle.std.specs.Prelude.{◌≡◌, ℕ, List, Option, Some, slice_get}
use Rattle.std.specs.FinMap as fin
use Rattle.sc_msg.specs.declared.version.Version.{Version}
use Rattle.sc_world.specs.State.{Past}
use Rattle.q_book.specs.State.{BookState}
use Rattle.q_session.specs.declared.job.Job.{Job}
use Rattle.q_history.specs.Headline.{BookMap, ClusterState}
use Rattle.q_history.specs.Clusters.{Said, live_at}
use Rattle.q_history.specs.Calls.{IsHistory}

-- a cluster by its parts
abbrev pub cluster_of : Version → BookMap → Past → List Job → ClusterState
cluster_of version books past jobs = record { version = version; books = books; past = past; jobs = jobs }

-- what is true of the parts of every cluster
abbrev pub IsCluster : Version → BookMap → Past → List Job → Type 0
IsCluster version books past jobs = IsHistory (cluster_of version books past jobs)

-- what a book makes of an event
abbrev pub Doing : Type 0
Doing = BookState → Said

-- a node that is there, with its book
pub record IsThere (c : ClusterState) (id : ℕ) : Type 0 where
  pub book : BookState
  pub live : live_at c id ≡ Some book

-- the job has that number, and its node is there
pub record MayRun (c : ClusterState) (number : ℕ) (j : Job) : Type 0 where
  pub job : slice_get c.jobs number ≡ Some j
  pub there : IsThere c j.node

-- the book of a node that was ever there
abbrev pub book_at : ClusterState → ℕ → Option BookState
book_at c id = fin.get c.books id
