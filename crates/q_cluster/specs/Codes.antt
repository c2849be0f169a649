-- How a cluster is stored.
use Rattle.std.specs.Prelude.{false, List, refl}
use Rattle.std.specs.Coded.{Coded, code_by, coded×, coded_list, coded_ℕ}
use Rattle.std.specs.FinMap as fin
use Rattle.sc_msg.specs.declared.version.Version.{Version}
use Rattle.sc_msg.specs.contracts.version.Version as version
use Rattle.sc_world.specs.State.{LedgerState}
use Rattle.sc_world.specs.contracts.ledger.Ledger as ledger
use Rattle.q_book.specs.contracts.book.Book as book
use Rattle.q_session.specs.declared.job.Job.{Job}
use Rattle.q_session.specs.contracts.job.Job as job
use Rattle.q_history.specs.Headline.{BookMap, ClusterState}

-- as its fields, and its past as that of a ledger without room
abbrev pub cluster_code : Coded ClusterState
cluster_code =
    code_by (Version × (BookMap × (LedgerState × List Job)))
    (coded× version.the_row.coded (coded× (fin.code coded_ℕ book.the_row.coded) (coded× ledger.the_row.coded (coded_list job.the_row.coded))))
    (λ c. (c.version, (c.books, (record { past = c.past; room = false }, c.jobs))))
    (λ p. record { version = p.0; books = p.1.0; past = p.1.1.0.past; jobs = p.1.1.1 }) (λ _. refl)
