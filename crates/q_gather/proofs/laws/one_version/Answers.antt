-- one_version: a law: books that agree have one version.
use Rattle.q_gather.proofs.Agreeing.{versions_one, versions_refused}
use Rattle.q_gather.proofs.laws.one_version.Goals as goal

pub returns : goal.returns
returns c = record { same = versions_one; refused = versions_refused }
