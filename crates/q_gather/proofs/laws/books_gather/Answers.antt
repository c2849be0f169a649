-- books_gather: a law: books of different nodes, whose answers are right and which agree on their heads, are
-- gathered in one cluster where their steps merge.
use Rattle.std.proofs.Common.{refl}
use Rattle.q_history.specs.Clusters.{start}
use Rattle.q_gather.proofs.BooksGather.{gathered}
use Rattle.q_gather.proofs.Turns.{step_goes}
use Rattle.q_gather.proofs.Beginning.{begins, gathers}
use Rattle.q_gather.proofs.laws.books_gather.Goals as goal

pub returns : goal.returns
returns c = record {
  begins = λ books version config founders lists distinct right agree traces. begins version config founders books lists distinct right agree traces;
  goes = λ books d lists k s rest u at can. step_goes u k s rest at can;
  over = gathered;
  gathers = λ books version config founders lists distinct right agree traces merges.
      gathers merges books (start version config founders) refl (begins version config founders books lists distinct right agree traces);
}
