use Rattle.q_node.specs.Runs.{first_of}
use Rattle.q_node.proofs.run.Site.run_at.Given as goal

-- the node is that of its book, and the file held before what a node that begins or comes back is given
abbrev pub ghosts-run_begun : goal.ghosts-run_begun
ghosts-run_begun g a = record { id = a.kept.held.book.id; first = first_of a.front.resumption a.kept.recorder.file }
