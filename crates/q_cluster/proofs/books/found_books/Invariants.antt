use Rattle.std.proofs.Common.{◌≡◌, ◌<◌, true, drop}
use Rattle.std.specs.FinMap as fin
use Rattle.sc_node.specs.Nodes.{are_founders}
use Rattle.q_history.specs.Clusters.{books_with}
use Rattle.q_cluster.proofs.books.found_books.Given as goal

abbrev pub invariant-loop-id : goal.invariant-loop-id
invariant-loop-id l = record {
  books : books_with l.version l.config l.founders l.books (drop l.id-index l.founders) ≡ books_with l.version l.config l.founders fin.empty l.founders;
  rises : 0 < l.id-index → are_founders l.founders ≡ true;
}
