-- gathered_books_merge: a law: the books of a cluster may be gathered, where each is there once.
use Rattle.q_gather.proofs.Merged.{gathered_may}
use Rattle.q_gather.proofs.beginnings.gathered_books_merge.Goals as goal

pub returns : goal.returns
returns c = record {
  may = gathered_may;
  gathers = λ books version config founders m.
      c.books_gather.ensures.gathers books version config founders m.lists m.distinct m.right m.agree m.traces m.merges;
}
