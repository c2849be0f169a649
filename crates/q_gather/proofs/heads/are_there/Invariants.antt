use Rattle.q_gather.specs.Gathered.{HasBook}
use Rattle.q_gather.proofs.Finding.{Below}
use Rattle.q_gather.proofs.heads.are_there.Given as goal

abbrev pub invariant-loop-id : goal.invariant-loop-id
invariant-loop-id l = Below (HasBook l.books) l.founders l.id-index
