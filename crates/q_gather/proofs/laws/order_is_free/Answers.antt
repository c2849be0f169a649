-- order_is_free: a law: whether lists of steps merge does not depend on which step goes first.
use Rattle.q_gather.proofs.Merging.{merges_next, merges_stuck}
use Rattle.q_gather.proofs.laws.order_is_free.Goals as goal

pub returns : goal.returns
returns c = record {
  next = λ given lists k s rest at can merges. merges_next merges k s rest at can;
  stuck = λ given lists none merges. merges_stuck merges none;
}
