-- replies_grow: a law: a book grows by each request.
use Rattle.q_node.proofs.Replied.{replies_grow}
use Rattle.q_node.proofs.own.replies_grow.Goals as goal

pub returns : goal.returns
returns c b d r said outs h = replies_grow c.books_grow.ensures.same c.books_grow.ensures.call b d r said outs h
