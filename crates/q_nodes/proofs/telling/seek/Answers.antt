-- seek: gathers the books, and looks up in their cluster what the calls came to.
use Rattle.q_nodes.proofs.telling.seek.Goals as goal

pub returns-in-Ok : goal.returns-in-Ok
returns-in-Ok c = c.look_up.ensures c.args.books.now c.in-Ok.ensures.gathers
