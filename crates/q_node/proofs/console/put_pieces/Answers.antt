-- put_pieces: writes the line of a status, piece by piece.
use Rattle.q_node.proofs.console.put_pieces.Goals as goal

pub returns-clause-written : goal.returns-clause-written
returns-clause-written g c = rw (← c.truth.ensures) c.put_all.ensures.written
