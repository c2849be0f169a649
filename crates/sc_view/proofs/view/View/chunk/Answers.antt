-- View::chunk: the entries of chunk number k of `chunks`, and None past the last chunk.
use Rattle.sc_view.proofs.view.View.chunk.Goals as goal

pub returns : goal.returns
returns c = (c.chunks.result, c.chunks.ensures, c.get.ensures)
