-- run_file: the command `cluster`: runs the script in the file of this name so.
use Rattle.std.proofs.Common.{ℕ, List, inl, subst}
use Rattle.q_nodes.specs.Runs.{IsWrittenBytes}
use Rattle.q_nodes.proofs.sockets.run_file.Goals as goal

pub returns-clause-written : goal.returns-clause-written
returns-clause-written g c =
    let before = g.W.Write.contents c.args.out.now.inner in
    let after = g.W.Write.contents c.run_bytes-ending.new.out.inner in
    let Writes = λ (source : List ℕ). IsWrittenBytes source c.run_bytes-ending.result before after in
    inl (c.in-Ok.ensures.bytes, subst Writes c.as_slice.ensures.value c.run_bytes-ending.ensures.written)
