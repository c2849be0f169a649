-- run_bytes: the same of the bytes of a file.
use Rattle.std.proofs.Common.{ℕ, List, inl, subst}
use Rattle.q_nodes.specs.Runs.{IsWrittenOf}
use Rattle.q_nodes.proofs.sockets.run_bytes.Goals as goal

pub returns-in-Ok-clause-written : goal.returns-in-Ok-clause-written
returns-in-Ok-clause-written g c =
    let before = g.W.Write.contents c.args.out.now.inner in
    let after = g.W.Write.contents c.run_over_sockets.new.out.inner in
    inl (subst (λ (source : List ℕ). IsWrittenOf source c.run_over_sockets.result before after) c.in-Ok.ensures.cases.0 c.run_over_sockets.ensures.written)
