-- print_telling: prints what the lines of a script tell, and then the refusal of nodes that make no cluster.
use Rattle.std.proofs.Common.{List, ℕ, subst}
use Rattle.std.specs.Io.KnownBytes.{Appends}
use Rattle.q_nodes.proofs.Endings.{behind}
use Rattle.q_nodes.proofs.ending.print_telling.Goals as goal

pub returns-in-Some-clause-written : goal.returns-in-Some-clause-written
returns-in-Some-clause-written g c =
    let before = g.W.Write.contents c.args.out.now.inner in
    let between = g.W.Write.contents c.put.new.self.inner in
    let after = g.W.Write.contents c.print_refusal.new.out.inner in
    let told = subst (λ (bytes : List ℕ). Appends before between bytes) c.as_bytes.ensures.value c.in-Ok.ensures.written in
    behind c.print_refusal.result before between after c.in-Some.is c.requires told c.print_refusal.ensures.written
