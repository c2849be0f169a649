-- call_founders: founds the nodes of a script, whose board this is, and makes the calls of its lines.
use Rattle.std.proofs.Common.{◌∙◌, ℕ, length, sym, ap}
use Rattle.q_nodes.proofs.Counts.{ids_many}
use Rattle.q_nodes.proofs.calls.call_founders.Goals as goal

pub found-requires-clause-many : goal.found-requires-clause-many
found-requires-clause-many g c = c.requires.many ∙ sym (ap (length {A = ℕ}) (c.as_slice.ensures.value ∙ c.in_ok-ids.ensures) ∙ ids_many c.args.script.now.nodes)

pub returns-clause-books : goal.returns-clause-books
returns-clause-books g c =
    c.in_ok-nodes.ensures ∙ c.in_ok-locks.ensures ∙ ap (length {A = ℕ}) (c.as_slice.ensures.value ∙ c.in_ok-ids.ensures) ∙ ids_many c.args.script.now.nodes
