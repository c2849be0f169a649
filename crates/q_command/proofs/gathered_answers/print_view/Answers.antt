-- print_view: prints which stores a view has, by their nodes.
use Rattle.std.proofs.Common.{◌≡◌, ◌++◌, List, ℕ, map, ap, ◌∙◌, flat_map, string_bytes}
use Rattle.std.proofs.lemmas.Map.Iter.{iter_end}
use Rattle.std.specs.FinMap as fin
use Rattle.sc_view.specs.declared.view.Stored.{Stored}
use Rattle.q_command.specs.GatheredLines.{store_text}
use Rattle.q_command.proofs.Viewing.{more_stores}
use Rattle.q_session.proofs.Records.{shown}
use Rattle.q_command.proofs.gathered_answers.print_view.Goals as goal

pub loop-node-preserved : goal.loop-node-preserved
loop-node-preserved c =
    more_stores c.loop-node.yielded (c.in-Some.node, c.in-Some.stored) (string_bytes c.args.lines.now) c.loop-node.invariant c.in_ok-print_store.ensures

pub returns : goal.returns
returns c =
    let end = iter_end shown c.records-node-items.result c.loop-node.yielded c.into_iter-node-iterator.result c.loop-node.node-iterator c.next.new.self
    c.next.result c.into_iter-node-iterator.ensures.into_iter_gives c.loop-node.yielded_by c.in-None.is c.next.ensures.steps in
    let whole : map shown c.loop-node.yielded ≡ fin.entries c.args.view.now = end.0 ∙ c.records-node-items.ensures.all in
    c.loop-node.invariant ∙ ap (λ (es : List (ℕ × Stored)). string_bytes c.args.lines.now ++ flat_map store_text es) whole
