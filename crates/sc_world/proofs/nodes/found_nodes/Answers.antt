-- found_nodes: the founders, each of whom has joined and knows all.
use Rattle.std.proofs.Common.{◌≡◌, ◌∙◌, sym, ap, subst, Result, Err}
use Rattle.std.proofs.lemmas.Result.{err_from_is_err_and}
use Rattle.std.specs.Ordering.{nat_cmp}
use Rattle.std.specs.FinMap as fin
use Rattle.sc_node.specs.State.{NodeState}
use Rattle.forms.specs.Calls.{Gives}
use Rattle.reasons.specs.declared.Reason.{Reason}
use Rattle.reasons.specs.declared.Reason.TheVariants.{OutOfMemory as memory}
use Rattle.sc_world.specs.Worlds.{founded_nodes}
use Rattle.sc_world.proofs.Acting.{has_at, found_refused}
use Rattle.sc_world.proofs.nodes.found_nodes.Goals as goal

pub returns-in_err-node : goal.returns-in_err-node
returns-in_err-node c =
    let k = err_from_is_err_and c.from_residual.result c.from_residual.ensures.1 in
    let e : k.0 ≡ c.in_err-node.field-0.0 = k.2 in
    subst (λ (r : Result (fin.FinMap nat_cmp NodeState) Reason). Gives memory (founded_nodes c.args.config c.args.founders.now) r)
    (sym (k.1 ∙ ap (λ (x : Reason). let r : Result (fin.FinMap nat_cmp NodeState) Reason = Err x in r) e))
    (found_refused c.args.config c.args.founders.now _ c.in_err-node.field-0.0
    (has_at c.args.founders.now c.loop-id.id-index 0 c.loop-id-test.true) c.in_err-node.ensures)
