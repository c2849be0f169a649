-- Node::on_own_enter_echo: the echo is for this node, which has not joined.
use Rattle.std.proofs.Common.{◌≡◌, ◌<◌, true, Err, subst, sym, ap}
use Rattle.std.specs.FinMap as fin
use Rattle.forms.proofs.Calls.{no_refusal}
use Rattle.sc_view.specs.Views.{most_entries, merge}
use Rattle.sc_members.specs.Members.{is_overfull, union_facts}
use Rattle.sc_msg.specs.declared.message.Body.TheVariants.{EnterEcho}
use Rattle.sc_node.specs.State.{NodeState}
use Rattle.sc_node.specs.Nodes.{message_from, delivered}
use Rattle.sc_node.proofs.Joining.{too_many, refused}
use Rattle.sc_node.proofs.node.Node.on_own_enter_echo.Goals as goal

pub returns-in_err-heard : goal.returns-in_err-heard
returns-in_err-heard c =
    let n = c.args.self.now in
    let echo = c.args.echo.now in
    refused (delivered n (message_from c.args.from (EnterEcho echo))) n c.in_err-heard.field-0.0
    c.from_residual-in_err-heard.result c.from_residual-in_err-heard.ensures.1
    (λ full. too_many n c.args.from echo c.requires.here
    (λ more. no_refusal _ _ (sym (c.in_ok-learned.ensures.full.1
    (subst (λ (m : NodeState). most_entries < fin.len (merge m.view echo.view)) (sym c.self.view_is) more))))
    (subst (λ (m : NodeState). is_overfull (union_facts m.facts echo.facts) ≡ true) c.self.view_is (c.in_err-heard.ensures.full.0 (ap Err full))))
