-- push_operations: appends what all open operations ask, by rising tags.
use Rattle.std.proofs.Common.{◌≡◌, ℕ, ◌++◌, map, arith, append-nil, sym, subst}
use Rattle.std.specs.List.{flat_map}
use Rattle.sc_node.specs.Nodes.{message_from}
use Rattle.q_held.specs.Resumed.{asked_under, numbers_below}
use Rattle.q_held.proofs.Resuming.{asks_more}
use Rattle.q_held.proofs.resumed.push_operations.Goals as goal

pub loop-tag-init : goal.loop-tag-init
loop-tag-init c = sym (append-nil c.args.asked.now.items)

pub loop-tag-preserved : goal.loop-tag-preserved
loop-tag-preserved c =
    let o = c.args in let l = c.loop-tag in
    asks_more (asked_under o.node.now) (message_from o.id) l.tag o.asked.now.items l.asked.items c.push_asked.new.asked.items l.invariant
    c.in_ok-push_asked.ensures

pub returns : goal.returns
returns c =
    let o = c.args in let l = c.loop-tag in
    let all : l.tag ≡ o.node.now.operations = omega arith in
    subst (λ (k : ℕ). l.asked.items ≡ o.asked.now.items ++ map (message_from o.id) (flat_map (asked_under o.node.now) (numbers_below k))) all
    l.invariant
