-- OpsByTag::find: the operation of this node with this tag, among these records.
use Rattle.std.proofs.Common.{◌∙◌, refl, sym, ap}
use Rattle.indexmap.specs.IndexMap.{get}
use Rattle.sc_world.specs.declared.op.Op.{Op}
use Rattle.std.proofs.lemmas.Option.{slice_get_past, slice_get_read}
use Rattle.sc_world.proofs.Runs.{among_get}
use Rattle.q_nodes.proofs.Filing.{same_key, is_that, not_filed, past_all}
use Rattle.q_nodes.proofs.ops_by_tag.OpsByTag.find.Goals.{else-op-node-via-then-op-node+else-op-tag, else-op-node-via-else-op-node}
use Rattle.q_nodes.proofs.ops_by_tag.OpsByTag.find.Goals as goal

pub returns-in_default : goal.returns-in_default
returns-in_default c = not_filed c.args.ops.now (get same_key c.args.self.now.by_tag) c.args.node c.args.tag c.requires c.in_default.ensures.value

pub returns-in_default-get : goal.returns-in_default-get
returns-in_default-get c =
    past_all c.args.ops.now (get same_key c.args.self.now.by_tag) c.args.node c.args.tag c.requires c.in-Some.ensures.value
    (slice_get_past c.args.ops.now c.in-Some.place.now c.in_default-get.ensures.lookup.3)

pub returns-then-op-tag : goal.returns-then-op-tag
returns-then-op-tag c =
    let read = c.in-Some-get.ensures.lookup in
    let at = slice_get_read c.args.ops.now _ c.in-Some.place.now c.in-Some-get.op.now refl read.3.0 read.1 in
    let only = is_that c.args.ops.now (get same_key c.args.self.now.by_tag) c.args.node c.args.tag c.requires c.in-Some.ensures.value at in
    let among = among_get c.args.ops.now c.in-Some.place.now c.in-Some-get.op.now at in
    record { among = among; by = c.if-op-node.true; tagged = c.if-op-tag.true; only = only }

pub returns-else-op-node : goal.returns-else-op-node
returns-else-op-node c = λ o among by tagged.
    let read = c.in-Some-get.ensures.lookup in
    let at = slice_get_read c.args.ops.now _ c.in-Some.place.now c.in-Some-get.op.now refl read.3.0 read.1 in
    let only = is_that c.args.ops.now (get same_key c.args.self.now.by_tag) c.args.node c.args.tag c.requires c.in-Some.ensures.value at in
    let same = only o among by tagged in
    elim c.else-op-node.branch [
      | else-op-node-via-then-op-node+else-op-tag w ↦ w.if-op-tag.false (ap (λ (x : Op). x.tag) (sym same) ∙ tagged)
      | else-op-node-via-else-op-node w ↦ w.if-op-node.false (ap (λ (x : Op). x.node) (sym same) ∙ by)
    ]
