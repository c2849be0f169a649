-- read_nodes: the nodes of these lines, of which the first is line 2 of a file.
use Rattle.std.proofs.Common.{ℕ, List, map, Bor, sym, ◌∙◌, subst, arith}
use Rattle.std.proofs.lemmas.List.{map_push}
use Rattle.std.proofs.lemmas.Iterator.Consumers.{YieldsList-end}
use Rattle.q_script.specs.Lines.{parts_of}
use Rattle.q_script.proofs.Lines.{road_of, turn_of}
use Rattle.q_script.specs.File.{AreNodes}
use Rattle.q_script.proofs.Lists.{IsFaultyBehind, one_more, first_faulty, all_read}
use Rattle.q_script.proofs.file.read_nodes.Goals as goal

pub returns-in_default-clause-fault : goal.returns-in_default-clause-fault
returns-in_default-clause-fault c =
    let s = c.split-part-items in
    let road = road_of _ s.result c.args.text.now c.into_iter-part-iterator.ensures.into_iter_gives s.ensures.text s.ensures.has_more s.ensures.pattern in
    let t = turn_of road c.loop-part.yielded _ c.loop-part.yielded_by _ _ c.in-Some.part c.in-Some.is c.next.ensures.steps in
    first_faulty (parts_of c.args.text.now) (map (λ (x : Bor (List ℕ)). x.now) c.loop-part.yielded) c.loop-part.nodes.items c.in-Some.part.now _
    c.len-in_default.result t.0 t.1 t.2 c.loop-part.invariant (omega (arith, c.len-in_default.ensures, c.loop-part.nodes.ok.0))
    (subst (λ k. IsFaultyBehind k c.in-Some.part.now) (c.len.ensures ∙ sym c.len-in_default.ensures) c.in_default.ensures)

pub loop-part-preserved : goal.loop-part-preserved
loop-part-preserved c =
    let e = map_push (λ (x : Bor (List ℕ)). x.now) c.loop-part.yielded c.in-Some.part in
    let node = c.in-Some-node_behind in
    subst (λ u. AreNodes u c.push.new.self.items) (sym e) (subst (AreNodes _) (sym c.in_ok-push.ensures.items)
    (one_more _ c.in-Some.part.now c.loop-part.nodes.items node.node c.loop-part.invariant node.ensures.0
    (omega (arith, c.len.ensures, c.loop-part.nodes.ok.0, node.ensures.1))))

pub returns-clause-read : goal.returns-clause-read
returns-clause-read c =
    let s = c.split-part-items in
    let road = road_of _ s.result c.args.text.now c.into_iter-part-iterator.ensures.into_iter_gives s.ensures.text s.ensures.has_more s.ensures.pattern in
    let t = YieldsList-end road c.loop-part.yielded _ c.loop-part.yielded_by _ _ c.in-None.is c.next.ensures.steps in
    all_read (parts_of c.args.text.now) _ c.loop-part.nodes.items t.0 c.loop-part.invariant
