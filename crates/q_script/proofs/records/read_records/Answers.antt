-- read_records: the view of the records that a text lists.
use Rattle.std.proofs.Common.{rules, ◌≡◌, ℕ, ◌+◌, List, [], ◌∷◌, ◌++◌, length, Some, Bor, ap, sym, ◌∙◌, subst, arith, refl}
use Rattle.std.specs.FinMap as fin
use Rattle.std.proofs.lemmas.List.{map_push}
use Rattle.std.proofs.lemmas.Iterator.Consumers.{YieldsList-end}
use Rattle.q_script.specs.declared.records.RecordFault.{RecordFault}
use Rattle.q_script.specs.declared.records.RecordFault.TheVariants.{Full}
use Rattle.q_script.specs.Records.{HasFault, IsFaultAt, IsReading, record_lines}
use Rattle.q_script.proofs.Learning.{IsWithin, within_empty, within_learned}
use Rattle.q_script.proofs.Faults.{Read, not_empty, lines_there, fault_at, full_fault, read_more}
use Rattle.q_script.proofs.Lines.{road_of, turn_of}
use Rattle.q_script.proofs.records.read_records.Goals as goal
use Rattle.q_script.proofs.records.read_records.Goals.{In-Some}

pub loop-text-init : goal.loop-text-init
loop-text-init c = ([], record { reading = record { spelled = tt; good = tt }; learnt = c.new-view.ensures; ends = refl })

pub loop-text-preserved : goal.loop-text-preserved
loop-text-preserved c =
    let k = c.loop-text.invariant in
    let e = map_push (λ (x : Bor (List ℕ)). x.now) c.loop-text.yielded c.in-Some.text in
    let h = c.in-Ok.ensures in (
      k.0 ++ (h.0 ∷ []),
      subst (λ u. Read c.args.lengths u (Some c.in-Ok.entry.0) c.put.new.self (k.0 ++ (h.0 ∷ []))) (sym e)
          (read_more c.in-Some.text.now c.in-Ok.entry k.1 h c.in-Ok-put.ensures.ok),
    )

-- the line that comes now has this fault
fault_here : (c : In-Some) (number : ℕ) (fault : RecordFault) → number ≡ fin.len c.loop-text.view
    → HasFault c.args.lengths c.loop-text.last (length c.loop-text.invariant.0) c.in-Some.text.now fault
    → IsFaultAt c.args.lengths (record_lines c.args.source.now) (number + 1) fault
fault_here c number fault is has =
    let s = c.split-text-items in
    let body = c.without_last_feed.result.now in
    let road = road_of _ s.result body c.into_iter-text-iterator.ensures.into_iter_gives s.ensures.text s.ensures.has_more s.ensures.pattern in
    let t = turn_of road c.loop-text.yielded _ c.loop-text.yielded_by _ _ c.in-Some.text c.in-Some.is c.next.ensures.steps in
    let some = not_empty (length c.args.source.now) c.is_empty.result c.is_empty.ensures c.if-is_empty.false in
    rw (lines_there c.args.source.now body some c.without_last_feed.ensures)
    (fault_at (length c.loop-text.yielded) fault t.0 t.1 t.2 c.loop-text.invariant.1 is has)

pub returns-in-Err-clause-fault : goal.returns-in-Err-clause-fault
returns-in-Err-clause-fault c =
    fault_here (goal.at.returns-in-Err-clause-fault c).In-Some c.len.result c.in-Err.fault c.len.ensures.count
    (c.in-Err.ensures (length c.loop-text.invariant.0))

pub returns-in-Err-Full-clause-fault : goal.returns-in-Err-Full-clause-fault
returns-in-Err-Full-clause-fault c =
    let k = c.loop-text.invariant in
    let same = ap fin.len c.in-Err-Full.ensures.err in
    let full = full_fault c.args.lengths _ c.in-Some.text.now c.loop-text.last c.loop-text.view k.0 c.in-Ok.entry k.1
    (omega (arith, c.len-in-Err-Full.ensures.valid.few, same)) c.in-Ok.ensures (c.in-Err-Full.ensures.full.0 (search rules)) in
    fault_here (goal.at.returns-in-Err-Full-clause-fault c).In-Some c.len-in-Err-Full.result Full (c.len-in-Err-Full.ensures.count ∙ same) full

pub returns-clause-read : goal.returns-clause-read
returns-clause-read c =
    let s = c.split-text-items in
    let body = c.without_last_feed.result.now in
    let road = road_of _ s.result body c.into_iter-text-iterator.ensures.into_iter_gives s.ensures.text s.ensures.has_more s.ensures.pattern in
    let t = YieldsList-end road c.loop-text.yielded _ c.loop-text.yielded_by _ _ c.in-None.is c.next.ensures.steps in
    let k = c.loop-text.invariant in
    let some = not_empty (length c.args.source.now) c.is_empty.result c.is_empty.ensures c.if-is_empty.false in
    let there = lines_there c.args.source.now body some c.without_last_feed.ensures in
    (k.0, subst (λ u. IsReading c.args.lengths u k.0) (t.0 ∙ sym there) k.1.reading, k.1.learnt)

pub returns-then-is_empty-clause-lengths : goal.returns-then-is_empty-clause-lengths
returns-then-is_empty-clause-lengths c = subst (IsWithin c.args.lengths) (sym c.new-view.ensures) (within_empty c.args.lengths)

pub returns-clause-lengths : goal.returns-clause-lengths
returns-clause-lengths c =
    let k = c.loop-text.invariant in
    subst (IsWithin c.args.lengths) (sym k.1.learnt) (within_learned c.args.lengths k.0 k.1.reading.good)
