-- book_of: what `replay` answers.
use Rattle.std.proofs.Common.{◌≡◌, ◌≤◌, true, length, rules, arith, sym, ◌∙◌, subst, eqb-true}
use Rattle.q_replay.specs.Replayed.{Leads, IsFault}
use Rattle.q_replay.proofs.Calling.{leads_room, passed_on}
use Rattle.q_replay.proofs.Leading.{leads_journalled}
use Rattle.q_replay.proofs.Lists.{some_long, none_long}
use Rattle.q_replay.proofs.replayer.book_of.Goals as goal

pub take_next-requires-clause-room : goal.take_next-requires-clause-room
take_next-requires-clause-room c =
    let room = leads_room c.loop-rest.invariant in
    let some : 1 ≤ length c.loop-rest.rest.now = some_long c.loop-rest.rest.now (search rules) in
    omega arith

pub overflow_add-count : goal.overflow_add-count
overflow_add-count c =
    let room = leads_room c.loop-rest.invariant in
    let some : 1 ≤ length c.loop-rest.rest.now = some_long c.loop-rest.rest.now (search rules) in
    omega arith

pub returns-in_err-rest-clause-fault : goal.returns-in_err-rest-clause-fault
returns-in_err-rest-clause-fault c =
    passed_on (IsFault c.args.bytes.now) c.in_err-rest.field-0.0 c.from_residual-in_err-rest.result c.from_residual-in_err-rest.ensures.1
    (c.in_err-rest.ensures.fault c.args.bytes.now c.loop-rest.invariant)

pub returns : goal.returns
returns c =
    let flag : c.is_empty.result ≡ true = search rules in
    let none = none_long c.loop-rest.rest.now (eqb-true (length c.loop-rest.rest.now) 0 (sym c.is_empty.ensures ∙ flag)) in
    let whole = subst (Leads c.args.bytes.now c.loop-rest.count c.loop-rest.book) none c.loop-rest.invariant in
    let ends = leads_journalled c.args.bytes.now c.loop-rest.count c.loop-rest.book whole c.desk-desk.ensures.right in
    record { spelled = ends.0; journalled = ends.1; fault = tt }
