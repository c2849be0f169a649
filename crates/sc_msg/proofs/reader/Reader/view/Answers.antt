-- Reader::view: a view: a count of at most 256, and records in rising order of their ids.
use Rattle.std.proofs.Common.{◌≡◌, ◌∙◌, Err, ap, arith, rules}
use Rattle.sc_view.specs.declared.view.ViewFault.TheVariants as views
use Rattle.sc_msg.specs.Entries.{view_layout}
use Rattle.sc_msg.specs.Fields.{IsListFault}
use Rattle.sc_msg.proofs.Lists.{view_faulty, id_faulty, value_faulty, put_refused, view_none, IsNext, view_more, view_len, view_has_room, view_parts}
use Rattle.sc_msg.proofs.reader.Reader.view.Goals as goal

pub loop-init : goal.loop-init
loop-init c =
    let n = view_none c.args.version c.new-view.ensures c.in_ok-count.ensures.parts in
    record { read = n.0; len = n.1 }

pub returns-in_err-id-clause-fault : goal.returns-in_err-id-clause-fault
returns-in_err-id-clause-fault c =
    let i = c.loop.invariant in
    let faulty = id_faulty (view_layout c.args.version) c.loop.last c.loop.self.rest.now c.in_err-id.ensures.fault in
    search (rules, view_faulty c.args.version c.loop.view i.read c.in_ok-count.ensures.few (omega (arith, i.len)) faulty)

pub returns-in_err-stored-clause-fault : goal.returns-in_err-stored-clause-fault
returns-in_err-stored-clause-fault c =
    let i = c.loop.invariant in
    let id = c.in_ok-id.ensures in
    let next : IsNext c.loop.last c.in_ok-id.id c.loop.self.rest.now c.id_above.new.self.rest.now =
    record { fits = id.fits; above = id.above; parts = id.parts } in
    let faulty = value_faulty next (view_layout c.args.version) ∙ c.in_err-stored.ensures.fault in
    search (rules, view_faulty c.args.version c.loop.view i.read c.in_ok-count.ensures.few (omega (arith, i.len)) faulty)

pub returns-in_err-put-clause-fault : goal.returns-in_err-put-clause-fault
returns-in_err-put-clause-fault c =
    let i = c.loop.invariant in
    let has_room = view_has_room c.args.version c.loop.view i.read c.in_ok-id.id c.in_ok-stored.stored c.in_ok-id.ensures.above
    (omega (arith, i.len, c.in_ok-count.ensures.few)) in
    let room = λ (h : c.in_err-put.field-0.0 ≡ views.Full). has_room (c.in_err-put.ensures.full.0 (ap Err h)) in
    let fact = put_refused (IsListFault (view_layout c.args.version) c.args.self.now.rest.now) c.in_err-put.field-0.0 room in
    search (rules, fact)

pub loop-preserved : goal.loop-preserved
loop-preserved c =
    let i = c.loop.invariant in
    let id = c.in_ok-id.ensures in
    let stored = c.in_ok-stored.ensures in
    let put = c.in_ok-put.ensures.ok in
    record {
      read = view_more c.args.version c.loop.view i.read id.above id.fits stored.stored id.parts stored.parts put;
      len = omega (arith, i.len, view_len c.args.version c.loop.view i.read c.in_ok-id.id c.in_ok-stored.stored id.above put);
    }

pub returns-clause-parts : goal.returns-clause-parts
returns-clause-parts c = let i = c.loop.invariant in view_parts c.args.version c.loop.view i.read (omega (arith, i.len))
