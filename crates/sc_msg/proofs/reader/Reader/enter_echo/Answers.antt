-- Reader::enter_echo: the body of an echo to an enter, at the front of the bytes.
use Rattle.std.proofs.Common.{[], ◌∷◌, ◌++◌, rules}
use Rattle.sc_msg.specs.Fields.{IsFieldFault, number, flag_slot, view_slot, facts_slots}
use Rattle.sc_msg.proofs.Lists.{or_memory}
use Rattle.sc_msg.proofs.Fields.{here_or, later_or, longer_or, number_cut_first, echo_or, facts_later}
use Rattle.sc_msg.proofs.reader.Reader.enter_echo.Goals as goal

pub returns-in_err-to-clause-fault : goal.returns-in_err-to-clause-fault
returns-in_err-to-clause-fault c =
    let others = flag_slot ∷ facts_slots ++ view_slot c.args.version ∷ [] in
    search (rules, (number_cut_first others c.args.self.now.rest.now c.in_err-to.ensures.short c.in_err-to.ensures.few).fault)

pub returns-in_err-joined-clause-fault : goal.returns-in_err-joined-clause-fault
returns-in_err-joined-clause-fault c =
    let behind = c.number.new.self.rest.now in
    let e = c.in_err-joined.field-0.0 in
    let fault = or_memory (IsFieldFault flag_slot behind) e c.in_err-joined.ensures.fault in
    let joined = here_or flag_slot (facts_slots ++ view_slot c.args.version ∷ []) behind e fault in
    search (rules, (later_or (number c.in_ok-to.to) c.in_ok-to.ensures.fits c.in_ok-to.ensures.parts joined).fault)

pub returns-in_err-facts-clause-fault : goal.returns-in_err-facts-clause-fault
returns-in_err-facts-clause-fault c =
    let err = c.in_err-facts in
    let facts = longer_or facts_slots (view_slot c.args.version ∷ []) c.flag.new.self.rest.now err.field-0.0 err.ensures.fault in
    let to = c.in_ok-to.ensures in
    search (rules, (echo_or c.in_ok-to.to c.in_ok-joined.joined to.fits to.parts c.in_ok-joined.ensures.parts facts).fault)

pub returns-in_err-view-clause-fault : goal.returns-in_err-view-clause-fault
returns-in_err-view-clause-fault c =
    let view = here_or (view_slot c.args.version) [] c.facts.new.self.rest.now c.in_err-view.field-0.0 c.in_err-view.ensures.fault in
    let f = c.in_ok-facts.ensures in
    let facts = facts_later c.in_ok-facts.facts f.entered f.joined f.left f.parts view in
    let to = c.in_ok-to.ensures in
    search (rules, (echo_or c.in_ok-to.to c.in_ok-joined.joined to.fits to.parts c.in_ok-joined.ensures.parts facts).fault)
