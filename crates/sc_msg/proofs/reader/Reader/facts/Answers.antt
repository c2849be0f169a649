-- Reader::facts: three sets of ids.
use Rattle.std.proofs.Common.{[], ◌∷◌, rules}
use Rattle.sc_msg.specs.Fields.{ids, ids_slot}
use Rattle.sc_msg.proofs.Fields.{here_or, later_or}
use Rattle.sc_msg.proofs.reader.Reader.facts.Goals as goal

pub returns-in_err-entered-clause-fault : goal.returns-in_err-entered-clause-fault
returns-in_err-entered-clause-fault c =
    let err = c.in_err-entered in
    search (rules, (here_or ids_slot (ids_slot ∷ ids_slot ∷ []) c.args.self.now.rest.now err.field-0.0 err.ensures.fault).fault)

pub returns-in_err-joined-clause-fault : goal.returns-in_err-joined-clause-fault
returns-in_err-joined-clause-fault c =
    let entered = c.in_ok-entered.ensures in
    let joined = here_or ids_slot (ids_slot ∷ []) c.ids.new.self.rest.now c.in_err-joined.field-0.0 c.in_err-joined.ensures.fault in
    search (rules, (later_or (ids c.in_ok-entered.entered) entered.ids entered.parts joined).fault)

pub returns-in_err-left-clause-fault : goal.returns-in_err-left-clause-fault
returns-in_err-left-clause-fault c =
    let entered = c.in_ok-entered.ensures in
    let left = here_or ids_slot [] c.ids-2.new.self.rest.now c.in_err-left.field-0.0 c.in_err-left.ensures.fault in
    let joined = later_or (ids c.in_ok-joined.joined) c.in_ok-joined.ensures.ids c.in_ok-joined.ensures.parts left in
    search (rules, (later_or (ids c.in_ok-entered.entered) entered.ids entered.parts joined).fault)
