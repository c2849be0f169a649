-- Reader::collect_reply: the body of a reply to a collect, at the front of the bytes.
use Rattle.std.proofs.Common.{[], ◌∷◌, rules}
use Rattle.sc_msg.specs.Fields.{number, number_slot, view_slot}
use Rattle.sc_msg.proofs.Fields.{here_or, later_or, number_cut_first, number_cut_second}
use Rattle.sc_msg.proofs.reader.Reader.collect_reply.Goals as goal

pub returns-in_err-to-clause-fault : goal.returns-in_err-to-clause-fault
returns-in_err-to-clause-fault c =
    let short = number_cut_first (number_slot ∷ view_slot c.args.version ∷ []) c.args.self.now.rest.now c.in_err-to.ensures.short c.in_err-to.ensures.few in
    search (rules, short.fault)

pub returns-in_err-tag-clause-fault : goal.returns-in_err-tag-clause-fault
returns-in_err-tag-clause-fault c =
    let to = c.in_ok-to.ensures in
    let short = number_cut_second c.in_ok-to.to (view_slot c.args.version ∷ []) _ to.fits to.parts c.in_err-tag.ensures.short c.in_err-tag.ensures.few in
    search (rules, short.fault)

pub returns-in_err-view-clause-fault : goal.returns-in_err-view-clause-fault
returns-in_err-view-clause-fault c =
    let to = c.in_ok-to.ensures in
    let tag = c.in_ok-tag.ensures in
    let view = here_or (view_slot c.args.version) [] c.number-2.new.self.rest.now c.in_err-view.field-0.0 c.in_err-view.ensures.fault in
    search (rules, (later_or (number c.in_ok-to.to) to.fits to.parts (later_or (number c.in_ok-tag.tag) tag.fits tag.parts view)).fault)
