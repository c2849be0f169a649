-- Reader::store: the body of a store, at the front of the bytes.
use Rattle.std.proofs.Common.{[], ◌∷◌, rules}
use Rattle.sc_msg.specs.Fields.{number, view_slot}
use Rattle.sc_msg.proofs.Fields.{here_or, later_or, number_cut_first}
use Rattle.sc_msg.proofs.reader.Reader.store.Goals as goal

pub returns-in_err-tag-clause-fault : goal.returns-in_err-tag-clause-fault
returns-in_err-tag-clause-fault c =
    search (rules, (number_cut_first (view_slot c.args.version ∷ []) c.args.self.now.rest.now c.in_err-tag.ensures.short c.in_err-tag.ensures.few).fault)

pub returns-in_err-view-clause-fault : goal.returns-in_err-view-clause-fault
returns-in_err-view-clause-fault c =
    let view = here_or (view_slot c.args.version) [] c.number.new.self.rest.now c.in_err-view.field-0.0 c.in_err-view.ensures.fault in
    search (rules, (later_or (number c.in_ok-tag.tag) c.in_ok-tag.ensures.fits c.in_ok-tag.ensures.parts view).fault)
