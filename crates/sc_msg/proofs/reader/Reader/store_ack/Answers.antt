-- Reader::store_ack: the body of an acknowledgement, at the front of the bytes.
use Rattle.std.proofs.Common.{[], ◌∷◌, rules}
use Rattle.sc_msg.specs.Fields.{number_slot}
use Rattle.sc_msg.proofs.Fields.{number_cut_first, number_cut_second}
use Rattle.sc_msg.proofs.reader.Reader.store_ack.Goals as goal

pub returns-in_err-to-clause-fault : goal.returns-in_err-to-clause-fault
returns-in_err-to-clause-fault c =
    search (rules, (number_cut_first (number_slot ∷ []) c.args.self.now.rest.now c.in_err-to.ensures.short c.in_err-to.ensures.few).fault)

pub returns-in_err-tag-clause-fault : goal.returns-in_err-tag-clause-fault
returns-in_err-tag-clause-fault c =
    let to = c.in_ok-to.ensures in
    search (rules, (number_cut_second c.in_ok-to.to [] _ to.fits to.parts c.in_err-tag.ensures.short c.in_err-tag.ensures.few).fault)
