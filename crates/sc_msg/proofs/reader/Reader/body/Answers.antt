-- Reader::body: the body of a message of this kind.
use Rattle.std.proofs.Common.{[], rules}
use Rattle.sc_msg.specs.Fields.{view_slot}
use Rattle.sc_msg.proofs.Fields.{here_or, number_cut_first}
use Rattle.sc_msg.proofs.reader.Reader.body.Goals as goal

pub returns-in_err-about-in-JoinEcho-clause-fault : goal.returns-in_err-about-in-JoinEcho-clause-fault
returns-in_err-about-in-JoinEcho-clause-fault c =
    search (rules, (number_cut_first [] c.args.self.now.rest.now c.in_err-about-in-JoinEcho.ensures.short c.in_err-about-in-JoinEcho.ensures.few).fault)

pub returns-in_err-about-in-LeaveEcho-clause-fault : goal.returns-in_err-about-in-LeaveEcho-clause-fault
returns-in_err-about-in-LeaveEcho-clause-fault c =
    search (rules, (number_cut_first [] c.args.self.now.rest.now c.in_err-about-in-LeaveEcho.ensures.short c.in_err-about-in-LeaveEcho.ensures.few).fault)

pub returns-in_err-view-in-StoreEcho-clause-fault : goal.returns-in_err-view-in-StoreEcho-clause-fault
returns-in_err-view-in-StoreEcho-clause-fault c =
    let err = c.in_err-view-in-StoreEcho in
    search (rules, (here_or (view_slot c.args.version) [] c.args.self.now.rest.now err.field-0.0 err.ensures.fault).fault)

pub returns-in_err-tag-in-CollectQuery-clause-fault : goal.returns-in_err-tag-in-CollectQuery-clause-fault
returns-in_err-tag-in-CollectQuery-clause-fault c =
    search (rules, (number_cut_first [] c.args.self.now.rest.now c.in_err-tag-in-CollectQuery.ensures.short c.in_err-tag-in-CollectQuery.ensures.few).fault)
