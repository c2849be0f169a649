-- Reader::value: a value, behind its length where that is told.
use Rattle.std.proofs.Common.{rules}
use Rattle.sc_msg.proofs.Parts.{length_faulty, value_cut, value_parts}
use Rattle.sc_msg.proofs.reader.Reader.value.Goals as goal

pub returns-in_err-count-clause-fault : goal.returns-in_err-count-clause-fault
returns-in_err-count-clause-fault c =
    let faulty = length_faulty c.args.version c.args.self.now.rest.now c.in_err-count.field-0.0 c.in_err-count.ensures.fault in
    search (rules, faulty)

pub returns-in_err-bytes-clause-fault : goal.returns-in_err-bytes-clause-fault
returns-in_err-bytes-clause-fault c =
    let told = c.in_ok-count.ensures in
    let cut = value_cut c.args.version c.in_ok-count.count _ _ told.legal told.parts c.in_err-bytes.ensures.few in
    search (rules, cut)

pub returns-clause-whole : goal.returns-clause-whole
returns-clause-whole c = rw c.in-Ok.ensures.ok (rw c.in_ok-bytes.ensures.len c.in_ok-count.ensures.legal)

pub returns-clause-parts : goal.returns-clause-parts
returns-clause-parts c =
    let bytes = c.in_ok-bytes.ensures in
    rw c.in-Ok.ensures.ok (value_parts c.args.version c.in_ok-count.count _ _ bytes.len c.in_ok-count.ensures.parts bytes.parts)
