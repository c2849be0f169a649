-- Reader::stored: a sequence number from 1 and a value.
use Rattle.std.proofs.Common.{arith, rules, sym, subst, ◌∙◌}
use Rattle.sc_msg.specs.Entries.{IsStored}
use Rattle.sc_msg.proofs.Parts.{stored_fault_is}
use Rattle.sc_msg.proofs.reader.Reader.stored.Goals as goal

pub returns-in_err-value-clause-fault : goal.returns-in_err-value-clause-fault
returns-in_err-value-clause-fault c =
    let n = c.in_ok-number.ensures in
    let faulty = stored_fault_is c.args.version _ c.in_ok-number.number n.fits c.if-number-eq0.false n.parts ∙ c.in_err-value.ensures.fault in
    search (rules, faulty)

pub returns-clause-stored : goal.returns-clause-stored
returns-clause-stored c =
    subst (IsStored c.args.version) (sym c.in-Some.ensures.1)
    (record { positive = omega arith; fits = c.in_ok-number.ensures.fits; whole = c.in_ok-value.ensures.whole; bytes = c.in_ok-value.ensures.bytes })
