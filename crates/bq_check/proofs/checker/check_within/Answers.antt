-- check_within: the text with these notes as a certificate, where the notes pass; else the first fault.
use Rattle.bq_check.proofs.Once.{accepts}
use Rattle.bq_check.proofs.checker.check_within.Goals as goal

pub returns-clause-all : goal.returns-clause-all
returns-clause-all c = accepts c.args.bounds c.args.text c.args.notes c.certify.result c.certify.ensures.fault
