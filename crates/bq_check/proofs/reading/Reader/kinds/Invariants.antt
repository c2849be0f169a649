use Rattle.bq_check.proofs.Read.{ReadKinds}
use Rattle.bq_check.proofs.reading.Reader.kinds.Given as goal

abbrev pub invariant-loop-register : goal.invariant-loop-register
invariant-loop-register l = ReadKinds l.form l.fn.self.rest.now l.kinds l.register l.self.rest.now
