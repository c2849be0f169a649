use Rattle.std.proofs.Common.{◌≡◌, length}
use Rattle.bq_check.proofs.Read.{ReadNotes}
use Rattle.bq_check.proofs.reading.Reader.notes.Given as goal

abbrev pub invariant-loop : goal.invariant-loop
invariant-loop l = record {
  read : ReadNotes l.form l.fn.self.rest.now l.count l.states.items l.self.rest.now;
  len : length l.states.items ≡ l.counter;
}
