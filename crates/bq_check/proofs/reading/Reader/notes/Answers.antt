-- Reader::notes: the notes of a form at the front of the bytes.
use Rattle.std.proofs.Common.{arith}
use Rattle.bq_check.proofs.Read.{no_count, many, no_notes}
use Rattle.bq_check.proofs.reading.Reader.notes.Goals as goal

pub returns-in_default-clause-fault : goal.returns-in_default-clause-fault
returns-in_default-clause-fault c = λ e. no_count c.args.form c.args.self.now.rest.now c.in_default.ensures.few

pub returns-then-count-gt-MOST_UNITS-clause-fault : goal.returns-then-count-gt-MOST_UNITS-clause-fault
returns-then-count-gt-MOST_UNITS-clause-fault c = λ e.
    many c.args.form c.args.self.now.rest.now c.take_u32.new.bytes.now c.in-Some.count c.in-Some.ensures.fits c.in-Some.ensures.parts (omega arith)

pub returns-in_default-note-clause-fault : goal.returns-in_default-note-clause-fault
returns-in_default-note-clause-fault c = λ e.
    no_notes c.args.form c.args.self.now.rest.now c.in-Some.count c.loop.states.items c.loop.self.rest.now c.in-Some.ensures.fits
    c.loop.invariant.read (omega arith) c.in_default-note.ensures.none
