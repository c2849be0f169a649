use Rattle.std.specs.FinMap as fin
use Rattle.std.specs.Prelude.{◌≡◌}
use Rattle.sc_msg.specs.Entries.{view_layout}
use Rattle.sc_msg.proofs.Lists.{ReadTo}
use Rattle.sc_msg.proofs.reader.Reader.view.Given as goal

abbrev pub invariant-loop : goal.invariant-loop
invariant-loop l = record {
  read : ReadTo (view_layout l.version) l.count l.fn.self.rest.now (fin.entries l.view) l.self.rest.now l.last;
  len : fin.len l.view ≡ l.counter;
}
