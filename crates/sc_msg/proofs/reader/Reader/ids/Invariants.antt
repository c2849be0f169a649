use Rattle.std.proofs.Common.{◌≡◌, ℕ, List, length}
use Rattle.std.specs.FinSet as set
use Rattle.sc_msg.specs.Entries.{ids_layout}
use Rattle.sc_msg.proofs.Lists.{ReadTo}
use Rattle.sc_msg.proofs.reader.Reader.ids.Given as goal

abbrev pub invariant-loop : goal.invariant-loop
invariant-loop l = record {
  ids : List ℕ;
  read : ReadTo ids_layout l.count l.fn.self.rest.now ids l.self.rest.now l.last;
  made : l.ids ≡ set.from_list ids;
  len : length ids ≡ l.counter;
}
