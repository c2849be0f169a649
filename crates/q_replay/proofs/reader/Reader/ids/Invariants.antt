use Rattle.std.proofs.Common.{◌≡◌, ◌<◌, ◌^◌, length}
use Rattle.spelling.specs.Numbers.{number_bytes}
use Rattle.spelling.proofs.Codes.{ReadSome, numbers_are_code}
use Rattle.q_replay.proofs.reader.Reader.ids.Given as goal

abbrev pub invariant-loop : goal.invariant-loop
invariant-loop l = record {
  read : ReadSome (number_bytes 8) (λ id. id < 2 ^ 64) (numbers_are_code 8) 2 l.fn.self.rest.now l.count l.ids.items l.self.rest.now;
  len : length l.ids.items ≡ l.counter;
}
