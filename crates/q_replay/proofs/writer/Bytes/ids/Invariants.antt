use Rattle.std.proofs.Common.{◌++◌, length}
use Rattle.spelling.specs.Numbers.{number_bytes}
use Rattle.bq_check.proofs.Written.{Written}
use Rattle.q_replay.proofs.writer.Bytes.ids.Given as goal

abbrev pub invariant-loop-id : goal.invariant-loop-id
invariant-loop-id l = Written (number_bytes 8) (l.fn.self ++ number_bytes 2 (length l.ids)) l.ids l.id-index l.self
