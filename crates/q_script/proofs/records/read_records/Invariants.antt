use Rattle.std.proofs.Common.{List, map}
use Rattle.q_script.specs.Records.{Record}
use Rattle.q_script.proofs.Faults.{Read}
use Rattle.q_script.proofs.records.read_records.Given as goal

-- the lines so far spell records, which the view has learnt
abbrev pub invariant-loop-text : goal.invariant-loop-text
invariant-loop-text l = (records : List Record) × Read l.lengths (map (λ x. x.now) l.yielded) l.last l.view records
