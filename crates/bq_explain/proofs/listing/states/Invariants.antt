use Rattle.std.proofs.Common.{◌≡◌, string_bytes}
use Rattle.bq_explain.specs.Known.{unit_texts}
use Rattle.bq_explain.proofs.listing.states.Given as goal

-- the lines of the units so far were written
abbrev pub invariant-loop-unit : goal.invariant-loop-unit
invariant-loop-unit l = string_bytes l.out ≡ unit_texts l.text l.notes l.unit
