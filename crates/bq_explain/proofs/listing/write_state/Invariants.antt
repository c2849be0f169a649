use Rattle.std.proofs.Common.{◌≡◌, ◌++◌, string_bytes}
use Rattle.bq_explain.specs.Known.{register_lines}
use Rattle.bq_explain.proofs.listing.write_state.Given as goal

-- the lines of the registers so far were written
abbrev pub invariant-loop-register : goal.invariant-loop-register
invariant-loop-register l = string_bytes l.out ≡ string_bytes l.initial.out ++ register_lines l.state l.register
