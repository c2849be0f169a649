use Rattle.std.proofs.Common.{◌≡◌, ◌+◌, length, string_bytes}
use Rattle.q_sim.specs.Simulates.{Plays}
use Rattle.q_sim.specs.Seen.{seen}
use Rattle.q_sim.proofs.simulation.simulate.Given as goal

-- the lines so far were played, and counted
abbrev pub invariant-loop-line : goal.invariant-loop-line
invariant-loop-line g l = record {
  played : Plays g.F.Files.write_gives l.yielded (seen l.initial.simulation) l.initial.files (string_bytes l.simulation.lines) (seen l.simulation) l.files;
  line : l.simulation.line ≡ length l.yielded + 1;
}
