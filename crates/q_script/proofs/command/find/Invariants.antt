use Rattle.std.proofs.Common.{◌≡◌, drop}
use Rattle.std.specs.Prelude.{find}
use Rattle.std.specs.Str.{bytes_eq}
use Rattle.q_script.specs.Line.{name}
use Rattle.q_script.proofs.command.find.Given as goal

abbrev pub invariant-loop-command : goal.invariant-loop-command
invariant-loop-command l = find (λ c. bytes_eq (name c) l.word) (drop l.command-index l.commands) ≡ find (λ c. bytes_eq (name c) l.word) l.commands
