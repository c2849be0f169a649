use Rattle.std.proofs.Common.{map}
use Rattle.std.specs.List.{AllZip}
use Rattle.q_asker.specs.Script.{SpellsLine}
use Rattle.q_asker.proofs.script.read_client_script.Given as goal

abbrev pub invariant-loop-text : goal.invariant-loop-text
invariant-loop-text l = AllZip SpellsLine (map (λ x. x.now) l.yielded) l.lines.items
