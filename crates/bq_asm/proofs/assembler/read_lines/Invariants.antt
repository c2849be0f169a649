use Rattle.std.proofs.Common.{map}
use Rattle.std.specs.List.{AllZip}
use Rattle.bq_asm.specs.Line.{Spells}
use Rattle.bq_asm.specs.View.{line_view}
use Rattle.bq_asm.proofs.assembler.read_lines.Given as goal

abbrev pub invariant-loop-text : goal.invariant-loop-text
invariant-loop-text l = AllZip Spells (map (λ x. x.now) l.yielded) (map line_view l.lines.items)
