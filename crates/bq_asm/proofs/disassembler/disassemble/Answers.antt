-- disassemble: the one spelling of a text that has no labels and no comments, one space behind each mnemonic, a
-- comma and a space between operands, and a line feed at the end of each line.
use Rattle.std.proofs.Common.{ap, sym, ◌∙◌, ◌++◌, ◌<◌, ℕ, List, length, arith}
use Rattle.std.specs.String.{string_bytes}
use Rattle.std.proofs.lemmas.List.{append-nil}
use Rattle.bq_insn.specs.Slots.{slots}
use Rattle.bq_asm.specs.Source.{insn_line}
use Rattle.bq_asm.proofs.Writing.{line_more, all_written}
use Rattle.bq_asm.proofs.disassembler.disassemble.Goals as goal
use Rattle.bq_asm.proofs.disassembler.disassemble.Goals.{in-Some+in_ok-push_line, in_default}

pub loop-unit-preserved : goal.loop-unit-preserved
loop-unit-preserved c =
    let out = string_bytes c.loop-unit.out in
    let inside : c.loop-unit.unit < length (slots c.args.text.now) = omega (arith, c.loop-unit-test.true, c.units-unit-end.ensures.value) in
    line_more c.args.text.now c.loop-unit.unit inside c.at.ensures c.loop-unit.invariant
    (elim c.match-at.branch [
      | in-Some+in_ok-push_line w ↦
          rw (w.out-is, w.in-Some.is) (w.in_ok-push_line.ensures ∙ ap (λ (u : List ℕ). out ++ u) (sym (append-nil (insn_line w.in-Some.insn))))
      | in_default w ↦ rw (w.out-is, w.in_default.is) (sym (append-nil out))
    ])

pub returns-clause-written : goal.returns-clause-written
returns-clause-written c =
    all_written c.args.text.now c.loop-unit.unit (omega (arith, c.loop-unit-test.false, c.units-unit-end.ensures.value)) c.loop-unit.invariant
