-- worked: what the definitions say of the lines of refusals, of printed lines, and of programs.
use Rattle.std.proofs.Common.{ap, ap₂, ◌∙◌, length, arith, ◌≡◌}
use Rattle.std.specs.Fmt.{digits}
use Rattle.bq_insn.specs.Insn.{unit_bytes}
use Rattle.bq_insn.specs.Slots.{spelling}
use Rattle.q_told.specs.Line.{line_of}
use Rattle.q_told.proofs.worked.worked.Goals as goal

pub returns-clause-of_a_script : goal.returns-clause-of_a_script
unfolding digits
returns-clause-of_a_script c = λ r is there. ap₂ line_of is there

pub returns-clause-meeting : goal.returns-clause-meeting
returns-clause-meeting c = λ store collect text h. (h.least, h.meeting, h.says)

pub returns-clause-other_bytes : goal.returns-clause-other_bytes
unfolding unit_bytes
returns-clause-other_bytes c = λ code certificate is long h.
    let short : length code ≡ 8 = ap length (h.spelled ∙ ap spelling is) in
    omega (arith, short, long)
