-- read_and_written: bytes that were read and written again are the same.
use Rattle.std.proofs.Common.{◌≡◌, IfErr, rules}
use Rattle.bq_insn.specs.declared.fault.DecodeFault.TheVariants.{OutOfMemory}
use Rattle.bq_insn.proofs.Unique.{whole_length, out_of_memory}
use Rattle.bq_insn.proofs.laws.read_and_written.Goals as goal

pub returns-in_err-written-clause-fault : goal.returns-in_err-written-clause-fault
returns-in_err-written-clause-fault c =
    let memory : IfErr c.from_residual-in_err-written.result (λ e. e ≡ OutOfMemory) = search rules in
    out_of_memory c.args.bytes.now c.from_residual-in_err-written.result
    (whole_length c.args.bytes.now c.in_ok-text.text c.in_ok-text.ensures.text c.in_ok-text.ensures.spelled) memory
