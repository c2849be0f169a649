-- Certified::run_certified: one record run of the text over a record of one of its lengths, from an accumulator and
-- a frame.
use Rattle.std.proofs.Common.{◌≡◌, List, length, Ok, refl, arith, subst, sym}
use Rattle.bq_insn.specs.declared.insn.Insn.{Insn}
use Rattle.bq_meaning.specs.Runs.{RecordRun}
use Rattle.bq_sound.specs.Safe.{AreBytes, RunsAlike}
use Rattle.bq_check.proofs.Alike.{are_bytes, no_fault, alike}
use Rattle.bq_check.proofs.certified.Certified.run_certified.Goals as goal
use Rattle.bq_check.proofs.certified.Certified.run_certified.Goals.{After-run_checked}

-- the run that is safe, which is found within the limit
module _ (c : After-run_checked) where
  run : RunsAlike c.args.self.now.text c.args.self.now.longest c.args.acc c.args.«record».now c.args.frame.now
  run =
      let bytes = c.args.«record».now in
      let frame = c.args.frame.now in
      let whole : AreBytes (length bytes) bytes = record { count = refl; each = c.are_bytes.ensures } in
      (c.is_safe.ensures (length bytes) c.requires).runs c.args.acc bytes frame (omega arith) whole (are_bytes 512 frame c.told-frame c.fits-frame)

  found : (c.run_checked.result ≡ Ok (record { acc = run.answer; steps = run.steps })) × (c.run_checked.new.frame ≡ run.after)
  found =
      let p = c.args.placement.now in
      let P : List Insn → Type 0 = λ t. RecordRun p t c.args.acc c.args.«record».now c.args.frame.now run.steps run.answer run.after in
      let here = subst P (sym c.text.ensures) (run.run p c.is_placement.ensures) in
      c.run_checked.ensures.complete run.steps run.answer run.after (omega (arith, run.within, c.from-limit.ensures, c.longest.ensures.value)) here

pub unreachable-requires : goal.unreachable-requires
unreachable-requires c =
    let at = (goal.at.unreachable-requires c).After-run_checked in
    no_fault c.in-Err.field-0 _ c.run_checked.result c.in-Err.is (found at).0

pub returns-clause-alike : goal.returns-clause-alike
returns-clause-alike c =
    let at = (goal.at.returns-clause-alike c).After-run_checked in
    alike (run at) c.in-Ok.ended c.run_checked.result c.run_checked.new.frame c.in-Ok.is (found at).0 (found at).1
