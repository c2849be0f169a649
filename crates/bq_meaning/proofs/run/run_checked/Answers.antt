-- run_checked: one record run over a record of 16 to 128 bytes, of at most `limit` steps.
use Rattle.std.proofs.Common.{◌≡◌, ◌+◌, ℕ, arith, ap, sym, subst}
use Rattle.std.specs.Prelude.{Ok, Err}
use Rattle.bq_meaning.specs.declared.fault.Fault.TheVariants.{StepsOut}
use Rattle.bq_meaning.specs.declared.step.Step.TheVariants.{Ends}
use Rattle.bq_meaning.specs.declared.run.Ended.{Ended}
use Rattle.bq_meaning.specs.Memory.{MachineState}
use Rattle.bq_meaning.specs.Runs.{RunsTo, RunFaults, entry_machine}
use Rattle.bq_meaning.proofs.Reach.{ends_after, faults_after, reaches_more, still_runs}
use Rattle.bq_meaning.proofs.Once.{same_end, no_refusal, one_refusal}
use Rattle.bq_meaning.proofs.run.run_checked.Goals as goal

ends_alike : {a b n k : ℕ} → a ≡ b → n ≡ k → ◌≡◌ {A = Ended} (record { acc = a; steps = n }) (record { acc = b; steps = k })
ends_alike e i = cc

pub returns-in-Ok-Ends-clause-ok : goal.returns-in-Ok-Ends-clause-ok
returns-in-Ok-Ends-clause-ok c =
    let is : c.step_checked.result ≡ Ok (Ends c.in-Ok-Ends.acc) = let a = c.in-Ok-Ends.is in let b = c.in-Ok-Ends.field-0-is in cc in
    let run = ends_after _ _ c.loop-done.done _ c.loop-done.machine c.step_checked.new.machine c.loop-done.invariant.reached c.step_checked.ensures is in
    let same = sym (ap (λ (x : MachineState). x.frame) c.machine.view_is) in
    let left = subst (RunsTo c.args.placement.now c.args.text.now _ (c.loop-done.done + 1) c.in-Ok-Ends.acc) same run in
    record { room = c.requires.room; whole = c.told-frame; runs = left }

pub returns-in-Err-clause-err : goal.returns-in-Err-clause-err
returns-in-Err-clause-err c =
    faults_after _ _ c.loop-done.done c.args.limit _ c.loop-done.machine c.step_checked.new.machine (omega arith)
    c.loop-done.invariant.reached c.step_checked.ensures c.in-Err.is

pub returns-clause-err : goal.returns-clause-err
returns-clause-err c =
    let m = entry_machine c.args.placement.now c.args.acc c.args.«record».now c.args.frame.now in
    let all : c.loop-done.done ≡ c.args.limit = omega arith in
    let still = still_runs _ _ c.loop-done.done _ c.loop-done.machine c.loop-done.invariant.reached in
    subst (λ n. RunFaults c.args.placement.now c.args.text.now m n StepsOut) all still

pub loop-done-preserved : goal.loop-done-preserved
loop-done-preserved c =
    let old = c.loop-done.invariant in
    record {
      reached = reaches_more _ _ c.loop-done.done _ c.loop-done.machine c.step_checked.new.machine old.reached c.step_checked.ensures (cc);
      same = old.same;
    }

pub returns-in-Ok-Ends-clause-complete : goal.returns-in-Ok-Ends-clause-complete
returns-in-Ok-Ends-clause-complete c = λ n answer after low run.
    let same = same_end _ _ (c.loop-done.done + 1) n _ c.in-Ok-Ends.acc answer _ after (returns-in-Ok-Ends-clause-ok c).runs run.runs in
    (ap Ok (ends_alike same.1 same.0), same.2)

pub returns-in-Ok-Ends-clause-faulty : goal.returns-in-Ok-Ends-clause-faulty
returns-in-Ok-Ends-clause-faulty c = λ f fault.
    absurd (no_refusal _ _ (c.loop-done.done + 1) c.args.limit _ c.in-Ok-Ends.acc _ f (returns-in-Ok-Ends-clause-ok c).runs (omega arith) fault)

pub returns-in-Err-clause-complete : goal.returns-in-Err-clause-complete
returns-in-Err-clause-complete c = λ n answer after low run.
    absurd (no_refusal _ _ n c.args.limit _ answer after c.in-Err.fault run.runs low (returns-in-Err-clause-err c))

pub returns-in-Err-clause-faulty : goal.returns-in-Err-clause-faulty
returns-in-Err-clause-faulty c = λ f fault.
    ap Err (one_refusal _ _ c.args.limit _ c.in-Err.fault f (returns-in-Err-clause-err c) fault)

pub returns-clause-complete : goal.returns-clause-complete
returns-clause-complete c = λ n answer after low run.
    absurd (no_refusal _ _ n c.args.limit _ answer after StepsOut run.runs low (returns-clause-err c))

pub returns-clause-faulty : goal.returns-clause-faulty
returns-clause-faulty c = λ f fault. ap Err (one_refusal _ _ c.args.limit _ StepsOut f (returns-clause-err c) fault)
