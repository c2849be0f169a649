-- run_line: makes the requests of a line, and tells their replies.
use Rattle.std.proofs.Common.{refl}
use Rattle.reasons.specs.declared.Reason.TheVariants as reasons
use Rattle.q_told.specs.declared.refusal.RefusalPlace.TheVariants.{Untold}
use Rattle.q_asker.specs.declared.script.ClientLine.TheVariants as line
use Rattle.q_asker.proofs.Running.{line_requested, line_unmade}
use Rattle.q_asker.proofs.line.run_line.Goals as goal

pub returns-in-Ok-clause-steps : goal.returns-in-Ok-clause-steps
returns-in-Ok-clause-steps g c =
    let made = rw c.as_slice.ensures.value at c.in-Ok.ensures.made in
    rw c.in-Program.is (line_requested (line.Program c.in-Program.code) c.in-Ok.request _ _ c.run_request.result made (λ _. refl) c.run_request.ensures.steps)

pub returns-in-Err-clause-steps : goal.returns-in-Err-clause-steps
returns-in-Err-clause-steps g c =
    let unfit = rw c.as_slice.ensures.value at c.in-Err.ensures.refused in
    rw c.in-Program.is (line_unmade (line.Program c.in-Program.code) c.reason.result c.place.result _ _ c.refuse_line.result
    (c.in-Err.refusal, unfit, c.reason.ensures, c.place.ensures) refl refl c.refuse_line.ensures.told c.refuse_line.ensures.refused)

pub returns-in-Some-clause-steps : goal.returns-in-Some-clause-steps
returns-in-Some-clause-steps g c =
    let made = rw c.as_slice-in-Store.ensures.value at c.in-Some.ensures in
    let run = c.run_request-in-Some in
    rw c.in-Store.is (line_requested (line.Store c.in-Store.value) c.in-Some.request _ _ run.result made (λ _. refl) run.ensures.steps)

pub returns-in-None-clause-steps : goal.returns-in-None-clause-steps
returns-in-None-clause-steps g c =
    let long = rw c.as_slice-in-Store.ensures.value at c.in-None.ensures in
    rw c.in-Store.is (line_unmade (line.Store c.in-Store.value) reasons.BadValue Untold _ _ c.refuse_line-in-None.result (long, refl, refl)
    refl refl c.refuse_line-in-None.ensures.told c.refuse_line-in-None.ensures.refused)
