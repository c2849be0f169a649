-- How a run ends that stops.
use Rattle.std.proofs.Common.{◌≡◌, ℕ, List, Option, None, Err, refl, ap, sym, ◌∙◌, subst}
use Rattle.std.specs.Io.KnownBytes.{Appends}
use Rattle.reasons.specs.declared.Reason.TheVariants as reasons
use Rattle.q_told.specs.Line.{line_of, TakesPart}
use Rattle.q_told.specs.declared.refusal.RefusalPlace.TheVariants.{Untold}
use Rattle.q_asker.specs.declared.connection.ExchangeFault.TheVariants.{Unheard}
use Rattle.q_asker.specs.declared.ending.ClientEnding.{ClientEnding}
use Rattle.q_asker.specs.declared.ending.ClientEnding.TheVariants as ending
use Rattle.q_asker.specs.declared.script.ClientLine.{ClientLine}
use Rattle.q_asker.specs.declared.step.Halt.{Halt}
use Rattle.q_asker.specs.declared.step.Halt.TheVariants.{Lost, Unwritten}
use Rattle.q_asker.specs.Runs.{Halts, PrintsLost, RunsOver, RunsTo, Stops, count_after, failures_after, failures_halted}
use Rattle.q_asker.specs.Steps.{Streams}
use Rattle.q_asker.proofs.Moves.{same_given, same_part}
use Rattle.q_asker.proofs.Running.{stops_first}

-- a run that stopped, and how it ended then
pub halted : (ls : List ClientLine) (h : Halt) (e : ClientEnding) (a b : Streams) (q : Option (List ℕ)) → Stops ls h a b → Halts h e b.printed q
    → RunsTo ls a (record { sent = b.sent; heard = b.heard; printed = q }) e
halted ls (Lost fault) ending.Lost a b q s prints =
    let printed = subst (λ (x : Option (List ℕ)). Appends x q (line_of reasons.TransportFailed Untold)) s.stops.2 prints in
    (s.steps, s.begin, (s.between, s.moves, s.stops.0, s.stops.1, printed))
halted ls (Lost fault) ending.Unwritten a b q s prints =
    let printed = subst (λ (x : Option (List ℕ)). TakesPart x q) s.stops.2 prints in
    (s.steps, s.begin, (s.between, s.moves, record { sends = s.stops.0; hears = s.stops.1; prints = printed }))
halted ls (Lost fault) (ending.Done clean) a b q s prints = absurd prints
halted ls (Lost fault) (ending.Refused r) a b q s prints = absurd prints
halted ls Unwritten e a b q s prints =
    let printed = subst (TakesPart s.between.printed) (sym prints.1) s.stops.prints in
    subst (RunsTo ls a (record { sent = b.sent; heard = b.heard; printed = q })) (sym prints.0)
    (s.steps, s.begin, (s.between, s.moves, record { sends = s.stops.sends; hears = s.stops.hears; prints = printed }))

-- how many calls of the output failed then
pub halted_count : (A : Type 0) (h : Halt) (e : ClientEnding) (p q : Option (List ℕ)) (a b c : ℕ) → b ≡ count_after {A = A} (Err h) a → Halts h e p q
    → c ≡ failures_halted h e b → c ≡ failures_after e a
halted_count A (Lost fault) e p q a b c first ends second = second ∙ ap (failures_after e) first
halted_count A Unwritten e p q a b c first ends second = second ∙ first ∙ sym (ap (λ (x : ClientEnding). failures_after x a) ends.0)

-- there was no connection
pub never_connected : (ls : List ClientLine) (e : ClientEnding) (p q : Option (List ℕ)) → PrintsLost e p q → RunsOver ls p q e
never_connected ls e p q prints =
    let s : Streams = record { sent = None; heard = None; printed = p } in
    let t : Streams = record { sent = None; heard = None; printed = q } in
    let stops = stops_first ls (Lost Unheard) s s (same_part {a = None} {b = None} refl, same_given {a = None} {b = None} refl, refl) in
    (s, t, refl, refl, halted ls (Lost Unheard) e s s q stops prints)
