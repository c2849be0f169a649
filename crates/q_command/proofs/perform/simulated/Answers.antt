-- simulated: what `sim` prints of a script, whose journals are written.
use Rattle.std.proofs.Common.{ℕ, List, subst, string_bytes}
use Rattle.std.specs.Prelude.{Result, Ok, Err, IfOk, IfErr, IsUtf8}
use Rattle.q_script.specs.Script.{IsScript}
use Rattle.q_script.specs.declared.script.Script.{Script}
use Rattle.q_sim.specs.Simulates.{IsSimulationFault, Simulates, Writing}
use Rattle.q_told.specs.declared.refusal.Refusal.{Refusal}
use Rattle.q_sim.specs.declared.simulation.Printed.{Printed}
use Rattle.q_command.specs.Perform.{IsSimulated, IsUnsimulated}
use Rattle.q_command.proofs.Refused.{unsimulated_script}
use Rattle.q_command.proofs.perform.simulated.Goals as goal

-- these bytes spell this script
module _ (bytes : List ℕ) (script : Script) (utf8 : IsUtf8 bytes) (spelled : IsScript bytes script) where
  printed : {F : Type 0} (writes : Writing F) (old new : F) (r : Result Printed Refusal)
      → IfOk r (λ p. Simulates writes script old (string_bytes p.lines) p.unsaved p.refused new)
      → IfOk r (λ p. IsSimulated writes bytes old (string_bytes p.lines) p.unsaved p.refused new)
  printed writes old new (Ok p) h = record { script = script; utf8 = utf8; spelled = spelled; simulates = h }
  printed writes old new (Err r) h = tt

  refused : {X : Type 0} (r : Result X Refusal) → IfErr r (IsSimulationFault script.founding) → IfErr r (IsUnsimulated bytes)
  refused (Ok x) h = tt
  refused (Err r) h = unsimulated_script bytes script r utf8 spelled h

pub returns-clause-simulated : goal.returns-clause-simulated
returns-clause-simulated g c =
    let spelled = subst (λ (t : List ℕ). IsScript t c.in_ok-script.script) c.in_ok-source.ensures.same.0 c.in_ok-script.ensures.read in
    printed c.args.source.now c.in_ok-script.script c.in_ok-source.ensures.same.1 spelled g.F.Files.write_gives c.args.files.now c.simulate.new.files
    c.simulate.result c.simulate.ensures.printed

pub returns-clause-refused : goal.returns-clause-refused
returns-clause-refused g c =
    let spelled = subst (λ (t : List ℕ). IsScript t c.in_ok-script.script) c.in_ok-source.ensures.same.0 c.in_ok-script.ensures.read in
    refused c.args.source.now c.in_ok-script.script c.in_ok-source.ensures.same.1 spelled c.simulate.result c.simulate.ensures.refused
