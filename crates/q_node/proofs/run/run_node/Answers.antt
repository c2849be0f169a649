-- run_node: runs a node until its console ends it, and gives what its journal's file holds then.
use Rattle.std.proofs.Common.{ℕ, List, Option, subst, sym}
use Rattle.q_node.specs.Faults.{IsUnbegun}
use Rattle.q_node.specs.Runs.{IsJournal, first_of}
use Rattle.q_node.proofs.run.run_node.Goals as goal

pub returns-in-Err-clause-journal : goal.returns-in-Err-clause-journal
returns-in-Err-clause-journal g c =
    subst (λ (given : Option (List ℕ)).
    IsJournal c.args.setup.now.id (first_of c.args.resumed given) given c.refuse.result.recorder.file c.refuse.result.ending)
    c.recorder-recorder.ensures.file (c.refuse.ensures.journal c.args.setup.now.id _)

pub returns-in-Err-clause-unbegun : goal.returns-in-Err-clause-unbegun
returns-in-Err-clause-unbegun g c fault is =
    subst (IsUnbegun c.args.setup.now.file.now c.args.setup.now.id c.args.setup.now.runners) (sym (c.refuse.ensures.fault fault is))
    (c.unseated.ensures c.args.setup.now.file.now c.args.setup.now.id)
