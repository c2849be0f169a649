-- first_unit_begins: at unit 0 of a text an instruction begins.
use Rattle.bq_flow.proofs.Units.{first_begins}
use Rattle.bq_flow.proofs.laws.first_unit_begins.Goals as goal

pub returns : goal.returns
returns c = λ text t. first_begins text t.some
