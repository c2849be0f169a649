-- new_nodes_have_no_value: a law: a new node has no value, so each of its values has one of any lengths; nor has
-- what it sends.
use Rattle.sc_node.proofs.Kept.{founder_kept, entered_kept, entered_told}
use Rattle.sc_node.proofs.laws.new_nodes_have_no_value.Goals as goal

pub returns : goal.returns
returns c = record { founder = founder_kept; entering = entered_kept; says = entered_told }
