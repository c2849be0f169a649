use Rattle.indexmap.specs.IndexMap.{get}
use Rattle.sc_world.specs.Records.{AreDistinct}
use Rattle.q_nodes.proofs.Filing.{same_key, AreFiledBelow}
use Rattle.q_nodes.proofs.ops_by_tag.OpsByTag.of.Given as goal

abbrev pub invariant-loop-place : goal.invariant-loop-place
invariant-loop-place l = AreDistinct l.ops → AreFiledBelow l.ops l.place (get same_key l.by_tag)
