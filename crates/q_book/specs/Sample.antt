-- A book for worked values.
use Rattle.std.specs.Prelude.{true, false}
use Rattle.std.specs.FinMap as fin
use Rattle.sc_node.specs.State.{NodeState}
use Rattle.q_desk.specs.State.{DeskState}
use Rattle.q_book.specs.State.{BookState}

-- of a node that is there, has joined, has no open operation and has begun five
abbrev pub node_there : NodeState → NodeState
node_there n = record n { joined = true; gone = false; sessions = fin.empty; operations = 5 }

-- of such a node, with this desk
abbrev pub there : BookState → NodeState → DeskState → BookState
there b n d = record b { node = node_there n; desk = d }
