-- Where other nodes are: their sockets, or their mailboxes.
use Rattle.std.specs.Prelude.{ℕ, ◌≤◌, ◌==◌, List, Option, option_map, find}
use Rattle.std.specs.declared.net.socket_addr.SocketAddr.{SocketAddr}
use Rattle.q_outside.specs.declared.udp.Peer.{Peer}

-- the address that was told first of the node with this id
abbrev pub address_of : List Peer → ℕ → Option SocketAddr
address_of peers id = option_map (λ (p : Peer). p.address) (find (λ (p : Peer). p.id == id) peers)

-- of so many mailboxes one is that of the node
abbrev pub HasMailbox : ℕ → ℕ → Type 0
HasMailbox mailboxes node = (1 ≤ node) × (node ≤ mailboxes)
