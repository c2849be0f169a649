-- Datagrams: what is sent, and what is heard.
use Rattle.std.specs.Prelude.{◌≡◌, ◌⊎◌, ℕ, ◌≤◌, ◌<◌, ◌==◌, List, ◌++◌, length, take, drop, find, option_map, Option, Some, IsSome}
use Rattle.std.specs.Int.{w64, to_le_bytes}
use Rattle.std.specs.declared.net.socket_addr.SocketAddr.{SocketAddr}
use Rattle.spelling.specs.Numbers.{first_number}
use Rattle.q_script.specs.declared.node_line.NodeLine.{NodeLine}
use Rattle.q_doors.specs.declared.post.Received.{Received}
use Rattle.q_doors.specs.declared.post.Received.TheVariants.{Message, Stranger, Nothing}

-- the number of the run, lowest byte first, and a message's bytes
abbrev pub framed : ℕ → List ℕ → List ℕ
framed number message = to_le_bytes w64 number ++ message

-- the id that stands behind the first four bytes of a message
abbrev pub sender_in : List ℕ → ℕ
sender_in message = first_number 8 (drop 4 message)

-- the address of the first node with this id
abbrev pub address_of : List NodeLine → ℕ → Option SocketAddr
address_of nodes id = option_map (λ (n : NodeLine). n.address) (find (λ (n : NodeLine). n.id == id) nodes)

-- The datagram is heard, with this message: it is of the run with this number, and came from the address of the sender
-- that the message names.
pub record IsAdmitted (number : ℕ) (nodes : List NodeLine) (from : SocketAddr) (datagram message : List ℕ) : Type 0 where
  pub frame : datagram ≡ framed number message
  pub long : 12 ≤ length message
  pub place : address_of nodes (sender_in message) ≡ Some from

-- the bytes name one of these nodes as their sender
abbrev pub IsFrom : List NodeLine → List ℕ → Type 0
IsFrom nodes message = IsSome (address_of nodes (sender_in message))

-- what a datagram is which fills so many bytes of a buffer, and what the buffer holds then
abbrev pub IsReceived : ℕ → List NodeLine → SocketAddr → ℕ → List ℕ → List ℕ → Received → Type 0
IsReceived number nodes from len old new (Message n) = (len < length old) × (n ≤ len) × IsAdmitted number nodes from (take len old) (take n new)
IsReceived number nodes from len old new Stranger = (length old ≤ len) ⊎ ((m : List ℕ) → IsAdmitted number nodes from (take len old) m → ⊥)
IsReceived number nodes from len old new Nothing = ⊥

-- a message is no longer than a buffer
abbrev pub Fits : ℕ → Received → Type 0
Fits room (Message n) = n ≤ room
Fits room Stranger = Unit {0}
Fits room Nothing = Unit {0}

-- this holds of the bytes of a message that begin a buffer
abbrev pub OnMessage : (List ℕ → Type 0) → List ℕ → Received → Type 0
OnMessage P buffer (Message n) = P (take n buffer)
OnMessage P buffer Stranger = Unit {0}
OnMessage P buffer Nothing = Unit {0}
