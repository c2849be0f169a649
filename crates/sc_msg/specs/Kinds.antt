-- The kinds of messages, by their names and by their bytes.
use Rattle.std.specs.Prelude.{ℕ, List, [], ◌∷◌, Option, find, nat_eq, codes}
use Rattle.sc_msg.specs.declared.message.Body.{Body}
use Rattle.sc_msg.specs.declared.message.Body.TheVariants as bodies
use Rattle.sc_msg.specs.declared.kind.MessageKind.{MessageKind}
use Rattle.sc_msg.specs.declared.kind.MessageKind.TheVariants.{Enter, EnterEcho, Join, JoinEcho, Leave, LeaveEcho, Store, StoreAck, StoreEcho, CollectQuery, CollectReply}

abbrev pub kind_of : Body → MessageKind
kind_of bodies.Enter = Enter
kind_of (bodies.EnterEcho e) = EnterEcho
kind_of bodies.Join = Join
kind_of (bodies.JoinEcho about) = JoinEcho
kind_of bodies.Leave = Leave
kind_of (bodies.LeaveEcho about) = LeaveEcho
kind_of (bodies.Store s) = Store
kind_of (bodies.StoreAck a) = StoreAck
kind_of (bodies.StoreEcho view) = StoreEcho
kind_of (bodies.CollectQuery tag) = CollectQuery
kind_of (bodies.CollectReply r) = CollectReply

-- the byte of a kind
abbrev pub code : MessageKind → ℕ
code Enter = 1
code EnterEcho = 2
code Join = 3
code JoinEcho = 4
code Leave = 5
code LeaveEcho = 6
code Store = 7
code StoreAck = 8
code StoreEcho = 9
code CollectQuery = 10
code CollectReply = 11

abbrev pub all_kinds : List MessageKind
all_kinds = Enter ∷ EnterEcho ∷ Join ∷ JoinEcho ∷ Leave ∷ LeaveEcho ∷ Store ∷ StoreAck ∷ StoreEcho ∷ CollectQuery ∷ CollectReply ∷ []

-- the kind of a byte, if there is one
abbrev pub kind_at : ℕ → Option MessageKind
kind_at byte = find (λ k. nat_eq (code k) byte) all_kinds

-- the word by which a kind is printed
abbrev pub name_of : MessageKind → List ℕ
name_of Enter = codes "enter"
name_of EnterEcho = codes "enter-echo"
name_of Join = codes "join"
name_of JoinEcho = codes "join-echo"
name_of Leave = codes "leave"
name_of LeaveEcho = codes "leave-echo"
name_of Store = codes "store"
name_of StoreAck = codes "store-ack"
name_of StoreEcho = codes "store-echo"
name_of CollectQuery = codes "collect-query"
name_of CollectReply = codes "collect-reply"
