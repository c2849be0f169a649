-- For whom a message is meant, and what it asks for.
use Rattle.std.specs.Prelude.{ℕ, Option, Some, None}
use Rattle.sc_msg.specs.declared.message.Body.{Body}
use Rattle.sc_msg.specs.declared.message.Body.TheVariants.{Store, StoreAck, CollectQuery, CollectReply}

-- the one node that does something with the message, if it is one: the node that asked
abbrev pub addressee_of : Body → Option ℕ
addressee_of (StoreAck a) = Some a.to
addressee_of (CollectReply r) = Some r.to
addressee_of b = None

-- the operation of the sender that waits for answers to the message
abbrev pub asking_tag : Body → Option ℕ
asking_tag (Store s) = Some s.tag
asking_tag (CollectQuery tag) = Some tag
asking_tag b = None
