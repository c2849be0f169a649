-- What is done to a node's book, and to the messages that wait to be sent, while its lock is held.
use Rattle.std.specs.Prelude.{◌≡◌, ◌≢◌, ℕ, ◌+◌, ◌-◌, ◌^◌, min, ◌==◌, ◌&&◌, Bool, List, [], ◌∷◌, ◌++◌, codes, decimal, Option, None, Result, Ok, Err}
use Rattle.sc_msg.specs.Fault.{IsFault}
use Rattle.sc_msg.specs.Messages.{message_bytes, IsMessage}
use Rattle.sc_msg.specs.declared.message.Message.{Message}
use Rattle.sc_node.specs.declared.answer.Begun.{Begun}
use Rattle.q_desk.specs.declared.completed.Completed.{Completed}
use Rattle.q_book.specs.State.{BookState}
use Rattle.q_book.specs.Books.{asked, delivered, left, stored}
use Rattle.reasons.specs.declared.Reason.TheVariants.{OutOfMemory as memory}
use Rattle.q_book.specs.declared.answer.Asked.{Asked}
use Rattle.q_book.specs.declared.answer.Delivery.{Delivery}
use Rattle.reasons.specs.declared.Reason.{Reason}
use Rattle.q_held.specs.declared.live_node.LossReason.{LossReason}
use Rattle.q_held.specs.declared.live_node.LossReason.TheVariants as lost
use Rattle.q_held.specs.declared.losses.LossCounts.{LossCounts}
use Rattle.q_held.specs.declared.losses.Unsent.{Unsent}

-- the book and what waits are as they were
abbrev pub IsSame : BookState → List Message → BookState → List Message → Type 0
IsSame b had c has = (c ≡ b) × (has ≡ had)

-- the message is delivered, what it ended is answered, and what the book gives waits behind what waited; or the book
-- refuses it
abbrev pub Delivers : Message → BookState → List Message → Result (Option Completed) LossReason → BookState → List Message → Type 0
Delivers m b had (Ok ended) c has = (a : Delivery) × (delivered b m ≡ Ok (a, c)) × (ended ≡ a.completed) × (has ≡ had ++ a.outs)
Delivers m b had (Err (lost.Book f)) c has = IsSame b had c has × (f ≢ memory → delivered b m ≡ Err f)
Delivers m b had (Err e) c has = ⊥

-- the bytes spell a message of the book's version, which is delivered or which the book refuses; or they spell none; or
-- memory ran out
abbrev pub Hears : List ℕ → BookState → List Message → Result (Option Completed) LossReason → BookState → List Message → Type 0
Hears bytes b had (Err (lost.Bytes f)) c has = IsSame b had c has × IsFault b.version bytes f
Hears bytes b had (Err lost.OutOfMemory) c has = IsSame b had c has
Hears bytes b had result c has = (m : Message) × IsMessage b.version m × (bytes ≡ message_bytes b.version m) × Delivers m b had result c has

-- the store begins, and what the book gives waits behind what waited; or it is refused
abbrev pub Stores : List ℕ → BookState → List Message → Result ℕ Reason → BookState → List Message → Type 0
Stores value b had (Ok tag) c has = (a : Begun) × (stored b value ≡ Ok (a, c)) × (tag ≡ a.tag) × (has ≡ had ++ a.outs)
Stores value b had (Err f) c has = IsSame b had c has × (f ≢ memory → stored b value ≡ Err f)

-- the query begins, and what the book gives waits behind what waited; or it is refused
abbrev pub Asks : ℕ → ℕ → BookState → List Message → Result ℕ Reason → BookState → List Message → Type 0
Asks program start b had (Ok query) c has = (a : Asked) × (asked b program start ≡ Ok (a, c)) × (query ≡ a.query) × (has ≡ had ++ a.begun.outs)
Asks program start b had (Err f) c has = IsSame b had c has × (f ≢ memory → asked b program start ≡ Err f)

-- the node leaves for good, and what the book gives waits behind what waited; or that is refused
abbrev pub Leaves : BookState → List Message → Result (Unit {0}) Reason → BookState → List Message → Type 0
Leaves b had (Ok u) c has = (outs : List Message) × (left b ≡ Ok (outs, c)) × (has ≡ had ++ outs)
Leaves b had (Err f) c has = IsSame b had c has × (f ≢ memory → left b ≡ Err f)

-- ---- datagrams that changed nothing

abbrev pub no_losses : LossCounts
no_losses = record { bytes = 0; book = 0; memory = 0 }

-- a sum, up to the greatest value
abbrev pub sum_of : ℕ → ℕ → ℕ
sum_of m n = min (m + n) (2 ^ 64 - 1)

-- one datagram more
abbrev pub with_one : LossCounts → LossReason → LossCounts
with_one l (lost.Bytes f) = record l { bytes = sum_of l.bytes 1 }
with_one l (lost.Book f) = record l { book = sum_of l.book 1 }
with_one l lost.OutOfMemory = record l { memory = sum_of l.memory 1 }

-- after a datagram that may have changed nothing
abbrev pub counted : Result (Option Completed) LossReason → LossCounts → LossCounts
counted (Ok ended) l = l
counted (Err e) l = with_one l e

-- what it ended
abbrev pub ended_by : Result (Option Completed) LossReason → Option Completed
ended_by (Ok ended) = ended
ended_by (Err e) = None

-- An empty datagram is a bell: it ends and changes nothing. Any other is heard, and counted where it changes nothing.
abbrev pub Receives : List ℕ → BookState → List Message → LossCounts → Option Completed → BookState → List Message → LossCounts → Type 0
Receives [] b had l ended c has k = IsSame b had c has × (ended ≡ None) × (k ≡ l)
Receives (byte ∷ bytes) b had l ended c has k =
    (r : Result (Option Completed) LossReason) × Hears (byte ∷ bytes) b had r c has × (ended ≡ ended_by r) × (k ≡ counted r l)

abbrev pub together : LossCounts → LossCounts → LossCounts
together l k = record { bytes = sum_of l.bytes k.bytes; book = sum_of l.book k.book; memory = sum_of l.memory k.memory }

-- the line that tells them, without the line feed
abbrev pub losses_text : LossCounts → List ℕ
losses_text l =
    codes "refused datagrams: "
    ++ (decimal l.bytes ++ (codes " that spell no message, " ++ (decimal l.book ++ (codes " by books, " ++ (decimal l.memory ++ codes " for want of memory")))))

-- ---- what was not sent

abbrev pub no_unsent : Unsent
no_unsent = record { sends = 0; messages = 0 }

abbrev pub both_unsent : Unsent → Unsent → Unsent
both_unsent a b = record { sends = sum_of a.sends b.sends; messages = sum_of a.messages b.messages }

abbrev pub is_all_sent : Unsent → Bool
is_all_sent a = a.sends == 0 && a.messages == 0

-- the line that tells it, without the line feed
abbrev pub unsent_text : Unsent → List ℕ
unsent_text a =
    codes "not sent: " ++ (decimal a.sends ++ (codes " datagrams that failed, " ++ (decimal a.messages ++ codes " messages that have no bytes")))
