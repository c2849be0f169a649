-- A request to a node and its reply: what is written and read.
use Rattle.std.specs.Prelude.{◌≡◌, ℕ, List, Option, Result, Ok, Err}
use Rattle.std.specs.Io.KnownBytes.{Appends, Consumes}
use Rattle.q_net.specs.Replies.{reply_bytes}
use Rattle.q_net.specs.Requests.{spelling}
use Rattle.q_net.specs.declared.replies.Reply.{Reply}
use Rattle.q_net.specs.declared.request.Request.{Request}
use Rattle.q_asker.specs.Replies.{MayReply}
use Rattle.q_asker.specs.declared.connection.ExchangeFault.{ExchangeFault}
use Rattle.q_asker.specs.declared.connection.ExchangeFault.TheVariants.{OutOfMemory}

-- The request's bytes were written, and those of the reply that is answered were read. Where memory ran out nothing
-- was; at another fault some bytes may have been.
abbrev pub Exchanges : Request → Option (List ℕ) → Option (List ℕ) → Option (List ℕ) → Option (List ℕ)
    → Result Reply ExchangeFault → Type 0
Exchanges r sent sending heard hearing (Ok said) =
    MayReply r said × Appends sent sending (spelling r) × Consumes heard hearing (reply_bytes said)
Exchanges r sent sending heard hearing (Err OutOfMemory) = (sending ≡ sent) × (hearing ≡ heard)
Exchanges r sent sending heard hearing (Err fault) =
    ((part : List ℕ) × Appends sent sending part) × ((part : List ℕ) × Consumes heard hearing part)
