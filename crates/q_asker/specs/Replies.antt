-- The replies that a request may have, and what is read of an input that begins with one, or with none.
use Rattle.std.specs.Prelude.{◌≡◌, ℕ, ◌<◌, ◌^◌, List, ◌++◌, Option, Some, None, Result, Ok, Err}
use Rattle.std.specs.Io.KnownBytes.{Consumes}
use Rattle.reasons.specs.Table.{number}
use Rattle.reasons.specs.declared.Reason.{Reason}
use Rattle.q_net.specs.Replies.{reply_bytes}
use Rattle.q_net.specs.declared.replies.Reply.{Reply}
use Rattle.q_net.specs.declared.replies.Reply.TheVariants as reply
use Rattle.q_net.specs.declared.request.Request.{Request}
use Rattle.q_net.specs.declared.request.Request.TheVariants as request
use Rattle.q_asker.specs.declared.replies.ReplyKind.{ReplyKind}
use Rattle.q_asker.specs.declared.replies.ReplyKind.TheVariants as kind

-- the number of a reason
abbrev pub IsRefusal : ℕ → Type 0
IsRefusal n = (why : Reason) × (number why ≡ n)

-- the replies of a kind, and refusals
abbrev pub CanBe : ReplyKind → Reply → Type 0
CanBe kind (reply.Refused n) = IsRefusal n
CanBe kind.Program (reply.Program program) = program < 2 ^ 32
CanBe kind.Number (reply.Number n) = n < 2 ^ 64
CanBe kind.Answer reply.Open = Unit {0}
CanBe kind.Answer (reply.Answer acc steps) = (acc < 2 ^ 64) × (steps < 2 ^ 64)
CanBe kind said = ⊥

-- the kind of the replies to a request
abbrev pub expected : Request → ReplyKind
expected (request.Register text notes) = kind.Program
expected (request.Ask program start) = kind.Number
expected (request.Store value) = kind.Number
expected (request.StoreOf value) = kind.Number
expected (request.Answer query) = kind.Answer

-- the request may have this reply
abbrev pub MayReply : Request → Reply → Type 0
MayReply r said = CanBe (expected r) said

-- what was read: the bytes of a reply of that kind, which is answered; or some bytes, and nothing is answered
abbrev pub Hears : {E : Type 0} → ReplyKind → Option (List ℕ) → Option (List ℕ) → Result (Option Reply) E → Type 0
Hears kind input left (Ok (Some said)) = CanBe kind said × Consumes input left (reply_bytes said)
Hears kind input left (Ok None) = (part : List ℕ) × Consumes input left part
Hears kind input left (Err e) = (part : List ℕ) × Consumes input left part

-- ---- behind the first bytes of a reply

-- no reply of that kind stands at the front of these bytes and of the input behind them
abbrev pub BeginsNone : ReplyKind → List ℕ → Option (List ℕ) → Type 0
BeginsNone kind front None = Unit {0}
BeginsNone kind front (Some bytes) =
    (said : Reply) (rest : List ℕ) → CanBe kind said → front ++ bytes ≡ reply_bytes said ++ rest → ⊥

-- behind these bytes those were read that complete a reply of that kind; or no reply stands there
abbrev pub HearsBehind : {E : Type 0} → ReplyKind → List ℕ → Option (List ℕ) → Option (List ℕ) → Result (Option Reply) E
    → Type 0
HearsBehind kind front input left (Ok (Some said)) =
    CanBe kind said × ((bytes : List ℕ) × Consumes input left bytes × (reply_bytes said ≡ front ++ bytes))
HearsBehind kind front input left (Ok None) = BeginsNone kind front input × ((part : List ℕ) × Consumes input left part)
HearsBehind kind front input left (Err e) = (part : List ℕ) × Consumes input left part
