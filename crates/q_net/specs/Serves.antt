-- What serving requests does, over a reader and a writer by the bytes that are known of them.
use Rattle.std.specs.Prelude.{◌≡◌, ◌⊎◌, ℕ, Bool, true, false, List, [], ◌∷◌, ◌++◌, Option, Some, None, Result, Ok, Err}
use Rattle.std.specs.List.{AllByRecursion}
use Rattle.std.specs.Io.KnownBytes.{Appends, Consumes}
use Rattle.sc_msg.specs.declared.message.Message.{Message}
use Rattle.sc_msg.specs.declared.version.Version.{Version}
use Rattle.q_book.specs.State.{BookState}
use Rattle.q_outside.specs.declared.fault.TransportFailed.{TransportFailed}
use Rattle.q_net.specs.declared.request.Request.{Request}
use Rattle.q_net.specs.declared.request.StreamEnd.{StreamEnd}
use Rattle.q_net.specs.declared.replies.Reply.{Reply}
use Rattle.q_net.specs.Requests.{spelling, spellings, IsRequest, IsStop, IsRead}
use Rattle.q_net.specs.Replies.{reply_bytes, stop_number, Replies}

-- Requests, one after the other, are replied to with these bytes, send these messages and lead from one book to
-- another.
abbrev pub Serves : BookState → List Request → List ℕ → List Message → BookState → Type 0
Serves b [] bytes sent c = (bytes ≡ []) × (sent ≡ []) × (c ≡ b)
Serves b (r ∷ rs) bytes sent c =
    (said : Reply) × (outs : List Message) × (between : BookState) × (later : List ℕ) × (behind : List Message)
    × Replies b r said outs between × Serves between rs later behind c × (bytes ≡ reply_bytes said ++ later) × (sent ≡ outs ++ behind)

-- how the requests to a book of that version ended: their input did, or they stopped before
abbrev pub IsLast : Version → List ℕ → Option StreamEnd → Type 0
IsLast version last None = last ≡ []
IsLast version last (Some stop) = IsStop version last stop

abbrev pub last_reply : Option StreamEnd → List ℕ
last_reply None = []
last_reply (Some stop) = stop_number stop ∷ []

-- All was served: the input begins with the bytes of requests and how they ended, what was written is the replies to
-- them one after the other, the book is the one after them, and their messages were put behind those that were there.
pub record IsServed (input left before after : Option (List ℕ)) (b c : BookState) (had has : List Message) : Type 0 where
  pub requests : List Request
  pub legal : AllByRecursion (IsRequest b.version) requests
  pub ended : Option StreamEnd
  pub last : List ℕ
  pub is_last : IsLast b.version last ended
  pub consumed : Consumes input left (spellings requests ++ last)
  pub read : IsRead left ended
  pub replies : List ℕ
  pub messages : List Message
  pub serves : Serves b requests replies messages c
  pub written : Appends before after (replies ++ last_reply ended)
  pub grown : has ≡ had ++ messages

-- what was done of a request at hand where a read or a write fails: nothing, or all but that its reply was not written
-- whole
abbrev pub IsAtHand : Version → List ℕ → BookState → BookState → List Message → List Message → Type 0
IsAtHand version read b c had has =
    ((c ≡ b) × (has ≡ had))
    ⊎ ((r : Request) × (said : Reply) × (outs : List Message) × IsRequest version r × (read ≡ spelling r) × Replies b r said outs c × (has ≡ had ++ outs))

-- A read or a write failed: some requests were served whole; the book is the one after them, with or without the one
-- at hand, and the messages are just those of the requests that it took.
pub record IsBroken (input left before after : Option (List ℕ)) (b c : BookState) (had has : List Message) : Type 0 where
  pub requests : List Request
  pub legal : AllByRecursion (IsRequest b.version) requests
  pub rest : List ℕ
  pub consumed : Consumes input left (spellings requests ++ rest)
  pub replies : List ℕ
  pub messages : List Message
  pub between : BookState
  pub serves : Serves b requests replies messages between
  pub part : List ℕ
  pub written : Appends before after (replies ++ part)
  pub at_hand : IsAtHand b.version rest between c (had ++ messages) has

abbrev pub IsEnd : Result (Unit {0}) TransportFailed → Option (List ℕ) → Option (List ℕ) → Option (List ℕ)
    → Option (List ℕ) → BookState → BookState → List Message → List Message → Type 0
IsEnd (Ok u) input left before after b c had has = IsServed input left before after b c had has
IsEnd (Err e) input left before after b c had has = IsBroken input left before after b c had has

-- ---- one turn

-- requests of that version go on after one, which was replied to; or they ended
abbrev pub IsTaken : Version → Option (List ℕ) → Option (List ℕ) → Option (List ℕ) → Option (List ℕ) → BookState
    → BookState → List Message → List Message → Bool → Type 0
IsTaken version input left before after b c had has true =
    (r : Request) × (said : Reply) × (outs : List Message) × IsRequest version r × Consumes input left (spelling r) × Replies b r said outs c
    × (has ≡ had ++ outs) × Appends before after (reply_bytes said)
IsTaken version input left before after b c had has false =
    (ended : Option StreamEnd) × (last : List ℕ) × IsLast version last ended × Consumes input left last
    × IsRead left ended × Appends before after (last_reply ended)
    × (c ≡ b) × (has ≡ had)

-- the same; or a read or a write failed
abbrev pub IsTurn : {E : Type 0} → Version → Option (List ℕ) → Option (List ℕ) → Option (List ℕ) → Option (List ℕ)
    → BookState → BookState → List Message → List Message → Result Bool E → Type 0
IsTurn version input left before after b c had has (Ok on) = IsTaken version input left before after b c had has on
IsTurn version input left before after b c had has (Err e) =
    (read : List ℕ) × (part : List ℕ) × Consumes input left read × Appends before after part × IsAtHand version read b c had has
