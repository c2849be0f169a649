-- The steps of a run: what each sends, hears and prints.
use Rattle.std.specs.Prelude.{◌≡◌, ◌≢◌, ℕ, ◌≤◌, Bool, true, false, List, [], ◌∷◌, ◌++◌, codes, replicate, Option}
use Rattle.std.specs.Fmt.{decimal}
use Rattle.std.specs.Io.KnownBytes.{Appends, Consumes}
use Rattle.std.specs.List.{flat_map, list_all}
use Rattle.reasons.specs.Table.{number}
use Rattle.reasons.specs.declared.Reason.{Reason}
use Rattle.q_told.specs.Line.{line_of, unanswered_line}
use Rattle.q_told.specs.declared.refusal.RefusalPlace.{RefusalPlace}
use Rattle.q_told.specs.declared.refusal.RefusalPlace.TheVariants.{Untold}
use Rattle.q_net.specs.Replies.{reply_bytes}
use Rattle.q_net.specs.Requests.{spelling}
use Rattle.q_net.specs.declared.replies.Reply.{Reply}
use Rattle.q_net.specs.declared.replies.Reply.TheVariants as reply
use Rattle.q_net.specs.declared.request.Request.{Request}
use Rattle.q_net.specs.declared.request.Request.TheVariants as request
use Rattle.q_outside.specs.declared.counted.Counted.{Counted}
use Rattle.q_asker.specs.Makes.{IsMemory, Makes, MakesNone}
use Rattle.q_asker.specs.Replies.{MayReply}
use Rattle.q_asker.specs.declared.connection.Connection.{Connection}
use Rattle.q_asker.specs.declared.script.ClientLine.{ClientLine}
use Rattle.q_asker.specs.declared.script.ClientLine.TheVariants as line

-- ---- what a reply tells

abbrev pub spaced : ℕ → List ℕ
spaced n = 32 ∷ decimal n

-- a word, numbers, each behind a space, and the line's end
abbrev pub told_line : List ℕ → List ℕ → List ℕ
told_line word numbers = word ++ (flat_map spaced numbers ++ 10 ∷ [])

-- the word before the number of a query or the tag of a store
abbrev pub number_word : Request → List ℕ
number_word (request.Ask program start) = codes "query"
number_word r = codes "store"

-- the query whose answer is asked for
abbrev pub query_of : Request → ℕ
query_of (request.Answer query) = query
query_of r = 0

-- the line that a reply to a request tells; that a query has no answer yet tells nothing
abbrev pub Tells : Request → Reply → List ℕ → Type 0
Tells r (reply.Program program) text = text ≡ told_line (codes "program") (program ∷ [])
Tells r (reply.Number n) text = text ≡ told_line (number_word r) (n ∷ [])
Tells r reply.Open text = text ≡ []
Tells r (reply.Answer acc steps) text = text ≡ told_line (codes "answer") (query_of r ∷ acc ∷ steps ∷ [])
Tells r (reply.Refused n) text = (why : Reason) × (number why ≡ n) × (text ≡ line_of why Untold)

-- ---- steps

-- no request was made of a line, for this reason; or a request was made, and had this reply; or a query was given up
pub data Step : Type 0 where
  Unmade : Reason → RefusalPlace → Step
  Exchanged : Request → Reply → Step
  GaveUp : Step

-- the bytes that a step writes to the node
abbrev pub sent_by : Step → List ℕ
sent_by (Exchanged r said) = spelling r
sent_by s = []

-- the bytes that it reads of the node
abbrev pub heard_by : Step → List ℕ
heard_by (Exchanged r said) = reply_bytes said
heard_by s = []

-- what it prints
abbrev pub StepTells : Step → List ℕ → Type 0
StepTells (Unmade why at) text = text ≡ line_of why at
StepTells (Exchanged r said) text = Tells r said text
StepTells GaveUp text = text ≡ unanswered_line

-- what steps print, one after the other
abbrev pub StepsTell : List Step → List ℕ → Type 0
StepsTell [] text = text ≡ []
StepsTell (s ∷ ss) text =
    (mine : List ℕ) × (later : List ℕ) × StepTells s mine × StepsTell ss later × (text ≡ mine ++ later)

-- what the node was sent, what it has still to say, and what was printed, as far as that is known
pub record Streams : Type 0 where
  pub sent : Option (List ℕ)
  pub heard : Option (List ℕ)
  pub printed : Option (List ℕ)

-- these, over a connection and an output, by what is known of a reader, a writer and the output
abbrev pub streams : {R W O : Type 0} → (R → Option (List ℕ)) → (W → Option (List ℕ)) → (O → Option (List ℕ))
    → Connection R W → Counted O → Streams
streams remaining contents shown connection out = record {
  sent = contents connection.requests.inner;
  heard = remaining connection.replies.inner;
  printed = shown out.inner;
}

-- these steps were done: all that they send, hear and print, and nothing else
pub record Moves (steps : List Step) (before after : Streams) : Type 0 where
  pub sends : Appends before.sent after.sent (flat_map sent_by steps)
  pub hears : Consumes before.heard after.heard (flat_map heard_by steps)
  pub text : List ℕ
  pub tells : StepsTell steps text
  pub prints : Appends before.printed after.printed text

-- ---- the steps of a line

-- the question for the answer of a query, which has none yet
abbrev pub open_look : ℕ → Step
open_look query = Exchanged (request.Answer query) reply.Open

abbrev pub most_looks : ℕ
most_looks = 1000

-- how the looks for an answer end behind so many at which it was open: something else is said, or the query is given up
abbrev pub IsLastLook : ℕ → ℕ → Step → Type 0
IsLastLook query n (Unmade why at) = IsMemory why at
IsLastLook query n (Exchanged r said) = (r ≡ request.Answer query) × MayReply r said × (said ≢ reply.Open)
IsLastLook query n GaveUp = 1 ≤ n

-- an answer is asked for until it is no longer open, so many times at most
abbrev pub AreLooks : ℕ → List Step → Type 0
AreLooks query steps =
    (n : ℕ) × (last : Step) × (n ≤ most_looks) × IsLastLook query n last
    × (steps ≡ replicate n (open_look query) ++ last ∷ [])

-- what follows the reply to the request of a line: of a query its looks
abbrev pub Follows : ClientLine → Reply → List Step → Type 0
Follows (line.Ask program start) (reply.Number query) steps = AreLooks query steps
Follows l said steps = steps ≡ []

-- the steps of a line: its request, and what follows the reply; or that none was made
abbrev pub AreOf : ClientLine → List Step → Type 0
AreOf l (Unmade why at ∷ steps) = MakesNone l why at × (steps ≡ [])
AreOf l (Exchanged r said ∷ steps) = Makes l r × MayReply r said × Follows l said steps
AreOf l steps = ⊥

-- the steps of lines, one after the other
abbrev pub AreOfAll : List ClientLine → List Step → Type 0
AreOfAll [] steps = steps ≡ []
AreOfAll (l ∷ ls) steps =
    (mine : List Step) × (later : List Step) × AreOf l mine × AreOfAll ls later × (steps ≡ mine ++ later)

-- these steps are the first of those of lines
abbrev pub BeginAll : List ClientLine → List Step → Type 0
BeginAll lines steps = (more : List Step) × AreOfAll lines (steps ++ more)

-- ---- whether all was done

abbrev pub is_done_reply : Reply → Bool
is_done_reply (reply.Refused n) = false
is_done_reply said = true

-- nothing was refused or given up
abbrev pub is_done : Step → Bool
is_done (Exchanged r said) = is_done_reply said
is_done s = false

abbrev pub all_done : List Step → Bool
all_done steps = list_all is_done steps
