-- What is said at the console of a node.
use Rattle.std.specs.Prelude.{◌≡◌, ◌⊎◌, ℕ, Bool, true, false, List, [], ◌∷◌, ◌++◌, length, codes, Option, Ok, Err}
use Rattle.std.specs.Fmt.{decimal}
use Rattle.std.specs.List.{AllByRecursion, flat_map}
use Rattle.std.specs.Io.KnownBytes.{Appends}
use Rattle.std.specs.FinMap as fin
use Rattle.reasons.specs.declared.Reason.{Reason}
use Rattle.reasons.specs.declared.Reason.TheVariants as reasons
use Rattle.sc_members.specs.Members.{present}
use Rattle.sc_msg.specs.declared.message.Message.{Message}
use Rattle.q_told.specs.declared.refusal.RefusalPlace.TheVariants.{Untold}
use Rattle.q_book.specs.State.{BookState}
use Rattle.q_held.specs.LiveNodes.{Leaves}
use Rattle.q_told.specs.Line.{line_of}
use Rattle.q_book.specs.Replays.{IsBookOf}
use Rattle.q_node.specs.declared.status.Status.{Status}
use Rattle.q_node.specs.declared.console.Command.{Command}
use Rattle.q_node.specs.declared.console.Command.TheVariants as command
use Rattle.q_node.specs.declared.console.Said.{Said}
use Rattle.q_node.specs.declared.console.Said.TheVariants as said

-- ---- the lines that are read

-- the command of a line, without the feed at its end
abbrev pub command_of : List ℕ → Command → Type 0
command_of line command.Status = line ≡ codes "status"
command_of line command.Leave = line ≡ codes "leave"
command_of line command.End = line ≡ codes "end"
command_of line command.Unknown = (line ≡ codes "status" → ⊥) × (line ≡ codes "leave" → ⊥) × (line ≡ codes "end" → ⊥)

-- ---- what is said

-- what the status of a book tells
abbrev pub status_of : BookState → Status
status_of b = record {
  joined = b.node.joined;
  present = present b.node.facts;
  events = length b.desk.journal;
  queries = length b.desk.queries;
  underway = fin.len b.node.sessions;
}

-- the most events and the most queries of a book
abbrev pub most_events : ℕ
most_events = 65536

abbrev pub most_queries : ℕ
most_queries = 4096

abbrev pub truth : Bool → List ℕ
truth true = codes "true"
truth false = codes "false"

-- the line of a status
abbrev pub status_line : Status → List ℕ
status_line s =
    codes "status joined " ++ (truth s.joined ++ (codes " present " ++ (decimal s.present
    ++ (codes " events " ++ (decimal s.events ++ (codes " of " ++ (decimal most_events
    ++ (codes " queries " ++ (decimal s.queries ++ (codes " of " ++ (decimal most_queries
    ++ (codes " open " ++ (decimal s.underway ++ 10 ∷ [])))))))))))))

abbrev pub said_line : Said → List ℕ
said_line (said.Status s) = status_line s
said_line said.Done = codes "ok\n"
said_line (said.Refused why) = line_of why Untold

-- ---- what a node says to a command

-- The node left, or its book refuses that; or that it left was not written to its journal, and then the node is mute,
-- or memory ran out.
abbrev pub IsSaidToLeave : ℕ → Said → Type 0
IsSaidToLeave node said.Done =
    (b c : BookState) × (had has : List Message) × IsBookOf node b × Leaves b had (Ok tt) c has
IsSaidToLeave node (said.Refused why) =
    ((b c : BookState) × (had has : List Message) × (f : Reason) × IsBookOf node b × Leaves b had (Err f) c has
    × (why ≡ f))
    ⊎ ((why ≡ reasons.FileFailed) ⊎ (why ≡ reasons.OutOfMemory))
IsSaidToLeave node (said.Status s) = ⊥

abbrev pub IsSaidTo : ℕ → Command → Said → Type 0
IsSaidTo node command.Status (said.Status s) = (b : BookState) × IsBookOf node b × (s ≡ status_of b)
IsSaidTo node command.Leave s = IsSaidToLeave node s
IsSaidTo node command.Unknown s = s ≡ said.Refused reasons.Syntax
IsSaidTo node c s = ⊥

-- this is what the node says to some command
abbrev pub IsSaid : ℕ → Said → Type 0
IsSaid node s = (c : Command) × IsSaidTo node c s

-- what was written at the console: what the node says to commands, in turn
abbrev pub Converses : ℕ → Option (List ℕ) → Option (List ℕ) → Type 0
Converses node before after =
    (all : List Said) × AllByRecursion (IsSaid node) all × Appends before after (flat_map said_line all)
