-- What goes again, for how long, at which looks, and to whom.
use Rattle.std.specs.Prelude.{◌≡◌, ℕ, ◌+◌, ◌-◌, ◌^◌, min, Bool, true, false, not, ◌&&◌, nat_le, is_some, List, [], ◌∷◌, map, filter, Option, Some, None, if◌then◌else◌}
use Rattle.std.specs.FinMap as fin
use Rattle.std.specs.FinSet as set
use Rattle.std.specs.Int.{is_power_of_two}
use Rattle.std.specs.List.{flat_map}
use Rattle.forms.specs.Lists.{Among}
use Rattle.sc_msg.specs.Lengths.{fits}
use Rattle.sc_msg.specs.declared.message.Body.{Body}
use Rattle.sc_msg.specs.declared.message.Body.TheVariants.{Enter, Join, Leave, Store, CollectQuery}
use Rattle.sc_msg.specs.declared.message.Message.{Message}
use Rattle.sc_msg.specs.declared.version.Version.{Version}
use Rattle.sc_operations.specs.Sessions.{querying, storing}
use Rattle.sc_operations.specs.declared.session.Phase.{Phase}
use Rattle.sc_node.specs.State.{NodeState}
use Rattle.q_kept.specs.Letters.{Addressed, Spells, message_to}
use Rattle.q_kept.specs.declared.letter.Letter.{Letter}
use Rattle.q_kept.specs.declared.question.Question.{Question}

-- the messages that go again: what operations ask, and what a node tells of itself
abbrev pub goes_again : Body → Bool
goes_again Enter = true
goes_again Join = true
goes_again Leave = true
goes_again (Store s) = true
goes_again (CollectQuery tag) = true
goes_again b = false

-- a message that was just given
abbrev pub new_question : Message → Question
new_question m = record { message = m; looks = 0 }

-- ---- for how long

-- the phase of an operation of the node that waits for answers to the message
abbrev pub asking_phase : NodeState → Body → Option Phase
asking_phase n (Store s) = storing (fin.get n.sessions s.tag)
asking_phase n (CollectQuery tag) = querying (fin.get n.sessions tag)
asking_phase n b = None

-- the last look at which a join and a leave go again: the third of 1, 2, 4
abbrev pub last_look : ℕ
last_look = 4

-- What an operation asks is kept while its phase is open, an enter until the node has joined, and neither once the node
-- has left; a join and a leave are kept for three times.
abbrev pub is_kept : NodeState → ℕ → Body → Bool
is_kept n looks Enter = not n.gone && not n.joined
is_kept n looks Join = nat_le looks last_look
is_kept n looks Leave = nat_le looks last_look
is_kept n looks b = not n.gone && is_some (asking_phase n b)

-- the questions that are kept
abbrev pub kept_questions : NodeState → List Question → List Question
kept_questions n questions = filter (λ (q : Question). is_kept n q.looks q.message.body) questions

-- after a look
abbrev pub looked_at : Question → Question
looked_at q = record { message = q.message; looks = min (q.looks + 1) (2 ^ 32 - 1) }

-- ---- to whom

-- those of these nodes that the phase has not counted
abbrev pub uncounted : Option Phase → List ℕ → List ℕ
uncounted None nodes = []
uncounted (Some p) nodes = filter (λ (id : ℕ). not (set.contains p.counted id)) nodes

-- what an operation asks goes to each of these nodes that it has not counted; what the node tells of itself to all
abbrev pub targets : NodeState → List ℕ → Body → List (Option ℕ)
targets n nodes Enter = None ∷ []
targets n nodes Join = None ∷ []
targets n nodes Leave = None ∷ []
targets n nodes b = map Some (uncounted (asking_phase n b) nodes)

-- ---- at which looks

-- a question is due after 1, 2, 4, 8 .. looks, if it has bytes in the version
abbrev pub is_due : Version → Question → Bool
is_due version q = is_power_of_two q.looks && fits version q.message

-- what goes of a question at this look
abbrev pub due_of : Version → NodeState → List ℕ → Question → List Addressed
due_of version n nodes q = if is_due version q then map (message_to q.message) (targets n nodes q.message.body) else []

-- what goes again at this look, in turn
abbrev pub due : Version → NodeState → List ℕ → List Question → List Addressed
due version n nodes questions = flat_map (due_of version n nodes) (kept_questions n questions)

-- ---- what that means for each letter

-- what a node tells of itself
abbrev pub tells : Body → Bool
tells Enter = true
tells Join = true
tells Leave = true
tells b = false

-- one of these nodes is asked, which the phase that waits for answers has not counted; or all are told of the node
abbrev pub IsFor : NodeState → List ℕ → Body → Option ℕ → Type 0
IsFor n nodes b (Some id) = Among id nodes × (p : Phase) × (asking_phase n b ≡ Some p) × (set.contains p.counted id ≡ false)
IsFor n nodes b None = tells b ≡ true

-- a letter of a message that was given before, is kept and is due, for whom it is
pub record GoesAgain (version : Version) (n : NodeState) (nodes : List ℕ) (questions : List Question) (l : Letter) : Type 0 where
  pub question : Question
  pub given : Among question questions
  pub kept : is_kept n question.looks question.message.body ≡ true
  pub due : is_due version question ≡ true
  pub to : IsFor n nodes question.message.body l.to
  pub spelled : Spells version (message_to question.message l.to) l
