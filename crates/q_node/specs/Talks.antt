-- How a conversation at the console goes.
use Rattle.std.specs.Prelude.{◌≡◌, ℕ, List, [], ◌++◌, Option, Some, None, Result, Ok, Err}
use Rattle.std.specs.Io.KnownBytes.{Appends}
use Rattle.q_outside.specs.Counts.{one_more}
use Rattle.q_node.specs.Console.{Converses, IsSaidTo}
use Rattle.q_node.specs.Runs.{IsFront, resumed_line}
use Rattle.q_node.specs.declared.console.Command.{Command}
use Rattle.q_node.specs.declared.console.Command.TheVariants as command
use Rattle.q_node.specs.declared.console.Said.{Said}
use Rattle.q_node.specs.declared.front.Front.{Front}
use Rattle.q_node.specs.declared.front.Resumption.{Resumption}
use Rattle.q_node.specs.declared.talk_end.Talk.{Talk}
use Rattle.q_node.specs.declared.talk_end.Talk.TheVariants as talk

-- the line of a node that comes back; nothing of one that begins
abbrev pub resumption_text : Option Resumption → List ℕ
resumption_text None = []
resumption_text (Some r) = resumed_line r.events r.cut

-- what is printed before the console's lines are obeyed, without the feed at its end
abbrev pub front_text : Front → List ℕ
front_text f = resumption_text f.resumption ++ f.greeting.now

-- something is said to each command but that to end
abbrev pub Obeys : ℕ → Command → Option Said → Type 0
Obeys node c (Some said) = IsSaidTo node c said
Obeys node c None = c ≡ command.End

-- what is said to commands was written; or a write failed
abbrev pub Tells : {E : Type 0} → ℕ → Option (List ℕ) → Result (Unit {0}) E → Option (List ℕ) → Type 0
Tells node before (Ok u) after = Converses node before after
Tells node before (Err e) after = (part : List ℕ) × Appends before after part

-- the same behind the line that tells where the node hears
abbrev pub Greets : {E : Type 0} → ℕ → List ℕ → Option (List ℕ) → Result (Unit {0}) E → Option (List ℕ) → Type 0
Greets node greeting before (Ok u) after = (front : List ℕ) × IsFront node greeting front × Appends before after front
Greets node greeting before (Err e) after = (part : List ℕ) × Appends before after part

-- the same; or nothing was written, since the threads could not be started
abbrev pub Talks : ℕ → List ℕ → Option (List ℕ) → Talk → Option (List ℕ) → Type 0
Talks node greeting before talk.Ended after = (front : List ℕ) × IsFront node greeting front × Appends before after front
Talks node greeting before talk.Unstarted after = after ≡ before
Talks node greeting before talk.Unwritten after = (part : List ℕ) × Appends before after part

-- a write failed where it ends so, and no other
abbrev pub talk_count : Talk → ℕ → ℕ
talk_count talk.Unwritten n = one_more n
talk_count t n = n
