-- How messages that wait are given to be sent.
use Rattle.std.specs.Prelude.{◌≡◌, List, [], ◌∷◌, ◌++◌, map, filter, if◌then◌else◌}
use Rattle.sc_msg.specs.Lengths.{fits}
use Rattle.sc_msg.specs.declared.message.Message.{Message}
use Rattle.sc_msg.specs.declared.version.Version.{Version}
use Rattle.q_held.specs.LiveNodes.{both_unsent, no_unsent}
use Rattle.q_held.specs.declared.losses.Unsent.{Unsent}
use Rattle.q_kept.specs.Letters.{addressed, SpellsAll}
use Rattle.q_kept.specs.Questions.{goes_again, new_question}
use Rattle.q_kept.specs.declared.letter.Letter.{Letter}
use Rattle.q_kept.specs.declared.question.Question.{Question}

-- the messages that wait, what was given and goes again, and what is counted as not sent
pub record Outbox : Type 0 where
  pub waiting : List Message
  pub questions : List Question
  pub unsent : Unsent

abbrev pub outbox : List Message → List Question → Unsent → Outbox
outbox waiting questions unsent = record { waiting = waiting; questions = questions; unsent = unsent }

-- those of these messages that have bytes in the version
abbrev pub fitting : Version → List Message → List Message
fitting version messages = filter (fits version) messages

-- one more for each of these messages that has no bytes in the version
abbrev pub unsent_after : Version → List Message → Unsent → Unsent
unsent_after version [] u = u
unsent_after version (m ∷ messages) u =
    unsent_after version messages (if fits version m then u else both_unsent u (record no_unsent { messages = 1 }))

-- The first messages that waited are done, and the others wait on: the first for which memory is short, and those
-- behind it. Those that are done are given as letters, in turn, but for those that have no bytes in the version, which
-- are counted; those that go again are kept.
pub record Gives (version : Version) (old : Outbox) (letters : List Letter) (new : Outbox) : Type 0 where
  pub done : List Message
  pub parts : old.waiting ≡ done ++ new.waiting
  pub spelled : SpellsAll version (map addressed (fitting version done)) letters
  pub kept : new.questions ≡ old.questions ++ map new_question (filter (λ (m : Message). goes_again m.body) (fitting version done))
  pub counted : new.unsent ≡ unsent_after version done old.unsent

-- the same, where these letters are put behind others
pub record Adds (version : Version) (old : Outbox) (letters : List Letter) (new : Outbox) (letters' : List Letter) : Type 0 where
  pub more : List Letter
  pub added : letters' ≡ letters ++ more
  pub gives : Gives version old more new
