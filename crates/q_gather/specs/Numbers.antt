-- The numbers of messages, by their bytes.
use Rattle.std.specs.Prelude.{◌≡◌, ℕ, ◌<◌, bytes_eq, List, [], ◌∷◌, ◌++◌, Option, Some, None, is_some, slice_get, if◌then◌else◌}
use Rattle.sc_msg.specs.declared.message.Message.{Message}
use Rattle.sc_msg.specs.Messages.{message_bytes, IsMessage}
use Rattle.sc_msg.specs.declared.version.Version.TheVariants.{Second}

-- bytes with their numbers
abbrev pub NumberList : Type 0
NumberList = List (List ℕ × ℕ)

-- the number of bytes, where they have one
abbrev pub number_of : List ℕ → NumberList → Option ℕ
number_of bytes [] = None
number_of bytes (e ∷ es) = if bytes_eq bytes e.0 then Some e.1 else number_of bytes es

-- bytes that have no number get this one
abbrev pub added : List ℕ → ℕ → NumberList → NumberList
added bytes number es = if is_some (number_of bytes es) then es else es ++ (bytes, number) ∷ []

-- the least number at which the message was sent, or none where it was not
abbrev pub IsLeastNumber : List Message → Message → Option ℕ → Type 0
IsLeastNumber sent m None = (k : ℕ) → slice_get sent k ≡ Some m → ⊥
IsLeastNumber sent m (Some n) = (slice_get sent n ≡ Some m) × ((k : ℕ) → k < n → slice_get sent k ≡ Some m → ⊥)

-- these are the least numbers of the messages that were sent, by their bytes in the second version: there each has some
abbrev pub AreNumbers : List Message → NumberList → Type 0
AreNumbers sent es = (m : Message) → IsMessage Second m → IsLeastNumber sent m (number_of (message_bytes Second m) es)
