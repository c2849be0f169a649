-- Bytes behind a message.
use Rattle.std.proofs.Common.{◌≡◌, ℕ, ◌≤◌, List, [], ◌∷◌, ◌++◌, length, refl, inr}
use Rattle.sc_msg.specs.declared.message.Message.{Message}
use Rattle.sc_msg.specs.declared.version.Version.{Version}
use Rattle.sc_msg.specs.declared.fault.MessageFault.TheVariants.{Extra}
use Rattle.sc_msg.specs.Messages.{message_bytes, IsMessage}
use Rattle.sc_msg.specs.Fault.{most_bytes, IsFirstFault}

pub extra : (version : Version) {bytes : List ℕ} (after : List ℕ) {message : Message} → length bytes ≤ most_bytes → IsMessage version message
    → bytes ≡ message_bytes version message ++ after → (length after ≡ 0 → ⊥) → IsFirstFault version bytes Extra
extra version [] small legal parts some = absurd (some refl)
extra version (next ∷ after) {message = message} small legal parts some =
    inr (inr (record { small = small; message = message; legal = legal; next = next; rest = after; parts = parts; is = refl }))
