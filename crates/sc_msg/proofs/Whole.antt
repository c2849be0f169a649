-- A message, and the bytes behind it.
use Rattle.std.proofs.Common.{◌≡◌, ℕ, List, ◌++◌, sym, ap, ◌∙◌}
use Rattle.sc_msg.specs.declared.message.Body.{Body}
use Rattle.sc_msg.specs.declared.kind.MessageKind.{MessageKind}
use Rattle.sc_msg.specs.declared.version.Version.{Version}
use Rattle.sc_msg.specs.Kinds.{kind_of}
use Rattle.sc_msg.specs.Fields.{fields, fields_bytes}
use Rattle.sc_msg.specs.Messages.{head_bytes, message_bytes, ReadsBody}
use Rattle.spelling.proofs.Codes.{parts_on}

pub whole : (version : Version) {bytes rest after : List ℕ} (kind : MessageKind) (from : ℕ) (body : Body)
    → bytes ≡ head_bytes version kind from ++ rest → ReadsBody version kind rest after body
    → bytes ≡ message_bytes version (record { from = from; body = body }) ++ after
whole version {bytes = bytes} {rest = rest} {after = after} kind from body parts read =
    let head = parts ∙ ap (λ k. head_bytes version k from ++ rest) (sym read.kind) in
    parts_on (head_bytes version (kind_of body) from) (fields_bytes (fields version body)) bytes rest after head read.parts
