-- push_value: puts the bytes of a value behind what is there.
use Rattle.std.proofs.Common.{◌<◌, List, ℕ, subst}
use Rattle.std.specs.List.{All}
use Rattle.sc_msg.proofs.encoder.push_value.Goals as goal

pub returns-clause-bytes : goal.returns-clause-bytes
returns-clause-bytes c = subst (λ (x : List ℕ). All (λ b. b < 256) x) c.bytes-bytes.ensures.exact c.bytes-bytes.ensures.fit

pub returns-in_err-push_length-clause-bytes : goal.returns-in_err-push_length-clause-bytes
returns-in_err-push_length-clause-bytes c = subst (λ (x : List ℕ). All (λ b. b < 256) x) c.bytes-bytes.ensures.exact c.bytes-bytes.ensures.fit
