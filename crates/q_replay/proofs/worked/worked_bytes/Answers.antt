-- A third version is told by no byte, and a post begins its own bytes.
use Rattle.std.proofs.Common.{◌≡◌, rules, arith, [], sym, append-nil}
use Rattle.sc_msg.specs.declared.version.Version.{Version}
use Rattle.sc_msg.specs.declared.version.Version.TheVariants.{First, Second}
use Rattle.sc_msg.specs.Values.{version_byte}
use Rattle.q_replay.specs.Spelling.{event_bytes, IsWritten}
use Rattle.q_replay.specs.declared.raw_entry.RawEntry.TheVariants.{Post}
use Rattle.q_replay.proofs.worked.worked_bytes.Goals as goal

no_third : (version : Version) → 3 ≡ version_byte version → ⊥
no_third First e = omega (arith, e)
no_third Second e = omega (arith, e)

is_written : (version : Version) → IsWritten version (Post 0 1 3)
is_written version = search rules

pub returns-clause-another_version : goal.returns-clause-another_version
returns-clause-another_version c = λ h rest more e. no_third h.version (cc)

pub returns-clause-post_is_there : goal.returns-clause-post_is_there
returns-clause-post_is_there c = λ version h. h.none (Post 0 1 3) [] (is_written version) (sym (append-nil (event_bytes version (Post 0 1 3))))
