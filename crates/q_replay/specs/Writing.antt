-- A journal that is being written.
use Rattle.std.specs.Prelude.{ℕ, List, ◌++◌}
use Rattle.sc_msg.specs.declared.version.Version.{Version}

-- its version, and the bytes so far
pub record JournalBytes : Type 0 where
  pub version : Version
  pub bytes : List ℕ

-- more bytes stand behind these
abbrev pub with_more : JournalBytes → List ℕ → JournalBytes
with_more j more = record j { bytes = j.bytes ++ more }
