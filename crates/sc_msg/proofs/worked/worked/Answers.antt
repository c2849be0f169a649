-- worked: what the definitions say of kinds, of the messages by which node 3 enters and tells that node 7 joined or
-- that it knows of no store, of the values that messages tell, and of bytes that are none.
use Rattle.std.proofs.Common.{ℕ, List, [], ◌++◌, ap}
use Rattle.sc_view.specs.declared.view.Stored.{Stored}
use Rattle.sc_view.proofs.MapLemmas.{entries_rising}
use Rattle.sc_msg.specs.Entries.{list_bytes, view_layout}
use Rattle.spelling.specs.Numbers.{number_bytes}
use Rattle.sc_msg.specs.declared.kind.MessageKind.TheVariants.{StoreEcho}
use Rattle.sc_msg.specs.declared.version.Version.{Version}
use Rattle.sc_msg.specs.declared.version.Version.TheVariants.{First, Second}
use Rattle.sc_msg.specs.Messages.{head_bytes}
use Rattle.sc_msg.proofs.worked.worked.Goals as goal

-- the bytes by which node 3 tells a view of these entries
abbrev told : Version → List (ℕ × Stored) → List ℕ
told version es = head_bytes version StoreEcho 3 ++ (list_bytes (view_layout version) es ++ [])

pub returns-clause-store_echo : goal.returns-clause-store_echo
unfolding number_bytes
returns-clause-store_echo c = ap (told First) (entries_rising [] tt)

pub returns-clause-second_store_echo : goal.returns-clause-second_store_echo
unfolding number_bytes
returns-clause-second_store_echo c = ap (told Second) (entries_rising [] tt)
