-- The books of founders.
use Rattle.std.specs.Prelude.{◌≡◌, ◌≢◌, ℕ, true, false, List, Result, Ok, Err}
use Rattle.std.specs.FinMap as fin
use Rattle.sc_members.specs.Members.{Config}
use Rattle.sc_msg.specs.declared.version.Version.{Version}
use Rattle.sc_node.specs.Nodes.{are_founders}
use Rattle.reasons.specs.declared.Reason.TheVariants as reasons
use Rattle.reasons.specs.declared.Reason.{Reason}
use Rattle.q_history.specs.Headline.{BookMap}
use Rattle.q_history.specs.Clusters.{books_with}

-- the books of the founders are given, or they are refused
abbrev pub Founds : Reason → Version → Config → List ℕ → Result BookMap Reason → Type 0
Founds e version c ids (Ok books) = (are_founders ids ≡ true) × (books ≡ books_with version c ids fin.empty ids)
Founds e version c ids (Err f) = f ≢ e → (are_founders ids ≡ false) × (f ≡ reasons.BadFounders)
