-- Why the books of founders are refused.
use Rattle.std.proofs.Common.{◌≡◌, ◌≢◌, ℕ, Bool, true, false, cond, ◌&&◌, List, refl, sym, Result, Ok, Err}
use Rattle.std.specs.Ordering.{nat_cmp}
use Rattle.std.specs.FinSet as set
use Rattle.sc_members.specs.Members.{Config}
use Rattle.sc_msg.specs.declared.version.Version.{Version}
use Rattle.sc_node.specs.State.{NodeState}
use Rattle.sc_node.specs.Nodes.{founder, are_founders}
use Rattle.reasons.specs.declared.Reason.{Reason}
use Rattle.reasons.specs.declared.Reason.TheVariants as reasons
use Rattle.q_book.specs.Books as book
use Rattle.q_cluster.specs.Founders.{Founds}

module _ (version : Version) (c : Config) (ids : List ℕ) (x : ℕ) (f : Reason) where
  refused_by : (a b : Bool) → are_founders ids ≡ a → b ≡ true
      → book.founds version x c ids (let r : Result NodeState Reason = cond (a && b) (Ok (founder c ids x)) (Err reasons.BadFounders) in r) ≡ Err f
      → (are_founders ids ≡ false) × (f ≡ reasons.BadFounders)
  refused_by a false is has h = absurd (cc)
  refused_by true true is has h = absurd (cc)
  refused_by false true is has h = let e : reasons.BadFounders ≡ f = cc in (is, sym e)

  -- the refusal of one founder is that of all
  pub found_refused : set.contains (set.from_list {R = nat_cmp} ids) x ≡ true → (f ≢ reasons.OutOfMemory → book.founded version c x ids ≡ Err f)
      → Founds reasons.OutOfMemory version c ids (Err f)
  found_refused has h loud = refused_by (are_founders ids) (set.contains (set.from_list {R = nat_cmp} ids) x) refl has (h loud)
