-- A table of nodes, seen as a finite map.
use Rattle.std.proofs.Common.{◌≡◌, ℕ, Bool, true, false, not, cond, List, Option, Some, None, is_some, Bor, refl, sym, ap, subst, ◌∙◌, Result, Ok, Err}
use Rattle.std.specs.Ordering.{nat_cmp}
use Rattle.std.specs.Option.{option_copied}
use Rattle.std.specs.FinMap as fin
use Rattle.std.specs.BTreeMap.{is_at}
use Rattle.forms.proofs.Maps.{found, get_found, one_written}
use Rattle.sc_operations.proofs.Tables.{unchanged}
use Rattle.sc_node.specs.State.{NodeState}
use Rattle.sc_world.specs.declared.act.Report.{Report}
use Rattle.reasons.specs.declared.Reason.{Reason}
use Rattle.reasons.specs.declared.Reason.TheVariants as reasons
use Rattle.sc_world.specs.Worlds.{Outcome, live, by_live}
use Rattle.sc_world.specs.Acts.{Acts, ActsAt}

pub is_some-copied : {X : Type 0} (r : Option (Bor X)) → is_some r ≡ is_some (option_copied r)
is_some-copied None = refl
is_some-copied (Some x) = refl

pub live_some : (crashed : Bool) (o : Option NodeState) (n : NodeState) → crashed ≡ false → Some n ≡ o → not n.gone ≡ is_some (live crashed o)
live_some crashed o n up at =
    by_gone n.gone ∙ ap (λ (c : Bool). is_some (live c (Some n))) (sym up) ∙ ap (λ (x : Option NodeState). is_some (live crashed x)) at
  where
    by_gone : (b : Bool) → not b ≡ is_some (let x : Option NodeState = cond b None (Some n) in x)
    by_gone true = refl
    by_gone false = refl

pub live_none : (crashed : Bool) (o : Option NodeState) → None ≡ o → false ≡ is_some (live crashed o)
live_none true o at = refl
live_none false o at = ap (λ (x : Option NodeState). is_some (live false x)) at

live_found : (crashed : Bool) (o : Option NodeState) (n : NodeState) → true ≡ is_some (live crashed o) → Some n ≡ o → live crashed o ≡ Some n
live_found true o n is at = absurd (cc)
live_found false o n is at = sym (ap (live false) at) ∙ by_gone n.gone (is ∙ sym (ap (λ (x : Option NodeState). is_some (live false x)) at))
  where
    by_gone : (b : Bool) → true ≡ is_some (let x : Option NodeState = cond b None (Some n) in x)
        → (let x : Option NodeState = cond b None (Some n) in x) ≡ Some n
    by_gone true h = absurd (cc)
    by_gone false h = refl

-- what the entries of a table have of an id is what its nodes have
pub get_of : (old : fin.FinMap nat_cmp NodeState) (id : ℕ) (es : List (ℕ × NodeState)) → fin.from_entries es ≡ old → found es id ≡ fin.get old id
get_of old id es is = sym (get_found es id) ∙ ap (λ (m : fin.FinMap nat_cmp NodeState). fin.get m id) is

module _ (es fs : List (ℕ × NodeState)) (old : fin.FinMap nat_cmp NodeState) (id : ℕ) (crashed : Bool) (f : NodeState → Result Outcome Reason) (n : NodeState)
    (is : fin.from_entries es ≡ old) (at : Some n ≡ found es id) (up : true ≡ is_some (live crashed (fin.get old id))) where
  at_old : Some n ≡ fin.get old id
  at_old = at ∙ get_of old id es is

  lives : live crashed (fin.get old id) ≡ Some n
  lives = live_found crashed (fin.get old id) n up at_old

  said : by_live (live crashed (fin.get old id)) f ≡ f n
  said = ap (λ (o : Option NodeState). by_live o f) lives

  written : (n' : NodeState) → ((q : ℕ) → found fs q ≡ cond (is_at (nat_cmp id) q) (Some n') (found es q)) → fin.from_entries fs ≡ fin.insert old id n'
  written n' writes = one_written es fs id n' writes ∙ ap (λ (m : fin.FinMap nat_cmp NodeState). fin.insert m id n') is

  -- a node of a table acts
  pub acts_at : (n' : NodeState) (r : Result Report Reason) → Acts (f n) n n' r → ((q : ℕ) → found fs q ≡ cond (is_at (nat_cmp id) q) (Some n') (found es q))
      → ActsAt (by_live (live crashed (fin.get old id)) f) old (fin.from_entries fs) id r
  acts_at n' (Ok r) h writes = (n', said ∙ h, written n' writes)
  acts_at n' (Err e) h writes = (
    unchanged es fs id n at (subst (λ (x : NodeState). (q : ℕ) → found fs q ≡ cond (is_at (nat_cmp id) q) (Some x) (found es q)) h.0 writes) ∙ is,
    λ no. said ∙ h.1 no,
  )

-- there is no such node
pub no_node : (old : fin.FinMap nat_cmp NodeState) (id : ℕ) (crashed : Bool) (f : NodeState → Result Outcome Reason) (es : List (ℕ × NodeState))
    → fin.from_entries es ≡ old → None ≡ found es id → by_live (live crashed (fin.get old id)) f ≡ Err reasons.NoSuchNode
no_node old id crashed f es is at = ap (λ (o : Option NodeState). by_live (live crashed o) f) (sym (at ∙ get_of old id es is)) ∙ by_crash crashed
  where
    by_crash : (c : Bool) → by_live (live c None) f ≡ Err reasons.NoSuchNode
    by_crash true = refl
    by_crash false = refl
