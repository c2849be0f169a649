-- In every history each node's book is the replay of its journal.
use Rattle.std.proofs.Common.{◌≡◌, ℕ, Bool, true, false, cond, ◌&&◌, List, [], ◌∷◌, Some, refl, sym, ap, ◌∙◌, subst, Result, Ok, Err}
use Rattle.std.specs.Ordering.{nat_cmp}
use Rattle.std.proofs.lemmas.List.Elements.{All-from_recursion}
use Rattle.std.specs.FinSet as set
use Rattle.sc_members.specs.Members.{Config}
use Rattle.sc_msg.specs.declared.version.Version.{Version}
use Rattle.sc_msg.specs.Lengths.{Fits}
use Rattle.sc_node.specs.State.{NodeState}
use Rattle.sc_node.specs.Nodes.{founder, are_founders}
use Rattle.reasons.specs.declared.Reason.{Reason}
use Rattle.reasons.specs.declared.Reason.TheVariants as reasons
use Rattle.sc_world.proofs.Inverts.{no_refusal}
use Rattle.q_book.specs.State.{BookState}
use Rattle.q_book.specs.Replays.{IsFirst, IsReplay}
use Rattle.q_history.specs.declared.event.ClusterEvent.{ClusterEvent}
use Rattle.q_history.specs.Headline.{ClusterState}
use Rattle.q_history.specs.Clusters.{start, started}
use Rattle.q_history.specs.Calls.{Reaches, IsHistory}
use Rattle.q_history.specs.Books.{BooksAreReplays}
use Rattle.q_history.proofs.Founders.{founder_book, IsFounder, every_founder}
use Rattle.q_history.proofs.Kept.{IsAmong, IsKept}
use Rattle.q_history.proofs.EveryHistory.{step_kept, start_kept, every_kept}
use Rattle.q_history.proofs.Called.{event_is}
use Rattle.q_history.proofs.Booked.{AreBooks, Fit, made_books}

run_books : (es : List ClusterEvent) (c d : ClusterState) → IsKept c → AreBooks c → Reaches c es d → AreBooks d
run_books [] c d kept books r = subst AreBooks (sym r) books
run_books (e ∷ es) c d kept books r =
    run_books es r.1 d (step_kept c r.1 e r.0 kept r.2).kept (made_books c kept books r.1 (event_is c e r.0 r.1 r.2)) r.3

module _ (version : Version) (config : Config) (ids : List ℕ) where
  -- a founder's node, where its id may be one
  abbrev node_if : ℕ → Bool → Result NodeState Reason
  node_if id b = cond b (Ok (founder config ids id)) (Err reasons.BadFounders)

  first_founder : (id : ℕ) → are_founders ids ≡ true → IsAmong ids id → IsFirst (founder_book version config ids id) (founder config ids id) (Some ids)
  first_founder id are listed = ap (λ (b : Bool). node_if id (b && set.contains (set.from_list {R = nat_cmp} ids) id)) are ∙ ap (node_if id) listed

  founder_replay : (id : ℕ) (b : BookState) → are_founders ids ≡ true → IsFounder version config ids id b → IsReplay b
  founder_replay id b are f = subst IsReplay f.is (record { first = founder config ids id; begun = first_founder id are f.listed; replayed = refl })

  start_books : are_founders ids ≡ true → AreBooks (start version config ids)
  start_books are = record {
    replays = λ id b at. founder_replay id b are (every_founder version config ids id b at);
    messages = All-from_recursion (Fits version) [] tt;
  }

  founders_are : (b : Bool) → are_founders ids ≡ b
      → (let r : Result ClusterState Reason = cond b (Ok (start version config ids)) (Err reasons.BadFounders) in r) ≡ Ok (start version config ids)
      → are_founders ids ≡ true
  founders_are true is h = is
  founders_are false is h = absurd (no_refusal _ _ h)

  pub every_are : (es : List ClusterEvent) (c : ClusterState) → started version config ids ≡ Ok (start version config ids)
      → Reaches (start version config ids) es c → AreBooks c
  every_are es c begun r =
      run_books es (start version config ids) c (start_kept version config ids) (start_books (founders_are (are_founders ids) refl begun)) r

  pub every_book : (es : List ClusterEvent) (c : ClusterState) → started version config ids ≡ Ok (start version config ids)
      → Reaches (start version config ids) es c → BooksAreReplays c
  every_book es c begun r id b at = ((every_kept version config ids es c r).kept.headed id b at, (every_are es c begun r).replays id b at)

  pub every_message : (es : List ClusterEvent) (c : ClusterState) → started version config ids ≡ Ok (start version config ids)
      → Reaches (start version config ids) es c → Fit version c.past.sent
  every_message es c begun r =
      subst (λ (v : Version). Fit v c.past.sent) (every_kept version config ids es c r).version (every_are es c begun r).messages

pub history_books : (c : ClusterState) → IsHistory c → BooksAreReplays c
history_books c h = every_book c.version c.past.config c.past.founders h.0 c h.2 h.1
