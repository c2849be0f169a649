-- What an open operation asks after a message, it asked already, or the node's answer to that message has it.
use Rattle.std.proofs.Common.{◌≡◌, ℕ, Bool, true, false, cond, ◌==◌, Option, Some, None, refl, sym, subst, inl, inr, ◌⊎◌}
use Rattle.std.proofs.lemmas.Bool.{eqb-true}
use Rattle.std.specs.Ordering.{nat_cmp}
use Rattle.std.specs.FinMap as fin
use Rattle.forms.specs.Lists.{Among}
use Rattle.sc_msg.specs.declared.message.Body.{Body}
use Rattle.sc_msg.specs.declared.message.Body.TheVariants.{StoreAck, CollectReply}
use Rattle.sc_operations.specs.declared.progress.Advance.{Advance}
use Rattle.sc_operations.specs.declared.progress.Advance.TheVariants as advance
use Rattle.sc_operations.specs.declared.progress.Progress.{Progress}
use Rattle.sc_operations.specs.declared.session.Phase.{Phase}
use Rattle.sc_operations.specs.declared.session.Session.{Session}
use Rattle.sc_operations.specs.declared.session.Session.TheVariants as session
use Rattle.sc_operations.specs.Sessions.{counted, count_sender, is_reached, advanced_by, ends, storing, sessions_after, ack_progress}
use Rattle.sc_node.specs.State.{NodeState}
use Rattle.sc_node.specs.Nodes.{progress_of, answers, store_of, store_back}
use Rattle.sc_world.proofs.Links.{session_moved}
use Rattle.sc_world.proofs.Handlers.{get-sessions_after}
use Rattle.q_held.specs.Resumed.{asked_in}

module _ (x : Body) where
  -- an operation that counts one more sender asks the same
  counted_asks : (tag from : ℕ) (s : Session) → Among x (asked_in tag (Some (counted s from))) → Among x (asked_in tag (Some s))
  counted_asks tag from (session.Store e b) a = a
  counted_asks tag from (session.Querying p) a = a
  counted_asks tag from (session.StoringBack p b) a = a

  -- a collect that turns to storing back asks what the node sends for it; any other asks the same
  advanced_asks : (tag from : ℕ) (a : Advance) (s : Session) → Among x (asked_in tag (cond (ends a) None (Some (advanced_by from a s))))
      → Among x (asked_in tag (Some s)) ⊎ Among x (store_of tag a)
  advanced_asks tag from advance.Ended s h = absurd h
  advanced_asks tag from advance.Counted s h = inl (counted_asks tag from s h)
  advanced_asks tag from (advance.Turned next view) (session.Querying p) h = inr h
  advanced_asks tag from (advance.Turned next view) (session.Store e b) h = inl h
  advanced_asks tag from (advance.Turned next view) (session.StoringBack p b) h = inl h

  moved_asks : (p : Progress) (o : Option Session) → Among x (asked_in p.tag (session_moved p o))
      → Among x (asked_in p.tag o) ⊎ Among x (store_of p.tag p.advance)
  moved_asks p None h = absurd h
  moved_asks p (Some s) h = advanced_asks p.tag p.sender p.advance s h

  tag_asks : (p : Progress) (tag : ℕ) (o : Option Session) (b : Bool) → (tag == p.tag) ≡ b → Among x (asked_in tag (cond b (session_moved p o) o))
      → Among x (asked_in tag o) ⊎ Among x (store_of p.tag p.advance)
  tag_asks p tag o false is h = inl h
  tag_asks p tag o true is h =
      let same : tag ≡ p.tag = eqb-true tag p.tag is in
      elim (moved_asks p o (subst (λ (t : ℕ). Among x (asked_in t (session_moved p o))) same h)) [
        | inl l ↦ inl (subst (λ (t : ℕ). Among x (asked_in t o)) (sym same) l)
        | inr r ↦ inr r
      ]

  sessions_ask : (m : fin.FinMap nat_cmp Session) (p : Option Progress) (tag : ℕ) → Among x (asked_in tag (fin.get (sessions_after m p) tag))
      → Among x (asked_in tag (fin.get m tag)) ⊎ Among x (store_back p)
  sessions_ask m None tag h = inl h
  sessions_ask m (Some p) tag h =
      tag_asks p tag (fin.get m tag) (tag == p.tag) refl (subst (λ (o : Option Session). Among x (asked_in tag o)) (get-sessions_after m (Some p) tag) h)

  -- ---- the answers have what is stored back

  ack_ends : (reached : Bool) (tag : ℕ) → Among x (store_of tag (cond reached advance.Ended advance.Counted)) → ⊥
  ack_ends true tag h = h
  ack_ends false tag h = h

  -- an acknowledgement makes no operation store back
  ack_back : (mine : Bool) (from tag : ℕ) (o : Option Phase) → Among x (store_back (cond mine (ack_progress from tag o) None)) → ⊥
  ack_back false from tag o h = h
  ack_back true from tag None h = h
  ack_back true from tag (Some p) h = ack_ends (is_reached (count_sender p from)) tag h

  back_answered : (n : NodeState) (from : ℕ) (b : Body) → Among x (store_back (progress_of n from b)) → Among x (answers n from b)
  back_answered n from (StoreAck a) h = absurd (ack_back (a.to == n.id) from a.tag (storing (fin.get n.sessions a.tag)) h)
  back_answered n from (CollectReply r) h = h
  back_answered n from b h = absurd h

  pub operation_asks : (n : NodeState) (from : ℕ) (b : Body) (tag : ℕ)
      → Among x (asked_in tag (fin.get (sessions_after n.sessions (progress_of n from b)) tag))
      → Among x (asked_in tag (fin.get n.sessions tag)) ⊎ Among x (answers n from b)
  operation_asks n from b tag h = elim (sessions_ask n.sessions (progress_of n from b) tag h) [
    | inl l ↦ inl l
    | inr r ↦ inr (back_answered n from b r)
  ]
