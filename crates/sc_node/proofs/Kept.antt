-- What a node keeps and tells has values of some lengths, where what it is given has.
use Rattle.std.proofs.Common.{◌≡◌, ℕ, Bool, true, false, cond, ◌==◌, List, [], ◌∷◌, ◌++◌, map, length}
use Rattle.std.proofs.Common.{Option, Some, None, Ok, refl, sym, subst, ◌∙◌}
use Rattle.std.specs.List.{All, AllByRecursion}
use Rattle.std.specs.Option.{IfSome}
use Rattle.std.proofs.lemmas.Option.{none-some, same_Some}
use Rattle.std.proofs.lemmas.List.Elements.{All-from_recursion}
use Rattle.std.specs.Ordering.{nat_cmp, eq_by_cmp}
use Rattle.std.specs.Cmp.{nat_cmp_total}
use Rattle.std.specs.FinMap as fin
use Rattle.forms.specs.Calls.{Tests, tested}
use Rattle.forms.proofs.Calls.{same_answer, tested-ok}
use Rattle.sc_view.specs.Values.{Lengths, IsWithin}
use Rattle.sc_view.specs.Views.{ViewMap, HasValuesWithin, merge}
use Rattle.sc_view.proofs.LengthLemmas.{empty_within, put_within, merge_within}
use Rattle.sc_members.specs.Members.{Config, Facts, no_facts, founding, with_entered}
use Rattle.sc_msg.specs.declared.message.Body.{Body}
use Rattle.sc_msg.specs.declared.message.Body.TheVariants.{Enter, EnterEcho, Join, Leave, Store, StoreAck, StoreEcho, CollectQuery, CollectReply}
use Rattle.sc_msg.specs.declared.message.Message.{Message}
use Rattle.sc_msg.specs.Lengths.{BodyHasValuesWithin, MessageHasValuesWithin}
use Rattle.sc_operations.specs.declared.session.Phase.{Phase}
use Rattle.sc_operations.specs.declared.session.Session.{Session}
use Rattle.sc_operations.specs.declared.session.Session.TheVariants as session
use Rattle.sc_operations.specs.declared.progress.Advance.{Advance}
use Rattle.sc_operations.specs.declared.progress.Advance.TheVariants as advance
use Rattle.sc_operations.specs.declared.progress.Progress.{Progress}
use Rattle.sc_node.specs.declared.answer.Begun.{Begun}
use Rattle.sc_node.specs.declared.answer.Delivered.{Delivered}
use Rattle.sc_node.specs.Sessions.{apply, advanced_by, with_phase, open_phase, stored, ends, ended_by}
use Rattle.sc_node.specs.Sessions.{ended_at, ended_with, querying, storing, count_sender, is_reached}
use Rattle.sc_node.specs.State.{NodeState}
use Rattle.sc_node.specs.Nodes.{fresh, founded, entered, store_begun, collect_begun, left, delivered, delivery, node_after, view_after}
use Rattle.sc_node.specs.Nodes.{is_reply, sessions_after, session_moved, ended_session, progress_of, ack_progress, reply_progress, ack_for}
use Rattle.sc_node.specs.Nodes.{reply_for, store_under, answers, store_of, store_back, joins, message_from, beta_threshold, hearing}
use Rattle.sc_node.specs.Nodes.{opening, fitting, leaving, stored_view, store_session, collect_session, next_stored}
use Rattle.sc_node.specs.Lengths.{SessionHasValuesWithin, TableHasValuesWithin, NodeHasValuesWithin, BegunHasValuesWithin, AdvanceHasValuesWithin}
use Rattle.sc_node.specs.Lengths.{ProgressHasValuesWithin, EndedHasValuesWithin, DeliveryHasValuesWithin}

-- a call that passed its tests does this
does : {A E : Type 0} (ts : Tests E) (x y : A) → tested ts (Ok x) ≡ Ok y → x ≡ y
does ts x y is = same_answer x y (tested-ok ts (Ok x) y is).1

-- what is true of both is true of the one that is taken
either : {X : Type 0} (P : X → Type 0) (b : Bool) (x y : X) → P x → P y → P (cond b x y)
either P true x y h k = h
either P false x y h k = k

-- ---- the open operations

module _ (l : Lengths) where
  no_session : TableHasValuesWithin l fin.empty
  no_session = record { at = λ tag o has. absurd (none-some o (sym (fin.get-empty nat_cmp tag) ∙ has)) }

  inserted : (b : Bool) (m : fin.FinMap nat_cmp Session) (q : ℕ) (o p : Session) → TableHasValuesWithin l m → SessionHasValuesWithin l o
      → cond b (Some o) (fin.get m q) ≡ Some p → SessionHasValuesWithin l p
  inserted true m q o p table new is = subst (SessionHasValuesWithin l) (same_Some o p is) new
  inserted false m q o p table new is = table.at q p is

  table_with : (m : fin.FinMap nat_cmp Session) (tag : ℕ) (o : Session) → TableHasValuesWithin l m → SessionHasValuesWithin l o
      → TableHasValuesWithin l (fin.insert m tag o)
  table_with m tag o table new =
      record { at = λ q p has. inserted (eq_by_cmp nat_cmp q tag) m q o p table new (sym (fin.get-insert nat_cmp_total m tag o q) ∙ has) }

  removed : (b : Bool) (m : fin.FinMap nat_cmp Session) (q : ℕ) (p : Session) → TableHasValuesWithin l m → cond b None (fin.get m q) ≡ Some p
      → SessionHasValuesWithin l p
  removed true m q p table is = absurd (none-some p is)
  removed false m q p table is = table.at q p is

  table_without : (m : fin.FinMap nat_cmp Session) (tag : ℕ) → TableHasValuesWithin l m → TableHasValuesWithin l (fin.remove m tag)
  table_without m tag table = record { at = λ q p has. removed (eq_by_cmp nat_cmp q tag) m q p table (sym (fin.get-remove nat_cmp_total m tag q) ∙ has) }

  with_phase_within : (o : Session) (p : Phase) → SessionHasValuesWithin l o → SessionHasValuesWithin l (with_phase o p)
  with_phase_within (session.Store e b) p h = record { kind = h.kind; view = h.view }
  with_phase_within (session.Querying q) p h = record { kind = tt; view = tt }
  with_phase_within (session.StoringBack q b) p h = record { kind = tt; view = h.view }

  advanced : (from : ℕ) (a : Advance) (o : Session) → AdvanceHasValuesWithin l a → SessionHasValuesWithin l o → SessionHasValuesWithin l (advanced_by from a o)
  advanced from (advance.Turned threshold view) (session.Querying p) new h = record { kind = tt; view = new }
  advanced from (advance.Turned threshold view) o new h = h
  advanced from a o new h = with_phase_within o (count_sender (open_phase o) from) h

  moved_at : (m : fin.FinMap nat_cmp Session) (p : Progress) (o : Option Session) → TableHasValuesWithin l m → ProgressHasValuesWithin l p
      → fin.get m p.tag ≡ o → TableHasValuesWithin l (session_moved m p o)
  moved_at m p None table new is = table
  moved_at m p (Some o) table new is =
      let next = advanced p.sender p.advance o new (table.at p.tag o is) in
      either (TableHasValuesWithin l) (ends p.advance) (fin.remove m p.tag) (fin.insert m p.tag (apply p o))
      (table_without m p.tag table) (table_with m p.tag (apply p o) table next)

  table_after : (m : fin.FinMap nat_cmp Session) (p : Option Progress) → TableHasValuesWithin l m → IfSome p (ProgressHasValuesWithin l)
      → TableHasValuesWithin l (sessions_after m p)
  table_after m None table new = table
  table_after m (Some p) table new = moved_at m p (fin.get m p.tag) table new refl

  completed_view : (tag : ℕ) (o : Session) → IfSome (stored o) (HasValuesWithin l) → IfSome (ended_with tag o) (EndedHasValuesWithin l)
  completed_view tag (session.StoringBack q b) view = view
  completed_view tag o view = tt

  ended_at_end : (tag : ℕ) (a : Advance) (o : Option Session) → IfSome o (SessionHasValuesWithin l) → IfSome (ended_at tag a o) (EndedHasValuesWithin l)
  ended_at_end tag advance.Ended (Some o) h = completed_view tag o h.view
  ended_at_end tag advance.Ended None h = tt
  ended_at_end tag advance.Counted o h = tt
  ended_at_end tag (advance.Turned threshold view) o h = tt

  if_there : (m : fin.FinMap nat_cmp Session) (tag : ℕ) (o : Option Session) → TableHasValuesWithin l m → fin.get m tag ≡ o
      → IfSome o (SessionHasValuesWithin l)
  if_there m tag None table is = tt
  if_there m tag (Some o) table is = table.at tag o is

  ended_after : (m : fin.FinMap nat_cmp Session) (p : Option Progress) → TableHasValuesWithin l m
      → IfSome (ended_by p (ended_session m p)) (EndedHasValuesWithin l)
  ended_after m None table = tt
  ended_after m (Some p) table = ended_at_end p.tag p.advance (fin.get m p.tag) (if_there m p.tag (fin.get m p.tag) table refl)

  -- ---- a message

  view_kept : (s : NodeState) (b : Body) → NodeHasValuesWithin l s → BodyHasValuesWithin l b → HasValuesWithin l (view_after s b)
  view_kept s (EnterEcho e) h told = merge_within l s.view e.view h.view told
  view_kept s (Store t) h told = merge_within l s.view t.view h.view told
  view_kept s (StoreEcho v) h told = merge_within l s.view v h.view told
  view_kept s (CollectReply r) h told = either (HasValuesWithin l) (is_reply s r) (merge s.view r.view) s.view (merge_within l s.view r.view h.view told) h.view
  view_kept s b h told = h.view

  acked : (from tag : ℕ) (p : Option Phase) → IfSome (ack_progress from tag p) (ProgressHasValuesWithin l)
  acked from tag None = tt
  acked from tag (Some p) = either (AdvanceHasValuesWithin l) (is_reached (count_sender p from)) advance.Ended advance.Counted tt tt

  replied : (from tag : ℕ) (view : ViewMap) (next : ℕ) (p : Option Phase) → HasValuesWithin l view
      → IfSome (reply_progress from tag view next p) (ProgressHasValuesWithin l)
  replied from tag view next None h = tt
  replied from tag view next (Some p) h = either (AdvanceHasValuesWithin l) (is_reached (count_sender p from)) (advance.Turned next view) advance.Counted h tt

  abbrev IsProgressWithin : Option Progress → Type 0
  IsProgressWithin p = IfSome p (ProgressHasValuesWithin l)

  progress_told : (s : NodeState) (from : ℕ) (b : Body) → NodeHasValuesWithin l s → BodyHasValuesWithin l b
      → IfSome (progress_of s from b) (ProgressHasValuesWithin l)
  progress_told s from (StoreAck a) h told =
      let p = storing (fin.get s.sessions a.tag) in
      either IsProgressWithin (a.to == s.id) (ack_progress from a.tag p) None (acked from a.tag p) tt
  progress_told s from (CollectReply r) h told =
      let p = querying (fin.get s.sessions r.tag) in
      let view : ViewMap = merge s.view r.view in
      either IsProgressWithin (r.to == s.id) (reply_progress from r.tag view (beta_threshold s) p) None
      (replied from r.tag view (beta_threshold s) p (merge_within l s.view r.view h.view told)) tt
  progress_told s from b h told = tt

  stored_back : (p : Option Progress) → IfSome p (ProgressHasValuesWithin l) → AllByRecursion (BodyHasValuesWithin l) (store_back p)
  stored_back None h = tt
  stored_back (Some p) h = by_advance p.tag p.advance h
    where
      by_advance : (tag : ℕ) (a : Advance) → AdvanceHasValuesWithin l a → AllByRecursion (BodyHasValuesWithin l) (store_of tag a)
      by_advance tag (advance.Turned next view) h = (h, tt)
      by_advance tag advance.Counted h = tt
      by_advance tag advance.Ended h = tt

  abbrev AreWithin : List Body → Type 0
  AreWithin bodies = AllByRecursion (BodyHasValuesWithin l) bodies

  answers_told : (s : NodeState) (from : ℕ) (b : Body) → NodeHasValuesWithin l s → BodyHasValuesWithin l b
      → AllByRecursion (BodyHasValuesWithin l) (answers s from b)
  answers_told s from Enter h told = (h.view, tt)
  answers_told s from (EnterEcho e) h told = either AreWithin (joins s from (EnterEcho e)) (Join ∷ []) [] (tt, tt) tt
  answers_told s from Join h told = (tt, tt)
  answers_told s from Leave h told = (tt, tt)
  answers_told s from (Store t) h told =
      either AreWithin s.joined (StoreAck (ack_for from t.tag) ∷ StoreEcho (merge s.view t.view) ∷ []) []
      (tt, (merge_within l s.view t.view h.view told, tt)) tt
  answers_told s from (CollectQuery t) h told = either AreWithin s.joined (CollectReply (reply_for s from t) ∷ []) [] (h.view, tt) tt
  answers_told s from (CollectReply r) h told = stored_back (progress_of s from (CollectReply r)) (progress_told s from (CollectReply r) h told)
  answers_told s from b h told = tt

  messages_of : (id : ℕ) (bs : List Body) → AllByRecursion (BodyHasValuesWithin l) bs → AllByRecursion (MessageHasValuesWithin l) (map (message_from id) bs)
  messages_of id [] h = tt
  messages_of id (b ∷ bs) h = (h.0, messages_of id bs h.1)

  pub outs_of : (id : ℕ) (bs : List Body) → AllByRecursion (BodyHasValuesWithin l) bs → All (MessageHasValuesWithin l) (map (message_from id) bs)
  outs_of id bs h = All-from_recursion (MessageHasValuesWithin l) (map (message_from id) bs) (messages_of id bs h)

  node_kept : (s : NodeState) (from : ℕ) (b : Body) → NodeHasValuesWithin l s → BodyHasValuesWithin l b → NodeHasValuesWithin l (node_after s from b)
  node_kept s from b h told = record {
    view = view_kept s b h told;
    sessions = table_after s.sessions (progress_of s from b) h.sessions (progress_told s from b h told);
  }

  delivery_told : (s : NodeState) (from : ℕ) (b : Body) → NodeHasValuesWithin l s → BodyHasValuesWithin l b → DeliveryHasValuesWithin l (delivery s from b)
  delivery_told s from b h told = record {
    outs = outs_of s.id (answers s from b) (answers_told s from b h told);
    progress = progress_told s from b h told;
    ended = ended_after s.sessions (progress_of s from b) h.sessions;
  }

  pub delivery_kept : (s t : NodeState) (m : Message) (d : Delivered) → NodeHasValuesWithin l s → MessageHasValuesWithin l m
      → delivered s m ≡ Ok (d, t) → NodeHasValuesWithin l t × DeliveryHasValuesWithin l d
  delivery_kept s t m d h told is =
      subst (λ (a : Delivered × NodeState). NodeHasValuesWithin l a.1 × DeliveryHasValuesWithin l a.0)
      (does (hearing s m) _ (d, t) is)
      (node_kept s m.from m.body h told, delivery_told s m.from m.body h told)

  -- ---- the other calls

  stored_within : (s : NodeState) (value : List ℕ) → NodeHasValuesWithin l s → IsWithin (length value) l → HasValuesWithin l (stored_view s value)
  stored_within s value h new = put_within l s.view s.id (next_stored s value) h.view new

  pub store_kept : (s t : NodeState) (value : List ℕ) (b : Begun) → NodeHasValuesWithin l s → IsWithin (length value) l
      → store_begun s value ≡ Ok (b, t) → NodeHasValuesWithin l t × BegunHasValuesWithin l b
  store_kept s t value b h new is =
      let view = stored_within s value h new in
      let session : SessionHasValuesWithin l (store_session s value) = record { kind = new; view = view } in
      subst (λ (a : Begun × NodeState). NodeHasValuesWithin l a.1 × BegunHasValuesWithin l a.0)
      (does (opening s ++ fitting (stored_view s value)) _ (b, t) is) (
        record { view = view; sessions = table_with s.sessions s.operations (store_session s value) h.sessions session },
        record { session = session; outs = outs_of s.id (Store (store_under s.operations (stored_view s value)) ∷ []) (view, tt) },
      )

  pub collect_kept : (s t : NodeState) (b : Begun) → NodeHasValuesWithin l s → collect_begun s ≡ Ok (b, t) → NodeHasValuesWithin l t × BegunHasValuesWithin l b
  collect_kept s t b h is =
      let session : SessionHasValuesWithin l (collect_session s) = record { kind = tt; view = tt } in
      subst (λ (a : Begun × NodeState). NodeHasValuesWithin l a.1 × BegunHasValuesWithin l a.0)
      (does (opening s) _ (b, t) is) (
        record { view = h.view; sessions = table_with s.sessions s.operations (collect_session s) h.sessions session },
        record { session = session; outs = outs_of s.id (CollectQuery s.operations ∷ []) (tt, tt) },
      )

  pub leave_kept : (s t : NodeState) (outs : List Message) → NodeHasValuesWithin l s → left s ≡ Ok (outs, t)
      → NodeHasValuesWithin l t × All (MessageHasValuesWithin l) outs
  leave_kept s t outs h is =
      subst (λ (a : List Message × NodeState). NodeHasValuesWithin l a.1 × All (MessageHasValuesWithin l) a.0)
      (does (leaving s) _ (outs, t) is)
      (record { view = h.view; sessions = h.sessions }, outs_of s.id (Leave ∷ []) (tt, tt))

  fresh_kept : (c : Config) (id : ℕ) (f : Facts) (joined : Bool) → NodeHasValuesWithin l (fresh c id f joined)
  fresh_kept c id f joined = record { view = empty_within l; sessions = no_session }

  pub founder_kept : (c : Config) (id : ℕ) (ids : List ℕ) (s : NodeState) → founded c id ids ≡ Ok s → NodeHasValuesWithin l s
  founder_kept c id ids s is = subst (NodeHasValuesWithin l) (does (_ ∷ []) _ s is) (fresh_kept c id (founding ids) true)

  pub entered_kept : (c : Config) (id : ℕ) → NodeHasValuesWithin l (entered c id).0
  entered_kept c id = fresh_kept c id (with_entered no_facts id) false

  pub entered_told : (c : Config) (id : ℕ) → All (MessageHasValuesWithin l) (entered c id).1
  entered_told c id = outs_of id (Enter ∷ []) (tt, tt)
