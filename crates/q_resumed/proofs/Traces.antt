-- What a book still asks is given by a step of its trace.
use Rattle.std.proofs.Common.{◌≡◌, ℕ, suc, false, List, [], ◌∷◌, ◌++◌, Option, Some, None, refl, sym, ap, ◌∙◌, subst, inl, inr, ◌⊎◌, slice_get}
use Rattle.std.specs.Prelude.{Contains}
use Rattle.forms.specs.Lists.{Among}
use Rattle.sc_msg.specs.declared.message.Body.{Body}
use Rattle.sc_msg.specs.declared.message.Body.TheVariants.{Enter}
use Rattle.sc_msg.specs.declared.message.Message.{Message}
use Rattle.sc_node.specs.State.{NodeState}
use Rattle.sc_node.specs.Nodes.{message_from}
use Rattle.q_desk.specs.declared.journal.Entry.{Entry}
use Rattle.q_desk.proofs.Changes.{Told}
use Rattle.q_book.specs.State.{BookState}
use Rattle.q_book.specs.Books.{new_book}
use Rattle.q_book.specs.Replays.{Follows, IsFirst, IsReplay}
use Rattle.q_book.specs.Sends.{sends}
use Rattle.q_book.proofs.Followed.{Deed, Leaves, Collects, Stores, Delivers, Idles, NodeDid, deed, told, follows-accepted}
use Rattle.q_gather.specs.Merging.{Step}
use Rattle.q_gather.specs.Traces.{step_of, IsTraceFrom, entering, IsTrace}
use Rattle.q_gather.specs.Beginnings.{IsGivenBy}
use Rattle.q_gather.proofs.Lists.{get_contains}
use Rattle.q_gather.proofs.Tracing.{trace_some}
use Rattle.q_held.specs.Resumed.{bodies_asked, still_asked}
use Rattle.q_resumed.proofs.Among.{among_map, among_place}
use Rattle.q_resumed.proofs.Calls.{AsksNothingNew, left_asks, collect_asks, store_asks, deliver_asks, idle_asks}
use Rattle.q_resumed.proofs.Firsts.{AsksAtFirst, founder_asks, entered_asks}

-- ---- one entry

did_ask : (o : Option (List ℕ)) (b : BookState) (x : Deed) (t : Told) (later : NodeState) → b.node.gone ≡ false → NodeDid b x t later
    → AsksNothingNew o b.node t.outs later
did_ask o b Leaves t later there d = subst (λ (z : Told). AsksNothingNew o b.node z.outs later) d.2 (left_asks o b.node d.0 later d.1)
did_ask o b Collects t later there d = subst (λ (z : Told). AsksNothingNew o b.node z.outs later) d.2 (collect_asks o b.node there d.0 later d.1)
did_ask o b (Stores value) t later there d =
    subst (λ (z : Told). AsksNothingNew o b.node z.outs later) d.2 (store_asks o b.node there value d.0 later d.1)
did_ask o b (Delivers m) t later there d =
    subst (λ (z : Told). AsksNothingNew o b.node z.outs later) d.2 (deliver_asks o b.node there m d.0 later d.1)
did_ask o b Idles t later there d = subst (λ (z : Told). AsksNothingNew o b.node z.outs later) d.1 (idle_asks o b.node later d.0)

entry_asks : (o : Option (List ℕ)) (b c : BookState) (e : Entry) → Follows b e c → AsksNothingNew o b.node (sends b e) c.node
entry_asks o b c e f =
    let a = follows-accepted b e c f in
    subst (λ (outs : List Message). AsksNothingNew o b.node outs c.node) a.sent (did_ask o b (deed b e c f) (told b e c f) c.node a.there a.node)

-- ---- steps that give a message

-- a step in the list gives the message
pub record IsGivenIn (steps : List (Step Message)) (m : Message) : Type 0 where
  pub place : ℕ
  pub step : Step Message
  pub at : slice_get steps place ≡ Some step
  pub gives : Contains step.gives m

given_first : (s : Step Message) (steps : List (Step Message)) (m : Message) → Among m s.gives → IsGivenIn (s ∷ steps) m
given_first s steps m a =
    let p = among_place s.gives m a in
    record { place = 0; step = s; at = refl; gives = get_contains s.gives p.0 m p.1 }

given_later : (s : Step Message) (steps : List (Step Message)) (m : Message) → IsGivenIn steps m → IsGivenIn (s ∷ steps) m
given_later s steps m g = record { place = suc g.place; step = g.step; at = g.at; gives = g.gives }

-- ---- all entries

module _ (o : Option (List ℕ)) (id : ℕ) (x : Body) where
  from_asks : (es : List Entry) (b c : BookState) (steps : List (Step Message)) → IsTraceFrom b es steps c → b.node.id ≡ id
      → Among x (bodies_asked o c.node) → Among x (bodies_asked o b.node) ⊎ IsGivenIn steps (message_from id x)
  from_asks [] b c steps t named h = inl (subst (λ (d : BookState). Among x (bodies_asked o d.node)) t.1 h)
  from_asks (e ∷ es) b c steps t named h =
      let a = entry_asks o b t.0 e t.1 in
      let is = sym t.3 in
      elim (from_asks es t.0 c t.2 t.4 (a.stays ∙ named) h) [
        | inl between ↦ elim (a.asked x between) [
          | inl before ↦ inl before
          | inr sent ↦
              inr (subst (λ (s : List (Step Message)). IsGivenIn s (message_from id x)) is
              (given_first (step_of b e) t.2 (message_from id x) (subst (λ (i : ℕ). Among (message_from i x) (sends b e)) named sent)))
        ]
        | inr given ↦
            inr (subst (λ (s : List (Step Message)). IsGivenIn s (message_from id x)) is (given_later (step_of b e) t.2 (message_from id x) given))
      ]

-- what the node says before its first event
abbrev said_first : Option (List ℕ) → List Body
said_first (Some ids) = []
said_first None = Enter ∷ []

first_asks : (b : BookState) (n : NodeState) (o : Option (List ℕ)) → IsFirst b n o → AsksAtFirst b.id o (said_first o) n
first_asks b n (Some ids) h = founder_asks b.config b.id ids n h
first_asks b n None h = entered_asks b.config b.id n h

-- a node that enters says so in the first step
first_given : (b : BookState) (o : Option (List ℕ)) (rest : List (Step Message)) (x : Body) → Among x (said_first o)
    → IsGivenIn (entering b o ++ rest) (message_from b.id x)
first_given b (Some ids) rest x a = absurd a
first_given b None rest x (inl e) =
    given_first _ rest (message_from b.id x) (inl (ap (message_from b.id) e))
first_given b None rest x (inr a) = absurd a

rest_given : (b : BookState) (o : Option (List ℕ)) (rest : List (Step Message)) (m : Message) → IsGivenIn rest m → IsGivenIn (entering b o ++ rest) m
rest_given b (Some ids) rest m g = g
rest_given b None rest m g = given_later _ rest m g

body_given : (b : BookState) (steps : List (Step Message)) → IsTrace b steps → (x : Body) → Among x (bodies_asked b.founders b.node)
    → IsGivenIn steps (message_from b.id x)
body_given b steps t x h =
    let first = first_asks b t.first b.founders t.begun in
    let start = new_book b.version b.id b.config b.founders t.first in
    subst (λ (s : List (Step Message)). IsGivenIn s (message_from b.id x)) (sym t.is)
    (elim (from_asks b.founders b.id x b.desk.journal start b t.rest t.trace first.named h) [
      | inl before ↦ first_given b b.founders t.rest x (first.asks x before)
      | inr given ↦ rest_given b b.founders t.rest (message_from b.id x) given
    ])

pub asked_given : (b : BookState) (m : Message) → IsReplay b → Among m (still_asked b) → IsGivenBy m b
asked_given b m r a =
    let t = trace_some b r in
    let x = among_map (message_from b.id) (bodies_asked b.founders b.node) m a in
    let g = subst (IsGivenIn t.0) x.2 (body_given b t.0 t.1 x.0 x.1) in
    record { steps = t.0; trace = t.1; place = g.place; step = g.step; at = g.at; gives = g.gives }
