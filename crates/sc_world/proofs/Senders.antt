-- Each message was sent by an event of its sender.
use Rattle.std.proofs.Common.{◌≡◌, ℕ, ◌+◌, List, [], ◌∷◌, ◌++◌, map, length, Some, refl, sym, ap, ◌∙◌, subst, arith, inl, inr, slice_get, Ok}
use Rattle.std.proofs.lemmas.List.{append-nil}
use Rattle.std.proofs.lemmas.Option.{slice_get_within}
use Rattle.std.specs.FinMap as fin
use Rattle.sc_msg.specs.declared.message.Message.{Message}
use Rattle.sc_msg.specs.declared.message.Body.{Body}
use Rattle.sc_msg.specs.declared.message.Body.TheVariants.{Enter, Leave, CollectQuery}
use Rattle.sc_node.specs.State.{NodeState}
use Rattle.sc_node.specs.Nodes.{message_from, answers}
use Rattle.sc_world.specs.declared.event.WorldEvent.{WorldEvent}
use Rattle.sc_world.specs.declared.event.WorldEvent.TheVariants as event
use Rattle.sc_world.specs.declared.event.WorldStep.{WorldStep}
use Rattle.sc_world.specs.State.{WorldState}
use Rattle.sc_world.specs.Worlds.{clock, Outcome, node_of, told, after, stepped, IsHistory}
use Rattle.sc_world.specs.Records.{Among, IsOneOf, WasSent, AreSent}
use Rattle.sc_world.proofs.Links.{IsLinked}
use Rattle.sc_world.proofs.Steps.{among-map}
use Rattle.sc_world.proofs.Handlers.{heard, store_body, store_outcome, collect_outcome, left_outcome, entered_outcome}
use Rattle.sc_world.proofs.Inverts.{by_event}
use Rattle.sc_world.proofs.Runs.{among_get}
use Rattle.sc_world.proofs.Histories.{IsNext, step_next, before_next, was_now}
use Rattle.sc_world.proofs.Recording.{event_kept, event_new}
use Rattle.sc_world.proofs.Ledgers.{get_append}

-- all of these messages are a node's own
abbrev AreOwn : ℕ → List Message → Type 0
AreOwn q outs = (m : Message) → Among m outs → m.from ≡ q

-- what an event sends, it sends for its node
record Sends (w : WorldState) (e : WorldEvent) (a : WorldStep) (w' : WorldState) : Type 0 where
  outs : List Message
  sent : w'.sent ≡ w.sent ++ outs
  numbers : a.sent ≡ record { first = length w.sent; count = length outs }
  own : AreOwn (node_of e) outs

one_own : (q i : ℕ) (b : Body) → i ≡ q → AreOwn q (message_from i b ∷ [])
one_own q i b same m (inl is) = ap (λ (y : Message). y.from) is ∙ same
one_own q i b same m (inr none) = absurd none

all_own : (q i : ℕ) (bodies : List Body) → i ≡ q → AreOwn q (map (message_from i) bodies)
all_own q i bodies same m in' = let k = among-map (message_from i) m bodies in' in ap (λ (y : Message). y.from) k.2 ∙ same

module _ (w : WorldState) (linked : IsLinked w) where
  outcome_sends : (e : WorldEvent) (q : ℕ) (x : Outcome) → AreOwn (node_of e) x.outs → Sends w e (told w x) (after w e q x)
  outcome_sends e q x own = record { outs = x.outs; sent = refl; numbers = refl; own = own }

  -- a message in a node's own name
  names_own : (q : ℕ) (n : NodeState) (b : Body) → fin.get w.nodes q ≡ Some n → AreOwn q (message_from n.id b ∷ [])
  names_own q n b at = one_own q n.id b (linked.named q n at)

  step_sends : (e : WorldEvent) (a : WorldStep) (w' : WorldState) → stepped w e ≡ Ok (a, w') → Sends w e a w'
  step_sends = by_event w (Sends w) (record {
    entered = λ q at. outcome_sends (event.Enter q) q (entered_outcome w.config q) (one_own q q Enter refl);
    left = λ q n at. outcome_sends (event.Leave q) q (left_outcome n) (names_own q n Leave at);
    crashed = λ q. record { outs = []; sent = sym (append-nil w.sent); numbers = refl; own = λ m in'. absurd in' };
    stored = λ q value n at. outcome_sends (event.Store q value) q (store_outcome n value) (names_own q n (store_body n value) at);
    collected = λ q n at. outcome_sends (event.Collect q) q (collect_outcome n) (names_own q n (CollectQuery n.operations) at);
    delivered = λ number q n m at sent.
        outcome_sends (event.Deliver number q) q (heard n m.from m.body) (all_own q n.id (answers n m.from m.body) (linked.named q n at));
  })

  module _ (history : IsHistory w) (sent : AreSent w) (e : WorldEvent) (a : WorldStep) (w' : WorldState) (h : stepped w e ≡ Ok (a, w')) where
    next : IsNext w e w'
    next = step_next w e a w' h

    old_sent : (number : ℕ) (m : Message) → WasSent w number m → WasSent w' number m
    old_sent number m s = record {
      place = s.place;
      cause = s.cause;
      at = event_kept w e w' next s.place s.cause s.at;
      by = s.by;
      before = s.before;
      was = before_next w e w' s.place s.before next (omega (arith, slice_get_within w.events s.place s.cause s.at)) s.was;
      told = s.told;
      after = s.after;
      steps = s.steps;
      sends = s.sends;
    }

    new_sent : (s : Sends w e a w') (number j : ℕ) (m : Message) → number ≡ length w.sent + j → slice_get s.outs j ≡ Some m → WasSent w' number m
    new_sent s number j m at there = record {
      place = clock w;
      cause = e;
      at = event_new w e w' next;
      by = sym (s.own m (among_get s.outs j m there));
      before = w;
      was = before_next w e w' (clock w) w next (omega arith) (was_now w history);
      told = a;
      after = w';
      steps = h;
      sends = subst (IsOneOf number) (sym s.numbers) (omega (arith, at), omega (arith, at, slice_get_within s.outs j m there));
    }

    pub sent_next : AreSent w'
    sent_next number m is =
        let s = step_sends e a w' h in
        elim (get_append w.sent s.outs number m (ap (λ (ms : List Message). slice_get ms number) (sym s.sent) ∙ is)) [
          | inl old ↦ old_sent number m (sent number m old)
          | inr new ↦ new_sent s number new.0 m new.1 new.2
        ]
