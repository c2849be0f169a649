-- Every list of events leads to a cluster whose answers are true, and stay.
use Rattle.std.proofs.Common.{◌≡◌, ℕ, Bool, cond, List, [], ◌∷◌, Option, Some, None, refl, sym, ap, ◌∙◌, subst, inr}
use Rattle.std.specs.Ordering.{nat_cmp}
use Rattle.std.specs.FinMap as fin
use Rattle.sc_view.specs.Views.{ViewMap}
use Rattle.sc_members.specs.Members.{Config}
use Rattle.sc_msg.specs.declared.version.Version.{Version}
use Rattle.sc_operations.specs.declared.session.OperationKind.{OperationKind}
use Rattle.sc_operations.specs.declared.session.OperationKind.TheVariants as kind
use Rattle.sc_node.specs.Sessions.{kind_of, stored}
use Rattle.sc_node.specs.State.{NodeState}
use Rattle.sc_world.specs.State.{world_of}
use Rattle.sc_world.specs.Ledgers.{first}
use Rattle.sc_world.specs.Worlds as world
use Rattle.sc_world.specs.Operations.{returned, returned_by}
use Rattle.sc_world.proofs.EveryHistory.{IsLawful, every_lawful, lawful_regular}
use Rattle.q_session.specs.declared.query.Phase.{Phase}
use Rattle.q_session.specs.declared.query.Phase.TheVariants.{Collecting, Ready, Running, Answered}
use Rattle.sc_world.specs.declared.op.Op.{Op}
use Rattle.q_book.specs.State.{BookState}
use Rattle.q_history.specs.declared.event.ClusterEvent.{ClusterEvent}
use Rattle.q_history.specs.declared.event.ClusterStep.{ClusterStep}
use Rattle.q_history.specs.Headline.{ClusterState, AnswersAreTrue, AnswersStay, ViewsAreReturned, view_of}
use Rattle.q_history.specs.World.{world as world_in}
use Rattle.q_history.specs.Heads.{IsHeaded}
use Rattle.q_history.specs.Clusters.{start}
use Rattle.q_history.specs.Calls.{Follows, Reaches}
use Rattle.q_history.proofs.Lists.{none-some}
use Rattle.q_history.proofs.World.{nodes-empty}
use Rattle.q_history.proofs.Founders.{IsFounder, founder_nodes, every_founder, founder_there}
use Rattle.q_history.proofs.Kept.{HasView, IsDeskOf, IsKept, IsStep, stays_itself, stays_on}
use Rattle.q_history.proofs.Called.{event_is}
use Rattle.q_history.proofs.Events.{made_kept}

pub step_kept : (c d : ClusterState) (e : ClusterEvent) (told : ClusterStep) → IsKept c → Follows c e told d → IsStep c d
step_kept c d e told kept f = made_kept c kept d (event_is c e told d f)

pub run_kept : (es : List ClusterEvent) (c d : ClusterState) → IsKept c → Reaches c es d → IsStep c d
run_kept [] c d kept r = subst (IsStep c) (sym r) (record { kept = kept; stays = stays_itself c.books; version = refl; config = refl; founders = refl })
run_kept (e ∷ es) c d kept r =
    let a = step_kept c r.1 e r.0 kept r.2 in
    let b = run_kept es r.1 d a.kept r.3 in
    record {
      kept = b.kept;
      stays = stays_on c.books r.1.books d.books a.stays b.stays;
      version = b.version ∙ a.version;
      config = b.config ∙ a.config;
      founders = b.founders ∙ a.founders;
    }

-- ---- what is said of answers

pub returned_held : (k : OperationKind) (end : Option ℕ) (view : Option ViewMap) (v : ViewMap) → returned_by k end view ≡ Some v → view ≡ Some v
returned_held (kind.Store e) end view v h = absurd (none-some v h)
returned_held kind.Collect None view v h = absurd (none-some v h)
returned_held kind.Collect (Some place) view v h = h

has_view : (o : Op) (p : Phase) (view : ViewMap) → HasView o p → view_of p ≡ Some view → returned o ≡ Some view
has_view o Collecting view h is = absurd (none-some view is)
has_view o (Ready v) view h is = h ∙ is
has_view o (Running v) view h is = h ∙ is
has_view o (Answered v ran) view h is = h ∙ is

pub kept_returned : (c : ClusterState) → IsKept c → ViewsAreReturned c
kept_returned c kept node k b q view at here is =
    let t = (kept.desks node b at).tied k q here in
    let returns = has_view t.op q.phase view t.has is in
    record {
      collect = t.op;
      among = t.among;
      by = t.by;
      tagged = t.tagged;
      returned = returns;
      holds = λ s e among stores before meets.
          (lawful_regular (world_in c) kept.world).holds s t.op e view among t.among stores
          (returned_held (kind_of t.op.session) t.op.end (stored t.op.session) view returns) before meets;
    }

pub kept_true : (c : ClusterState) → IsKept c → AnswersAreTrue c
kept_true c kept node k b q view ran at here is =
    record { answered = (kept.desks node b at).right k q view ran here is; returned = kept_returned c kept node k b q view at here (ap view_of is) }

-- ---- founders

module _ (version : Version) (config : Config) (ids : List ℕ) where
  abbrev c : ClusterState
  c = start version config ids

  start_world : world.start config ids ≡ world_in c
  start_world =
      ap (λ (m : fin.FinMap nat_cmp NodeState). world_of (world.nodes_with config ids m ids) (first config ids)) (sym nodes-empty)
      ∙ ap (λ (m : fin.FinMap nat_cmp NodeState). world_of m (first config ids)) (sym (founder_nodes version config ids ids fin.empty))

  founder_head : (id : ℕ) (b : BookState) → IsFounder version config ids id b → IsHeaded c id b
  founder_head id b f =
      subst (IsHeaded c id) f.is
      (record { version = refl; id = refl; config = refl; founders = ap (λ (h : Bool). let o : Option (List ℕ) = cond h (Some ids) None in o) (sym f.listed) })

  founder_desk : (id : ℕ) (b : BookState) → IsFounder version config ids id b → IsDeskOf [] id b.desk
  founder_desk id b f =
      subst (λ (x : BookState). IsDeskOf [] id x.desk) f.is
      (record { tied = λ i q at. absurd (none-some q at); right = λ i q view ran at is. absurd (none-some q at) })

  pub start_kept : IsKept c
  start_kept = record {
    world = subst IsLawful start_world (every_lawful config ids [] (world.start config ids) refl);
    headed = λ id b at. founder_head id b (every_founder version config ids id b at);
    founders = λ id listed. founder_there version config ids ids fin.empty id (inr listed);
    desks = λ id b at. founder_desk id b (every_founder version config ids id b at);
    jobs = λ k j at. absurd (none-some j at);
  }

  -- ---- what is said of all that events make of founders

  pub every_kept : (es : List ClusterEvent) (d : ClusterState) → Reaches c es d → IsStep c d
  every_kept es d r = run_kept es c d start_kept r

  pub every_world : (es : List ClusterEvent) (d : ClusterState) → Reaches c es d → world.IsHistory (world_in d)
  every_world es d r = (every_kept es d r).kept.world.history

  pub every_true : (es : List ClusterEvent) (d : ClusterState) → Reaches c es d → AnswersAreTrue d
  every_true es d r = kept_true d (every_kept es d r).kept

  pub every_returned : (es : List ClusterEvent) (d : ClusterState) → Reaches c es d → ViewsAreReturned d
  every_returned es d r = kept_returned d (every_kept es d r).kept

  pub every_stays : (es fs : List ClusterEvent) (d e : ClusterState) → Reaches c es d → Reaches d fs e → AnswersStay d e
  every_stays es fs d e r s node k x q view ran at here is =
      let y = (run_kept fs d e (every_kept es d r).kept s).stays node x at in
      (y.0, y.1, y.2.answers k q view ran here is)
