-- Cluster::take_all: the events are taken in turn, up to the first that is refused.
use Rattle.std.proofs.Common.{◌≡◌, refl, sym, ap, subst, ◌∙◌, List, [], ◌∷◌, ◌++◌, take, Err}
use Rattle.std.proofs.lemmas.List.{take_more, take_all}
use Rattle.std.proofs.lemmas.Option.{slice_get_read}
use Rattle.q_history.specs.declared.event.ClusterEvent.{ClusterEvent}
use Rattle.q_history.specs.Headline.{ClusterState}
use Rattle.q_history.specs.Clusters.{stepped}
use Rattle.q_history.specs.Calls.{Reaches}
use Rattle.q_history.proofs.Histories.{reaches_next}
use Rattle.q_cluster.proofs.cluster.Cluster.take_all.Goals as goal

pub returns-in-Err : goal.returns-in-Err
returns-in-Err c =
    let es : List ClusterEvent = c.args.events.now in
    let e : ClusterEvent = c.index-events-place.result in
    let h = c.in-Err.ensures {u = tt} in (
      subst (λ (x : ClusterState). Reaches c.args.self.now (take c.loop-place.place es) x) (sym h.0) c.loop-place.invariant,
      (
        e,
        slice_get_read es _ c.loop-place.place e refl c.loop-place-test.true c.index-events-place.is,
        λ loud ran. subst (λ (x : ClusterState). stepped ran x e ≡ Err c.in-Err.fault) (sym h.0) (h.1 loud ran),
      ),
    )

pub loop-place-preserved : goal.loop-place-preserved
loop-place-preserved c =
    let es : List ClusterEvent = c.args.events.now in
    let e : ClusterEvent = c.index-events-place.result in
    let before : List ClusterEvent = take c.loop-place.place es in
    let more = take_more es c.loop-place.place e c.loop-place-test.true ∙ ap (λ (x : ClusterEvent). before ++ x ∷ []) (sym c.index-events-place.is) in
    subst (λ (xs : List ClusterEvent). Reaches c.args.self.now xs c.take.new.self) (sym more)
    (reaches_next before c.args.self.now c.loop-place.self e c.in_default.field-0 c.take.new.self c.loop-place.invariant (c.in_default.ensures {u = tt}))

pub returns : goal.returns
returns c =
    subst (λ (xs : List ClusterEvent). Reaches c.args.self.now xs c.loop-place.self)
    (take_all c.loop-place.place c.args.events.now c.loop-place-test.false) c.loop-place.invariant

pub loop-place-init : goal.loop-place-init
loop-place-init c = refl
