-- What an event says of the history of a cluster, and a run; and what is true of every history.
use Rattle.std.proofs.Common.{◌≡◌, ◌∙◌, refl, ap, ℕ, List, [], ◌∷◌, take, subst, Result, Ok, Err}
use Rattle.sc_members.specs.Members.{Config}
use Rattle.sc_msg.specs.declared.version.Version.{Version}
use Rattle.sc_world.proofs.EveryHistory.{IsLawful}
use Rattle.sc_world.specs.declared.event.Sent.{Sent}
use Rattle.q_session.specs.declared.ran.Ran.{Ran}
use Rattle.q_history.specs.declared.event.ClusterEvent.{ClusterEvent}
use Rattle.q_history.specs.declared.event.ClusterStep.{ClusterStep}
use Rattle.q_history.specs.declared.event.EventAnswer.{EventAnswer}
use Rattle.reasons.specs.declared.Reason.{Reason}
use Rattle.q_history.specs.Headline.{AnswersStay, ClusterState}
use Rattle.q_history.specs.World.{world}
use Rattle.q_history.specs.Clusters.{stepped, start}
use Rattle.q_history.specs.Calls.{AnswersTo, Follows, Takes, Reaches, Runs, IsHistory}
use Rattle.q_history.proofs.EveryHistory.{every_stays}
use Rattle.q_history.proofs.Histories.{history_next, history_kept}

abbrev pub nothing : Ran
nothing = record { acc = 0; steps = 0 }

-- an event that finishes no job does what is said
pub follows : (c : ClusterState) (e : ClusterEvent) (told : ClusterStep) (d : ClusterState) → ((ran : Ran) → AnswersTo c e ran)
    → ((ran : Ran) → stepped ran c e ≡ Ok (told, d)) → Follows c e told d
follows c e told d any is = record { ran = nothing; right = any nothing; stepped = is nothing }

-- an event leads to the cluster d, which so comes of events; of the cluster that it came to, contracts say it of c
pub record GoesTo (c : ClusterState) (e : ClusterEvent) (told : ClusterStep) (d : ClusterState) : Type 0 where
  pub says : Follows c e told d
  pub goes : IsHistory d

pub goes_to : {inside c d : ClusterState} {e : ClusterEvent} {told : ClusterStep} → IsHistory inside → inside ≡ c → Follows inside e told d
    → GoesTo c e told d
goes_to {inside} {c} {d} {e} {told} old same so =
    record { says = subst (λ (x : ClusterState). Follows x e told d) same so; goes = history_next inside d e told old so }

-- what is told, by how the messages are numbered
pub told_as : {t : ClusterStep} {answer : EventAnswer} {sent numbers : Sent} → t ≡ record { told = answer; sent = sent } → sent ≡ numbers
    → t ≡ record { told = answer; sent = numbers }
told_as {t} {answer} tells is = tells ∙ ap (λ (s : Sent). let y : ClusterStep = record { told = answer; sent = s } in y) is

-- some list of events leads from one cluster to the other
abbrev pub Leads : ClusterState → ClusterState → Type 0
Leads c d = (es : List ClusterEvent) × Reaches c es d

-- one event leads there, also where it is refused
pub event_leads : (c : ClusterState) (e : ClusterEvent) (d : ClusterState) (r : Result ClusterStep Reason) → Takes c e d r → Leads c d
event_leads c e d (Ok told) h = (e ∷ [], (told, d, h, refl))
event_leads c e d (Err f) h = ([], h.0)

-- a run leads there, also where it stops at an event that is refused
pub run_leads : (c : ClusterState) (es : List ClusterEvent) (d : ClusterState) (r : Result (Unit {0}) (ℕ × Reason)) → Runs c es d r → Leads c d
run_leads c es d (Ok u) h = (es, h)
run_leads c es d (Err x) h = (take x.0 es, h.0)

-- an answer that a cluster has recorded stays, wherever events lead from there
pub answers_kept : (c d : ClusterState) → IsHistory c → Leads c d → AnswersStay c d
answers_kept c d h led = every_stays c.version c.past.config c.past.founders h.0 led.0 c d h.1 led.1

-- what is true of every history is true of a cluster, as contracts see it
pub of_every : {inside c : ClusterState} (P : ClusterState → Type 0)
    → ((version : Version) (config : Config) (ids : List ℕ) (es : List ClusterEvent) (d : ClusterState) → Reaches (start version config ids) es d → P d)
    → IsHistory inside → inside ≡ c → P c
of_every {inside} P every h is = subst P is (every inside.version inside.past.config inside.past.founders h.0 inside h.1)

-- the world of a cluster, as contracts see it, is lawful
pub world_lawful : {inside c : ClusterState} → IsHistory inside → inside ≡ c → IsLawful (world c)
world_lawful {inside} {c} h is = (history_kept c (subst (λ (x : ClusterState). IsHistory x) is h)).world
