-- Every history is regular.
use Rattle.std.proofs.Common.{◌≡◌, ℕ, List, [], ◌∷◌, Option, Some, refl, sym, ap, ◌∙◌, subst, Ok}
use Rattle.sc_view.specs.Views.{ViewMap}
use Rattle.sc_members.specs.Members.{Config}
use Rattle.sc_operations.specs.declared.session.OperationKind.{OperationKind}
use Rattle.sc_operations.specs.declared.session.OperationKind.TheVariants as kind
use Rattle.sc_world.specs.declared.event.WorldEvent.{WorldEvent}
use Rattle.sc_world.specs.declared.event.WorldStep.{WorldStep}
use Rattle.sc_world.specs.declared.op.Op.{Op}
use Rattle.sc_world.specs.State.{WorldState}
use Rattle.sc_world.specs.Worlds.{clock, stepped, Reaches, start, IsHistory}
use Rattle.sc_world.specs.Records.{beginning_of, AreRecords, AreSent}
use Rattle.sc_world.specs.Regular.{IsRegular, IsGenuine, EndsAreRecorded, EndsAreTold}
use Rattle.sc_world.specs.Operations.{IsBefore}
use Rattle.sc_world.proofs.Changes.{EndedBefore}
use Rattle.sc_world.proofs.Soundness as sound
use Rattle.sc_world.proofs.Truths.{IsTrue, limit_by}
use Rattle.sc_world.proofs.Numbering.{covered}
use Rattle.sc_world.proofs.Runs.{IsInvariant, step_keeps, start_invariant}
use Rattle.sc_world.proofs.Histories.{history_next, start_history}
use Rattle.sc_world.proofs.Tallies.{IsTallied, step_tallied, start_tallied}
use Rattle.sc_world.proofs.Ledgers.{step_records}
use Rattle.sc_world.proofs.Ends.{step_recorded}
use Rattle.sc_world.proofs.EndsTold.{step_told}
use Rattle.sc_world.proofs.Senders.{sent_next}

-- what is true of every history
pub record IsLawful (w : WorldState) : Type 0 where
  pub history : IsHistory w
  pub invariant : IsInvariant w
  pub tallied : IsTallied w
  pub records : AreRecords w
  pub sent : AreSent w

pub step_lawful : (w : WorldState) (e : WorldEvent) (a : WorldStep) (w' : WorldState) → IsLawful w → stepped w e ≡ Ok (a, w') → IsLawful w'
step_lawful w e a w' i h = record {
  history = history_next w e a w' i.history h;
  invariant = step_keeps w w' e a i.invariant h;
  tallied = step_tallied w i.tallied e a w' h;
  records = step_records w i.history i.invariant.linked i.invariant.sound i.tallied i.records e a w' h;
  sent = sent_next w i.invariant.linked i.history i.sent e a w' h;
}

run_lawful : (es : List WorldEvent) (w w' : WorldState) → IsLawful w → Reaches w es w' → IsLawful w'
run_lawful [] w w' i h = subst IsLawful (sym h) i
run_lawful (e ∷ es) w w' i h = run_lawful es h.1 w' (step_lawful w e h.0 h.1 i h.2) h.3

start_lawful : (c : Config) (ids : List ℕ) → IsLawful (start c ids)
start_lawful c ids = record {
  history = start_history c ids;
  invariant = start_invariant c ids;
  tallied = start_tallied c ids;
  records = record { distinct = λ i k a b h. absurd (cc); each = λ o h. absurd h; all = λ place node k h. absurd (cc) };
  sent = λ number m h. absurd (cc);
}

pub every_lawful : (c : Config) (ids : List ℕ) (es : List WorldEvent) (w : WorldState) → Reaches (start c ids) es w → IsLawful w
every_lawful c ids es w h = run_lawful es (start c ids) w (start_lawful c ids) h

pub lawful_ends : (w : WorldState) → IsLawful w → EndsAreRecorded w
lawful_ends w l e a w' h = step_recorded w l.invariant.linked l.tallied e a w' h

pub lawful_told : (w : WorldState) → IsLawful w → EndsAreTold w
lawful_told w l e a w' h = step_told w l.records e a w' h

module _ (w : WorldState) (l : IsLawful w) where
  ended : (a b : Op) → IsBefore a b → EndedBefore a b
  ended a b h = (h.place, h.ended, h.earlier)

  -- what was begun was begun by a Store event
  genuine : (place : ℕ) (v : ViewMap) → IsTrue w place v → IsGenuine w place v
  genuine place v t = record {
    stored = λ id e is.
        let s = t.begun id e is in
        record {
          begin = s.op.begin;
          earlier = s.begin;
          event = (l.records.each s.op s.among).began
              ∙ ap (λ (k : OperationKind). let o : Option WorldEvent = Some (beginning_of s.op.node k) in o) s.kind
              ∙ ap (λ (i : ℕ). let o : Option WorldEvent = Some (beginning_of i (kind.Store e)) in o) s.node;
          op = s.op;
          among = s.among;
          began = refl;
          by = s.node;
          kind = s.kind;
        };
  }

  pub lawful_regular : IsRegular w
  lawful_regular = record {
    genuine = λ c v place in' held ends.
        genuine place v (subst (λ (x : Option ℕ). IsTrue w (limit_by (clock w) x) v) ends (l.invariant.truthful.kept c in' v held));
    holds = λ s c e v in_s in_c is held before met.
        (sound.regular w l.invariant.sound).stores s c e v met.id in_s in_c is (ended s c before) held met.at.acked met.at.replied;
    above = λ b c u v in_b in_c was held before met.
        covered w l.invariant.numbered (limit_by (clock w) b.end) (limit_by (clock w) c.end) u v
        (l.invariant.truthful.kept b in_b u was) (l.invariant.truthful.kept c in_c v held)
        ((sound.regular w l.invariant.sound).collects b c u v met.id in_b in_c (ended b c before) was held met.at.acked met.at.replied);
  }
