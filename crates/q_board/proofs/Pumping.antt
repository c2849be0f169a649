-- What the pump has done, out of its two halves.
use Rattle.std.proofs.Common.{◌≡◌, ℕ, ◌*◌, List, ◌++◌, map, length, take, replicate, refl, ap, ◌∙◌, arith, inl, inr}
use Rattle.std.proofs.lemmas.List.{take_all}
use Rattle.q_session.specs.declared.job.Job.{Job}
use Rattle.q_board.specs.declared.found.Look.{Look}
use Rattle.q_board.specs.AskerModel.{AskerModel}
use Rattle.q_desk.specs.declared.journal.Call.TheVariants as call
use Rattle.q_desk.specs.declared.journal.Entry.TheVariants as entry
use Rattle.reasons.specs.declared.Reason.{Reason}
use Rattle.q_book.specs.State.{BookState}
use Rattle.q_board.specs.Looks.{slots_of}
use Rattle.q_board.specs.Pumped.{open_slots, post_of, Carries, Pumped, Stopped}
use Rattle.q_board.specs.Turns.{Receiving, NoRoomPast, Offering, OfferedAll, StopsOffering}
use Rattle.q_board.proofs.Turning.{grown, begins_offering}

module _ {a a₁ a₂ : AskerModel} {b b₁ b₂ : BookState} {places n m : ℕ} (r : Receiving a b places n a₁ b₁) (o : Offering a₁ b₁ m a₂ b₂) where
  abbrev carries_both : Carries a b a₂ b₂
  carries_both = record {
    looks = r.looks;
    results = r.results;
    accepted = r.accepted;
    handed = o.handed;
    between = b₁;
    looked = o.looked ∙ r.looked;
    received = o.received ∙ r.received;
    offered = o.offered ∙ ap (λ (l : List Job). l ++ o.handed) r.offered;
    shown = r.shown;
    posts = r.posts;
    hands = o.hands;
    journal = grown b.desk.journal (map post_of r.accepted) (replicate (length o.handed) (entry.Call call.HandOut)) r.journal o.journal;
    balance = omega (arith, o.balance, o.count, r.balance);
    same = (o.same.0 ∙ r.same.0, o.same.1 ∙ r.same.1);
  }

all_slots : (a : AskerModel) (looks : List Look) → length a.row ≡ 8 → slots_of looks ≡ open_slots (8 * a.number) (take 8 a.row)
    → slots_of looks ≡ open_slots (8 * a.number) a.row
all_slots a looks eight s = s ∙ ap (open_slots (8 * a.number)) (take_all 8 a.row (omega arith))

module _ {a a₁ : AskerModel} {b b₁ : BookState} where
  pub pumps : {n : ℕ} {a₂ : AskerModel} {b₂ : BookState} → length a.row ≡ 8 → Receiving a b 8 n a₁ b₁ → OfferedAll a₁ b₁ a₂ b₂ → Pumped a b n a₂ b₂
  pumps eight r o = record { carries = carries_both r o.offering; each = all_slots a r.looks eight r.slots; count = r.count; ends = o.ends }

  pub stops_offering : {n : ℕ} {e : Reason} {a₂ : AskerModel} {b₂ : BookState} → length a.row ≡ 8 → Receiving a b 8 n a₁ b₁
      → StopsOffering a₁ b₁ e a₂ b₂ → Stopped a b e a₂ b₂
  stops_offering eight r o = record { carries = carries_both r o.offering; why = inr (all_slots a r.looks eight r.slots, o.refused) }

  pub stops_receiving : {e : Reason} → NoRoomPast a b e a₁ b₁ → Stopped a b e a₁ b₁
  stops_receiving s = record { carries = carries_both s.receiving (begins_offering a₁ b₁); why = inl (s.place, s.near, s.receiving.slots, refl, s.full) }
