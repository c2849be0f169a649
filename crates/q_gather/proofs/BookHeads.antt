-- Whole books and heads are beginnings.
use Rattle.std.proofs.Common.{◌≡◌, ◌≤◌, ℕ, List, [], ◌∷◌, length, Some, None, refl, sym, ap, ◌∙◌, subst, slice_get, length-take, arith}
use Rattle.std.proofs.Math.Seq.{take-length}
use Rattle.std.specs.Prelude.{Contains}
use Rattle.sc_members.specs.Members.{Config}
use Rattle.sc_msg.specs.declared.message.Message.{Message}
use Rattle.sc_msg.specs.declared.version.Version.{Version}
use Rattle.sc_node.specs.State.{NodeState}
use Rattle.sc_node.specs.Nodes as node
use Rattle.q_desk.specs.State.{new_desk}
use Rattle.q_desk.specs.declared.journal.Entry.{Entry}
use Rattle.q_desk.specs.declared.journal.Entry.TheVariants as entry
use Rattle.q_book.specs.State.{BookState}
use Rattle.q_book.specs.Books.{new_book, entered, record_lengths}
use Rattle.q_book.specs.Replays.{IsFirst, IsReplay}
use Rattle.q_history.proofs.Lists.{none-some}
use Rattle.q_gather.specs.Beginnings.{IsBeginningOf, IsGivenBy, AreBeginnings, HoldWhatTheyDeliver, MayGather}
use Rattle.q_gather.proofs.FrontsTraced.{trace_replay}
use Rattle.q_gather.proofs.FrontsGather.{hold_all}
use Rattle.q_gather.proofs.Cutting.{first_on, headed_begun}

pub whole_begun : (b : BookState) → IsReplay b → IsBeginningOf b b
whole_begun b r = headed_begun b b.node b.desk (length b.desk.journal) (sym (take-length b.desk.journal)) r

pub wholes_begun : (books : List BookState) (version : Version) (config : Config) (founders : List ℕ) → MayGather books version config founders
    → AreBeginnings books books × HoldWhatTheyDeliver books
wholes_begun books version config founders may = (
  record {
    distinct = may.distinct;
    each = λ k b here.
        let t = may.traces.each k b here in
        record { place = k; whole = b; at = here; is = whole_begun b (trace_replay b t.0 t.2) };
    founders = λ k whole ids here some. record { place = k; book = whole; at = here; of = refl };
  },
  hold_all books may.lists may.traces may.merges,
)

pub head_begun : (b : BookState) (first : NodeState) → IsFirst b first b.founders → IsBeginningOf (new_book b.version b.id b.config b.founders first) b
head_begun b first h =
    let desk = new_desk (record_lengths b.version) in
    headed_begun b first desk 0 refl (record { first = first; begun = first_on b first desk first b.founders h; replayed = refl })

pub heads_hold : (books : List BookState) → ((k : ℕ) (b : BookState) → slice_get books k ≡ Some b → b.desk.journal ≡ []) → HoldWhatTheyDeliver books
heads_hold books heads k place b m here at = absurd (none-some (entry.Deliver m) (ap (λ (x : List Entry). slice_get x place) (sym (heads k b here)) ∙ at))

pub head_gives : (version : Version) (config : Config) (id : ℕ) (m : Message) → (entered version config id).1 ≡ m ∷ []
    → IsGivenBy m (entered version config id).0
head_gives version config id m h = record {
  steps = record { wants = None; gives = (entered version config id).1 } ∷ [];
  trace = record { first = (node.entered config id).0; begun = refl; rest = []; trace = (refl, refl); is = refl };
  place = 0;
  step = record { wants = None; gives = (entered version config id).1 };
  at = refl;
  gives = subst (λ (x : List Message). Contains x m) (sym h) (0, omega arith, refl);
}

pub part_brief : (part whole : BookState) → IsBeginningOf part whole → length part.desk.journal ≤ length whole.desk.journal
part_brief part whole k = omega (arith, ap length k.journal, length-take k.entries whole.desk.journal)
