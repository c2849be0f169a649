-- Runs from the entry: one outcome, the same at every placement, on a path of the text.
use Rattle.std.proofs.Common.{◌≡◌, ◌∙◌, ap, ℕ, zero, suc, ◌+◌, ◌^◌, ◌<◌, ◌≤◌, refl, subst, inl, inr, arith, List, [], ◌∷◌, length, Option, Some, None}
use Rattle.std.specs.Prelude.{ℤ, pos, ⊤}
use Rattle.std.proofs.lemmas.Int.{ints}
use Rattle.std.proofs.lemmas.Bool.{cases_Bool}
use Rattle.bq_insn.specs.Slots.{units, IsText, insn_at}
use Rattle.bq_insn.specs.declared.insn.Insn.{Insn}
use Rattle.bq_flow.specs.Paths.{Path, IsLongest}
use Rattle.bq_meaning.specs.Place.{Place, IsPlacement, record_room}
use Rattle.bq_meaning.specs.Meaning.{Outcome, Continues, moved, perform, step, Ends as Answers}
use Rattle.bq_meaning.specs.Runs.{entry_machine, RunsTo}
use Rattle.bq_range.specs.Interval.{Interval, IsIn, is_single, all_words}
use Rattle.bq_state.specs.Offsets.{at_offset}
use Rattle.bq_state.specs.Kinds.{StateKinds, AreLengths, kind_of, length_kind, entry_state}
use Rattle.bq_sound.specs.Passes.{note_at, Passes}
use Rattle.bq_sound.specs.Safe.{AreBytes, IsSafe}
use Rattle.bq_state.specs.declared.region.Region.{Region}
use Rattle.bq_state.specs.declared.region.Region.TheVariants as regions
use Rattle.bq_sound.proofs.Tags.{Tagged, Num, Ptr, IsWord, tag_at, HoldsNumber, HoldsPointer, holds_word, TagHolds, TagsHold, covered_tags}
use Rattle.bq_sound.proofs.Machine.{Common, machine, IsWhole, Stands}
use Rattle.bq_sound.proofs.Along.{note_within, among_covered, along_successors}
use Rattle.bq_sound.proofs.Progress.{is_insn, progress}
use Rattle.bq_state.specs.Edges.{edges}

-- ---- from a unit with a state to an exit

stepped : (p : Place) (text : List Insn) (m : Common) (i : Insn) (o : Outcome) → insn_at text m.unit ≡ Some i → perform p i (machine p m) ≡ o
    → step p text (machine p m) ≡ o
stepped p text m i o e is = rw e is

record Ends (text : List Insn) (m : Common) : Type 0 where
  count : ℕ
  answer : ℕ
  after : List ℕ
  word : answer < 2 ^ 64
  whole : AreBytes 512 after
  path : Path text m.unit count
  run : (p : Place) → IsPlacement p → RunsTo p text (machine p m) count answer after

-- a text whose notes pass
module _ {l : Interval} (len : ℕ) {text : List Insn} {notes : List (Option StateKinds)} (t : IsText text) (passes : Passes l text notes) where
  ends : (fuel : ℕ) (m : Common) (state : StateKinds) → Stands len m state → note_at notes m.unit ≡ Some state → units text ≤ m.unit + fuel → Ends text m
  ends zero m state stands noted room = absurd (omega (arith, note_within notes m.unit state noted, passes.count))
  ends (suc fuel) m state stands noted room =
      let within : m.unit < units text = omega (arith, note_within notes m.unit state noted, passes.count) in
      let i = passes.halves.each m.unit state within noted in
      let fine = passes.fine.each m.unit state i.0 within noted i.1 in
      elim (progress i.0 (is_insn text m.unit i.0 t i.1) stands fine.rules) [
        | inl on ↦
            let next = on.next in
            let covered = among_covered notes (edges m.unit i.0 fine.after) (next.unit, on.left) fine.covered on.edge in
            let along = along_successors text m.unit i.0 fine.after (next.unit, on.left) t.few passes.flow i.1 on.edge in
            let forward = passes.flow.each m.unit i.0 (pos next.unit) i.1 along in
            let below : units text ≤ next.unit + fuel = omega (arith, ints, forward.is, forward.forward) in
            let here : Stands len next covered.note = record { whole = on.stands.whole; holds = covered_tags covered.covers on.stands.holds } in
            let rest = ends fuel next covered.note here covered.there below in
            record {
              count = suc rest.count;
              answer = rest.answer;
              after = rest.after;
              word = rest.word;
              whole = rest.whole;
              path = inr (i.0, next.unit, i.1, along, rest.path);
              run = λ p place. inr (machine p next, stepped p text m i.0 (Continues (machine p next)) i.1 (on.steps p place), rest.run p place);
            }
        | inr stop ↦ record {
          count = 1;
          answer = stop.answer;
          after = m.frame;
          word = stop.word;
          whole = stands.whole.frame;
          path = inl (refl, i.1 ∙ ap Some stop.exits);
          run = λ p place. inl (refl, stepped p text m i.0 (Answers stop.answer) i.1 (stop.steps p place), refl);
        }
      ]

-- ---- the entry

abbrev entry_common : ℕ → ℕ → List ℕ → List ℕ → Common
entry_common len acc bytes frame = record {
  unit = 0;
  tags = None ∷ Some (Ptr regions.Record (pos 0)) ∷ Some (Num len) ∷ Some (Num acc) ∷ None ∷ None ∷ None ∷ None ∷ None ∷ None
      ∷ Some (Ptr regions.Frame (pos 512)) ∷ [];
  frame = frame;
  «record» = bytes;
}

entry_is : (p : Place) → IsPlacement p → (len acc : ℕ) (bytes frame : List ℕ) → length bytes ≡ len
    → machine p (entry_common len acc bytes frame) ≡ entry_machine p acc bytes frame
entry_is p place len acc bytes frame full =
    let a : moved p.record (pos 0) ≡ p.record = omega (arith, place.record_fits) in
    let b : moved p.frame (pos 512) ≡ p.frame + 512 = omega (arith, place.frame_fits) in
    rw (a, b, full) refl

-- what holds of each register, one by one, and of those past the last
abbrev AllAre : (ℕ → Option Tagged → Type 0) → List (Option Tagged) → Type 0
AllAre P [] = (r : ℕ) → P r None
AllAre P (t ∷ ts) = P 0 t × AllAre (λ r. P (suc r)) ts

each_is : (P : ℕ → Option Tagged → Type 0) (tags : List (Option Tagged)) → AllAre P tags → (r : ℕ) → P r (tag_at tags r)
each_is P [] h r = h r
each_is P (t ∷ ts) h zero = h.0
each_is P (t ∷ ts) h (suc r) = each_is (λ q. P (suc q)) ts h.1 r

abbrev OptionWord : Option Tagged → Type 0
OptionWord None = ⊤
OptionWord (Some v) = IsWord v

pointer_at : (region : Region) (z : ℤ) → HoldsPointer region (at_offset z) (Some (Ptr region z))
pointer_at region z = record { offset = z; is = refl; within = record { low = omega (arith, ints); high = omega (arith, ints) } }

length_holds : (len : ℕ) (l : Interval) → IsIn len l → TagHolds len (length_kind l) (Some (Num len))
length_holds len l i = elim (cases_Bool (is_single l)) [ inl e ↦ rw e (holds_word l len i) | inr e ↦ rw e refl ]

entry_holds : (l : Interval) (len acc : ℕ) (bytes frame : List ℕ) → IsIn len l → acc < 2 ^ 64
    → TagsHold len (entry_state l) (entry_common len acc bytes frame).tags
entry_holds l len acc bytes frame i h =
    let any : HoldsNumber all_words (Some (Num acc)) = holds_word all_words acc (record { low = omega arith; high = omega arith }) in
    let start = pointer_at regions.Record (pos 0) in
    let end = pointer_at regions.Frame (pos 512) in
    record {
      within = i;
      each = each_is (λ r t. TagHolds len (kind_of (entry_state l) r) t) (entry_common len acc bytes frame).tags
          (tt, (start, (length_holds len l i, (any, (tt, (tt, (tt, (tt, (tt, (tt, (end, λ r. tt)))))))))));
    }

entry_whole : (len acc : ℕ) (bytes frame : List ℕ) → len ≤ record_room → acc < 2 ^ 64 → AreBytes len bytes → AreBytes 512 frame
    → IsWhole len (entry_common len acc bytes frame)
entry_whole len acc bytes frame few h b f =
    let words = each_is (λ r t. OptionWord t) (entry_common len acc bytes frame).tags
    (tt, (tt, (omega (arith, few), (h, (tt, (tt, (tt, (tt, (tt, (tt, (tt, λ r. tt))))))))))) in
    record { words = record { count = refl; each = λ r v e. subst OptionWord e (words r) }; frame = f; «record» = b; fits = few }

-- ---- notes that pass make a text safe

pub safe : (l : Interval) (text : List Insn) (notes : List (Option StateKinds)) (longest len : ℕ) → AreLengths l → IsText text → Passes l text notes
    → IsLongest text longest → IsIn len l → IsSafe len text longest
safe l text notes longest len lengths t passes most i =
    let few : len ≤ record_room = omega (arith, lengths.most, i.high) in
    record {
      runs = λ acc bytes frame small b f.
          let m = entry_common len acc bytes frame in
          let start = passes.entry in
          let holds = covered_tags start.covers (entry_holds l len acc bytes frame i small) in
          let stands : Stands len m start.note = record { whole = entry_whole len acc bytes frame few small b f; holds = holds } in
          let r = ends len t passes (units text) m start.note stands start.there (omega arith) in
          record {
            steps = r.count;
            answer = r.answer;
            after = r.after;
            within = most.bound r.count r.path;
            word = r.word;
            whole = r.whole;
            run = λ p place. record {
              room = omega (arith, b.count, few);
              whole = f.count;
              runs = subst (λ n. RunsTo p text n r.count r.answer r.after) (entry_is p place len acc bytes frame b.count) (r.run p place);
            };
          };
    }
