-- A machine for all placements, and what a step of it comes to.
use Rattle.std.proofs.Common.{◌≡◌, ℕ, ◌^◌, ◌<◌, ◌≤◌, sym, ap, ◌∙◌, subst, inl, inr, arith, List, length, Option, Some}
use Rattle.std.specs.Prelude.{slice_set}
use Rattle.std.proofs.lemmas.Bool.{cases_eq}
use Rattle.std.proofs.lemmas.List.{length-set}
use Rattle.bq_insn.specs.declared.insn.Insn.{Insn}
use Rattle.bq_insn.specs.declared.insn.Insn.TheVariants.{Exit}
use Rattle.bq_flow.specs.Paths.{Among}
use Rattle.bq_meaning.specs.Place.{Place, IsPlacement, record_room}
use Rattle.bq_meaning.specs.Meaning.{Outcome, Continues, Ends, at_unit, with_register, perform}
use Rattle.bq_meaning.specs.Memory.{MachineState as Machine}
use Rattle.bq_state.specs.declared.kind.Kind.{Kind}
use Rattle.bq_state.specs.Kinds.{StateKinds, with_kind}
use Rattle.bq_state.specs.Edges.{edges}
use Rattle.bq_sound.specs.Safe.{AreBytes}
use Rattle.bq_sound.proofs.Tags.{Tagged, images, images_set, IsWord, tag_at, tag_set_same, tag_set_other, TagsHold, written_holds}
use Rattle.bq_sound.proofs.Made.{Made}

pub record Common : Type 0 where
  pub unit : ℕ
  pub tags : List (Option Tagged)
  pub frame : List ℕ
  pub «record» : List ℕ

abbrev pub machine : Place → Common → Machine
machine p m = record { unit = m.unit; registers = images p m.tags; frame = m.frame; «record» = m.record }

pub record AreWords (tags : List (Option Tagged)) : Type 0 where
  pub count : length tags ≡ 11
  pub each : (r : ℕ) (v : Tagged) → tag_at tags r ≡ Some v → IsWord v

pub record IsWhole (len : ℕ) (m : Common) : Type 0 where
  pub words : AreWords m.tags
  pub frame : AreBytes 512 m.frame
  pub «record» : AreBytes len m.record
  pub fits : len ≤ record_room

-- what is known before an instruction: the state holds of the machine
pub record Stands (len : ℕ) (m : Common) (state : StateKinds) : Type 0 where
  pub whole : IsWhole len m
  pub holds : TagsHold len state m.tags

-- what the instruction comes to, at every placement
abbrev pub Performs : Insn → Common → (Place → Outcome) → Type 0
Performs i m o = (p : Place) → IsPlacement p → perform p i (machine p m) ≡ o p

-- it goes on, alike at every placement, along an edge whose state holds
pub record GoesOn (len : ℕ) (m : Common) (i : Insn) (after : StateKinds) : Type 0 where
  pub next : Common
  pub left : StateKinds
  pub edge : Among (next.unit, left) (edges m.unit i after)
  pub stands : Stands len next left
  pub steps : Performs i m (λ p. Continues (machine p next))

-- it ends, alike at every placement
pub record Stops (m : Common) (i : Insn) : Type 0 where
  pub answer : ℕ
  pub word : answer < 2 ^ 64
  pub exits : i ≡ Exit
  pub steps : Performs i m (λ _. Ends answer)

pub same_holds : {len : ℕ} {m : Common} {state after : StateKinds} → Stands len m state → state ≡ after → TagsHold len after m.tags
same_holds {len} {m} s is = subst (λ q. TagsHold len q m.tags) is s.holds

pub goes_on : {len : ℕ} {m : Common} {i : Insn} {after left : StateKinds} (next : Common) → IsWhole len next → TagsHold len left next.tags
    → Among (next.unit, left) (edges m.unit i after) → Performs i m (λ p. Continues (machine p next)) → GoesOn len m i after
goes_on {left = left} next whole holds among does =
    record { next = next; left = left; edge = among; stands = record { whole = whole; holds = holds }; steps = does }

-- ---- an instruction that writes a register

abbrev pub put : Common → ℕ → ℕ → Tagged → Common
put m unit d v = record { unit = unit; tags = slice_set m.tags d (Some v); frame = m.frame; «record» = m.record }

put_words : (tags : List (Option Tagged)) (d : ℕ) (v : Tagged) → AreWords tags → d < 10 → IsWord v → AreWords (slice_set tags d (Some v))
put_words tags d v h low small = record {
  count = length-set tags d (Some v) ∙ h.count;
  each = λ r x e. elim (cases_eq r d) [
    | inl same ↦
        let here : tag_at (slice_set tags d (Some v)) d ≡ Some v = tag_set_same tags d v (omega (arith, h.count)) in
        let there : tag_at (slice_set tags d (Some v)) d ≡ Some x = subst (λ q. tag_at (slice_set tags d (Some v)) q ≡ Some x) same e in
        let is : v ≡ x = cc in subst IsWord is small
    | inr ne ↦ h.each r x (sym (tag_set_other tags d r v ne) ∙ e)
  ];
}

pub puts : {len : ℕ} {m : Common} {i : Insn} {state after : StateKinds} {k : Kind} {f : Place → ℕ} (unit d : ℕ) → Stands len m state → d < 10
    → Made len k f → with_kind state d k ≡ after → Among (unit, after) (edges m.unit i after)
    → Performs i m (λ p. Continues (at_unit (with_register (machine p m) d (f p)) unit)) → GoesOn len m i after
puts {len} {m} {k = k} unit d s low made is among does =
    let v = made.value in
    goes_on (put m unit d v)
    (record { words = put_words m.tags d v s.whole.words low made.known.word; frame = s.whole.frame; «record» = s.whole.record; fits = s.whole.fits })
    (subst (λ q. TagsHold len q (slice_set m.tags d (Some v))) is (written_holds s.holds d k v (omega (arith, s.whole.words.count)) made.known.holds))
    among
    (λ p place. does p place ∙ ap (λ (w : ℕ). Continues (at_unit (with_register (machine p m) d w) unit)) (made.is p)
    ∙ ap (λ (rs : List (Option ℕ)). Continues (record { unit = unit; registers = rs; frame = m.frame; «record» = m.record })) (images_set p m.tags d v))
