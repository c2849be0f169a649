-- A machine that a state covers at a placement is the image of one for all placements.
use Rattle.std.proofs.Common.{◌≡◌, ℕ, zero, suc, ◌^◌, ◌<◌, ◌≤◌, refl, sym, ap, ◌∙◌, subst, inl, inr, List, [], ◌∷◌, length, Option, Some, None, Ok}
use Rattle.std.specs.Prelude.{option_map}
use Rattle.std.proofs.lemmas.List.{length-map}
use Rattle.bq_insn.specs.Insn.{IsInsn}
use Rattle.bq_insn.specs.declared.insn.Insn.{Insn}
use Rattle.bq_meaning.specs.Place.{Place, IsPlacement, record_room}
use Rattle.bq_meaning.specs.Meaning.{held, perform}
use Rattle.bq_meaning.specs.Memory.{MachineState as Machine}
use Rattle.bq_state.specs.Covers.{KindHolds, StateHolds}
use Rattle.bq_state.specs.Edges.{edges}
use Rattle.bq_state.specs.Kinds.{StateKinds, kind_of}
use Rattle.bq_state.specs.Rules.{transfer}
use Rattle.bq_state.specs.declared.kind.Kind.{Kind}
use Rattle.bq_state.specs.declared.kind.Kind.TheVariants.{Unset, Number, Pointer, Length}
use Rattle.bq_sound.specs.Steps.{IsMachine, IsCovered}
use Rattle.bq_sound.proofs.Tags.{Tagged, Num, Ptr, image, image_small, images, held_image, IsWord, word_of, tag_at, TagHolds, TagsHold}
use Rattle.bq_sound.proofs.Machine.{Common, machine, IsWhole, Stands}
use Rattle.bq_sound.proofs.Progress.{progress}

-- ---- from a placement

record OneTag (len : ℕ) (p : Place) (k : Kind) (register : Option ℕ) : Type 0 where
  tag : Option Tagged
  is : option_map (image p) tag ≡ register
  holds : TagHolds len k tag
  word : (v : Tagged) → tag ≡ Some v → IsWord v

no_word : (v : Tagged) → ◌≡◌ {A = Option Tagged} None (Some v) → IsWord v
no_word v e = cc

one_tag : (len : ℕ) (p : Place) (k : Kind) (register : Option ℕ) → KindHolds p len k register → ((n : ℕ) → register ≡ Some n → n < 2 ^ 64)
    → OneTag len p k register
one_tag len p Unset None h w = record { tag = None; is = refl; holds = tt; word = no_word }
one_tag len p Unset (Some n) h w = record { tag = Some (Num n); is = refl; holds = tt; word = λ v e. word_of (Num n) v (w n refl) e }
one_tag len p (Number a) register h w = record {
  tag = Some (Num h.word);
  is = sym h.held;
  holds = record { word = h.word; is = refl; within = h.within };
  word = λ v e. word_of (Num h.word) v (w h.word h.held) e;
}
one_tag len p (Pointer region s) register h w = record {
  tag = Some (Ptr region h.offset);
  is = sym h.held;
  holds = record { offset = h.offset; is = refl; within = h.within };
  word = λ v e. word_of (Ptr region h.offset) v tt e;
}
one_tag len p Length register h w = record { tag = Some (Num len); is = sym h; holds = refl; word = λ v e. word_of (Num len) v (w len h) e }

record ManyTags (len : ℕ) (p : Place) (kinds : ℕ → Kind) (registers : List (Option ℕ)) : Type 0 where
  tags : List (Option Tagged)
  is : images p tags ≡ registers
  holds : (r : ℕ) → TagHolds len (kinds r) (tag_at tags r)
  words : (r : ℕ) (v : Tagged) → tag_at tags r ≡ Some v → IsWord v

none_held : (len : ℕ) (p : Place) (k : Kind) → KindHolds p len k None → TagHolds len k None
none_held len p Unset h = tt
none_held len p (Number a) h = let e = h.held in cc
none_held len p (Pointer region s) h = let e = h.held in cc
none_held len p Length h = cc

-- of each register holds what holds of the first and of the others
at_each : (P : ℕ → Option Tagged → Type 0) (t : Option Tagged) (ts : List (Option Tagged)) → P 0 t → ((r : ℕ) → P (suc r) (tag_at ts r))
    → (r : ℕ) → P r (tag_at (t ∷ ts) r)
at_each P t ts a b zero = a
at_each P t ts a b (suc r) = b r

many_tags : (len : ℕ) (p : Place) (kinds : ℕ → Kind) (registers : List (Option ℕ)) → ((r : ℕ) → KindHolds p len (kinds r) (held registers r))
    → ((r n : ℕ) → held registers r ≡ Some n → n < 2 ^ 64) → ManyTags len p kinds registers
many_tags len p kinds [] h w = record { tags = []; is = refl; holds = λ r. none_held len p (kinds r) (h r); words = λ r v e. no_word v e }
many_tags len p kinds (x ∷ xs) h w =
    let one = one_tag len p (kinds 0) x (h 0) (w 0) in
    let rest = many_tags len p (λ r. kinds (suc r)) xs (λ r. h (suc r)) (λ r n e. w (suc r) n e) in
    record {
      tags = one.tag ∷ rest.tags;
      is = ap (λ y. y ∷ images p rest.tags) one.is ∙ ap (λ ys. x ∷ ys) rest.is;
      holds = at_each (λ r t. TagHolds len (kinds r) t) one.tag rest.tags one.holds rest.holds;
      words = at_each (λ r t. (v : Tagged) → t ≡ Some v → IsWord v) one.tag rest.tags one.word rest.words;
    }

record Lifted (len : ℕ) (p : Place) (state : StateKinds) (m : Machine) : Type 0 where
  common : Common
  is : machine p common ≡ m
  stands : Stands len common state

small_image : (p : Place) (t : Option Tagged) (w : ℕ) → ((v : Tagged) → t ≡ Some v → IsWord v) → option_map (image p) t ≡ Some w → w < 2 ^ 64
small_image p None w h e = cc
small_image p (Some v) w h e = let is : image p v ≡ w = cc in subst (λ n. n < 2 ^ 64) is (image_small p v (h v refl))

-- a length of the record, and a placement
module _ (len : ℕ) (p : Place) where
  lifted : (state : StateKinds) (m : Machine) → len ≤ record_room → IsMachine len m → StateHolds p len state m.registers → Lifted len p state m
  lifted state m few whole holds =
      let t = many_tags len p (kind_of state) m.registers holds.each whole.words in
      let count : length t.tags ≡ 11 = sym (length-map t.tags (option_map (image p))) ∙ ap length t.is ∙ whole.count in
      record {
        common = record { unit = m.unit; tags = t.tags; frame = m.frame; «record» = m.record };
        is = ap (λ (rs : List (Option ℕ)). record { unit = m.unit; registers = rs; frame = m.frame; «record» = m.record }) t.is;
        stands = record {
          whole = record { words = record { count = count; each = t.words }; frame = whole.frame; «record» = whole.record; fits = few };
          holds = record { within = holds.within; each = t.holds };
        };
      }

  -- ---- back to it

  lowered_kind : (k : Kind) (t : Option Tagged) → TagHolds len k t → KindHolds p len k (option_map (image p) t)
  lowered_kind Unset t h = tt
  lowered_kind (Number a) t h = record { word = h.word; held = ap (option_map (image p)) h.is; within = h.within }
  lowered_kind (Pointer region s) t h = record { offset = h.offset; held = ap (option_map (image p)) h.is; within = h.within }
  lowered_kind Length t h = ap (option_map (image p)) h

  lowered : (state : StateKinds) (tags : List (Option Tagged)) → TagsHold len state tags → StateHolds p len state (images p tags)
  lowered state tags h = record {
    within = h.within;
    each = λ r. subst (KindHolds p len (kind_of state r)) (sym (held_image p tags r)) (lowered_kind (kind_of state r) (tag_at tags r) (h.each r));
  }

  whole_machine : (m : Common) → IsWhole len m → IsMachine len (machine p m)
  whole_machine m h = record {
    count = length-map m.tags (option_map (image p)) ∙ h.words.count;
    words = λ r w e. small_image p (tag_at m.tags r) w (h.words.each r) (sym (held_image p m.tags r) ∙ e);
    frame = h.frame;
    «record» = h.record;
  }

  -- ---- a step

  pub covered : (i : Insn) (state after : StateKinds) (m : Machine) → len ≤ record_room → IsPlacement p → IsInsn i → IsMachine len m
      → StateHolds p len state m.registers → transfer i state ≡ Ok after → IsCovered len p (edges m.unit i after) (perform p i m)
  covered i state after m few place legal whole holds rules =
      let l = lifted state m few whole holds in
      let es = edges l.common.unit i after in
      subst (λ x. IsCovered len p (edges x.unit i after) (perform p i x)) l.is
      (elim (progress i legal l.stands rules) [
        | inl on ↦
            let covers = lowered on.left on.next.tags on.stands.holds in
            subst (IsCovered len p es) (sym (on.steps p place))
            (record { state = on.left; edge = on.edge; covers = covers; whole = whole_machine on.next on.stands.whole })
        | inr stop ↦ subst (IsCovered len p es) (sym (stop.steps p place)) stop.word
      ])
