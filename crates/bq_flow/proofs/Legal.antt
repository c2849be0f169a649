-- A flow is legal exactly where no instruction has a fault.
use Rattle.std.proofs.Common.{◌≡◌, ℕ, ◌+◌, ◌<◌, List, [], ◌∷◌, ◌++◌, Option, Some, None, Bool, true, false, ap, sym, subst, ◌∙◌, refl, arith, inl, inr}
use Rattle.std.specs.Prelude.{◌⊎◌, ℤ, pos, negsuc, nat_le, is_none, if◌then◌else◌}
use Rattle.std.proofs.lemmas.Bool.{cases_Bool, cases_lt, leb-false, lt-leb}
use Rattle.bq_insn.specs.Slots.{units, insn_at}
use Rattle.bq_insn.specs.declared.insn.Insn.{Insn}
use Rattle.bq_flow.specs.declared.fault.FlowRule.{FlowRule}
use Rattle.bq_flow.specs.declared.fault.FlowRule.TheVariants.{Backward, OutsideText, IntoWide, FallsOff}
use Rattle.bq_flow.specs.declared.fault.FlowFault.{FlowFault}
use Rattle.bq_flow.specs.declared.fault.FlowFault.TheVariants.{At, OutOfMemory}
use Rattle.bq_flow.specs.declared.successors.Successors.{Successors}
use Rattle.bq_flow.specs.declared.successors.Successors.TheVariants as nexts
use Rattle.bq_flow.specs.Successors.{next_unit, distance_of, falls_through, destination, jumps_to, successors}
use Rattle.bq_flow.specs.Paths.{Among, IsForward, IsLegalFlow}
use Rattle.bq_flow.specs.Faults.{place_fault, jump_fault, fall_fault, first_of, flow_fault, NoFlowFault, IsFirstFlowFault, IsFlowFault}
use Rattle.bq_flow.specs.Flow.{unit_behind, unit_jumped_to, place_of, places, successors_of, successors_at, IsNext, AreNext}
use Rattle.bq_flow.proofs.Units.{next_begins, next_forward, insn_within}

-- ---- what the tests tell

abbrev fine : Option FlowRule
fine = None

both_fine : (a b : Option FlowRule) → first_of a b ≡ None → (a ≡ None) × (b ≡ None)
both_fine None b e = (refl, e)
both_fine (Some rule) b e = absurd (let bad : Some rule ≡ fine = e in cc)

begins_there : (o : Option Insn) → (if is_none o then Some IntoWide else None) ≡ None → (j : Insn) × (o ≡ Some j)
begins_there None e = absurd (let bad : Some IntoWide ≡ fine = e in cc)
begins_there (Some j) e = (j, refl)

place_on : (text : List Insn) (unit : ℕ) (place : ℤ) → place_fault text unit place ≡ None → IsForward text unit place
place_on text unit (negsuc n) e = absurd (let bad : Some Backward ≡ fine = e in cc)
place_on text unit (pos next) e =
    elim (cases_Bool (nat_le next unit)) [
      | inl t ↦ absurd (let bad : Some Backward ≡ fine = rw t at e in cc)
      | inr f ↦ elim (cases_Bool (nat_le (units text) next)) [
        | inl t ↦ absurd (let bad : Some OutsideText ≡ fine = rw (f, t) at e in cc)
        | inr g ↦
            let j = begins_there (insn_at text next) (rw (f, g) at e) in
            record { next = next; is = refl; forward = leb-false next unit f; insn = j.0; begins = j.1 }
      ]
    ]

fall_on : (text : List Insn) (unit : ℕ) (i : Insn) → fall_fault text unit i ≡ None → falls_through i ≡ true → next_unit unit i < units text
fall_on text unit i e falls =
    elim (cases_Bool (nat_le (units text) (next_unit unit i))) [
      | inl t ↦ absurd (let bad : Some FallsOff ≡ fine = rw (falls, t) at e in cc)
      | inr f ↦ leb-false (units text) (next_unit unit i) f
    ]

-- ---- what a successor is

fell_or_jumped : (b : Bool) (place behind : ℤ) (jumped : List ℤ) → Among place ((if b then behind ∷ [] else []) ++ jumped)
    → ((b ≡ true) × (place ≡ behind)) ⊎ Among place jumped
fell_or_jumped true place behind jumped (inl e) = inl (refl, e)
fell_or_jumped true place behind jumped (inr a) = inr a
fell_or_jumped false place behind jumped a = inr a

jumped_by : (unit : ℕ) (o : Option ℤ) (place : ℤ) → Among place (jumps_to unit o) → (d : ℤ) × (o ≡ Some d) × (place ≡ destination unit d)
jumped_by unit None place a = absurd a
jumped_by unit (Some d) place (inl e) = (d, refl, e)
jumped_by unit (Some d) place (inr a) = absurd a

next_on : (text : List Insn) (unit : ℕ) (i : Insn) → insn_at text unit ≡ Some i → unit < next_unit unit i → next_unit unit i < units text
    → IsForward text unit (pos (next_unit unit i))
next_on text unit i there forward within =
    let j = next_begins text unit i there within in
    record { next = next_unit unit i; is = refl; forward = forward; insn = j.0; begins = j.1 }

-- ---- no fault, so legal

pub legal_at : (text : List Insn) (unit : ℕ) (i : Insn) (place : ℤ) → insn_at text unit ≡ Some i → flow_fault text unit i ≡ None
    → Among place (successors unit i) → IsForward text unit place
legal_at text unit i place there none among =
    let parts = both_fine (jump_fault text unit (distance_of i)) (fall_fault text unit i) none in
    elim (fell_or_jumped (falls_through i) place (pos (next_unit unit i)) (jumps_to unit (distance_of i)) among) [
      | inl fell ↦
          subst (IsForward text unit) (sym fell.1) (next_on text unit i there (next_forward unit i) (fall_on text unit i parts.1 fell.0))
      | inr jumped ↦
          let d = jumped_by unit (distance_of i) place jumped in
          subst (IsForward text unit) (sym d.2) (place_on text unit (destination unit d.0) (ap (jump_fault text unit) (sym d.1) ∙ parts.0))
    ]

pub legal : (text : List Insn) → NoFlowFault text (units text) → IsLegalFlow text
legal text h = record { each = λ unit i place there among. legal_at text unit i place there (h.each unit i (insn_within text unit i there) there) among }

-- ---- legal, so no fault

forward_fine : (text : List Insn) (unit : ℕ) (place : ℤ) → IsForward text unit place → place_fault text unit place ≡ None
forward_fine text unit place h = ap (place_fault text unit) h.is ∙ within_fine h.next h.insn h.forward h.begins
  where
    within_fine : (next : ℕ) (j : Insn) → unit < next → insn_at text next ≡ Some j → place_fault text unit (pos next) ≡ None
    within_fine next j forward begins =
        rw (lt-leb next unit forward, lt-leb (units text) next (insn_within text next j begins), begins) refl

jump_fine : (text : List Insn) (unit : ℕ) (o : Option ℤ) → ((place : ℤ) → Among place (jumps_to unit o) → IsForward text unit place)
    → jump_fault text unit o ≡ None
jump_fine text unit None h = refl
jump_fine text unit (Some d) h = forward_fine text unit (destination unit d) (h (destination unit d) (inl refl))

same_next : (text : List Insn) (unit n : ℕ) (h : IsForward text unit (pos n)) → n ≡ h.next
same_next text unit n h = let e : pos n ≡ pos h.next = h.is in cc

forward_within : (text : List Insn) (unit n : ℕ) → IsForward text unit (pos n) → n < units text
forward_within text unit n h = subst (λ k. k < units text) (sym (same_next text unit n h)) (insn_within text h.next h.insn h.begins)

fall_fine : (text : List Insn) (unit : ℕ) (i : Insn) → (falls_through i ≡ true → IsForward text unit (pos (next_unit unit i))) → fall_fault text unit i ≡ None
fall_fine text unit i h =
    elim (cases_Bool (falls_through i)) [
      | inl t ↦ rw (t, lt-leb (units text) (next_unit unit i) (forward_within text unit (next_unit unit i) (h t))) refl
      | inr f ↦ rw f refl
    ]

among_jumped : (b : Bool) (place behind : ℤ) (jumped : List ℤ) → Among place jumped → Among place ((if b then behind ∷ [] else []) ++ jumped)
among_jumped true place behind jumped a = inr a
among_jumped false place behind jumped a = a

among_fell : (b : Bool) (behind : ℤ) (jumped : List ℤ) → b ≡ true → Among behind ((if b then behind ∷ [] else []) ++ jumped)
among_fell true behind jumped e = inl refl
among_fell false behind jumped e = absurd (let bad : false ≡ true = e in cc)

jumps_forward : (text : List Insn) → IsLegalFlow text → (unit : ℕ) (i : Insn) → insn_at text unit ≡ Some i
    → (place : ℤ) → Among place (jumps_to unit (distance_of i)) → IsForward text unit place
jumps_forward text h unit i there place a =
    h.each unit i place there (among_jumped (falls_through i) place (pos (next_unit unit i)) (jumps_to unit (distance_of i)) a)

pub faultless : (text : List Insn) → IsLegalFlow text → (unit : ℕ) (i : Insn) → insn_at text unit ≡ Some i → flow_fault text unit i ≡ None
faultless text h unit i there =
    let jump = jump_fine text unit (distance_of i) (jumps_forward text h unit i there) in
    let fall = fall_fine text unit i (λ t.
    h.each unit i (pos (next_unit unit i)) there (among_fell (falls_through i) (pos (next_unit unit i)) (jumps_to unit (distance_of i)) t)) in
    rw (jump, fall) refl

pub not_legal : (text : List Insn) (unit : ℕ) (rule : FlowRule) → IsFirstFlowFault text unit rule → IsLegalFlow text → ⊥
not_legal text unit rule f h = let a = faultless text h unit f.insn f.there in let bad : Some rule ≡ fine = sym f.broken ∙ a in absurd cc

-- ---- the successors as the program names them

jumped_place : (text : List Insn) (unit : ℕ) (o : Option ℤ) → ((place : ℤ) → Among place (jumps_to unit o) → IsForward text unit place)
    → place_of (unit_jumped_to unit o) ≡ jumps_to unit o
jumped_place text unit None h = refl
jumped_place text unit (Some d) h = let f = h (destination unit d) (inl refl) in rw f.is refl

behind_place : (unit : ℕ) (i : Insn) → place_of (unit_behind unit i) ≡ (if falls_through i then pos (next_unit unit i) ∷ [] else [])
behind_place unit i = by_test (falls_through i)
  where
    by_test : (b : Bool) → place_of (if b then Some (next_unit unit i) else None) ≡ (if b then pos (next_unit unit i) ∷ [] else [])
    by_test true = refl
    by_test false = refl

pub named : (text : List Insn) → IsLegalFlow text → (unit : ℕ) (i : Insn) → insn_at text unit ≡ Some i
    → place_of (unit_behind unit i) ++ place_of (unit_jumped_to unit (distance_of i)) ≡ successors_at text unit
named text h unit i there =
    let jump = jumped_place text unit (distance_of i) (jumps_forward text h unit i there) in
    ap (λ x. x ++ place_of (unit_jumped_to unit (distance_of i))) (behind_place unit i)
    ∙ ap (λ x. (if falls_through i then pos (next_unit unit i) ∷ [] else []) ++ x) jump
    ∙ ap (successors_of unit) (sym there)

next_is : (text : List Insn) (unit n : ℕ) → IsForward text unit (pos n) → IsNext text unit n
next_is text unit n h =
    let s = same_next text unit n h in
    record { forward = subst (λ k. unit < k) (sym s) h.forward; within = forward_within text unit n h; insn = h.insn; begins = ap (insn_at text) s ∙ h.begins }

are_next_of : (text : List Insn) (unit : ℕ) (r : Successors) → ((place : ℤ) → Among place (places r) → IsForward text unit place) → AreNext text unit r
are_next_of text unit nexts.None h = record {}
are_next_of text unit (nexts.One a) h = next_is text unit a (h (pos a) (inl refl))
are_next_of text unit (nexts.Two a b) h = (next_is text unit a (h (pos a) (inl refl)), next_is text unit b (h (pos b) (inr (inl refl))))

-- each successor that is named lies forward, in the text and at an instruction's start
pub are_next : (text : List Insn) → IsLegalFlow text → (unit : ℕ) (i : Insn) → insn_at text unit ≡ Some i → (r : Successors)
    → places r ≡ successors_at text unit → AreNext text unit r
are_next text h unit i there r e =
    are_next_of text unit r (λ place a. h.each unit i place there (subst (Among place) (e ∙ ap (successors_of unit) there) a))

-- ---- the loop

-- a unit more has no fault
pub no_more : (text : List Insn) (unit : ℕ) → NoFlowFault text unit → ((i : Insn) → insn_at text unit ≡ Some i → flow_fault text unit i ≡ None)
    → NoFlowFault text (unit + 1)
no_more text unit h here = record { each = λ u i l there. each u i l there }
  where
    each : (u : ℕ) (i : Insn) → u < unit + 1 → insn_at text u ≡ Some i → flow_fault text u i ≡ None
    each u i l there = elim (cases_lt u unit) [
      | inl m ↦ h.each u i m there
      | inr g ↦ let e : u ≡ unit = omega (arith, l, g) in subst (λ k. flow_fault text k i ≡ None) (sym e) (here i (ap (insn_at text) (sym e) ∙ there))
    ]

-- where the flow is legal, only memory can be wanting
pub refused : (text : List Insn) (e : FlowFault) → IsFlowFault text e → IsLegalFlow text → e ≡ OutOfMemory
refused text (At unit rule) f h = absurd (not_legal text unit rule f h)
refused text OutOfMemory f h = refl

pub fine_here : (text : List Insn) (unit : ℕ) (i j : Insn) → insn_at text unit ≡ Some i → insn_at text unit ≡ Some j → flow_fault text unit j ≡ None
    → flow_fault text unit i ≡ None
fine_here text unit i j e f h =
    let g : Some i ≡ Some j = sym e ∙ f in
    let s : i ≡ j = cc in
    ap (flow_fault text unit) s ∙ h

-- ---- one first fault

first_before : (text : List Insn) (unit other : ℕ) (rule wrong : FlowRule) → IsFirstFlowFault text unit rule → IsFirstFlowFault text other wrong
    → unit < other → ⊥
first_before text unit other rule wrong f g l =
    let none = g.below.each unit f.insn l f.there in
    let bad : Some rule ≡ fine = sym f.broken ∙ none in
    absurd cc

same_rule : (text : List Insn) (unit : ℕ) (rule wrong : FlowRule) → IsFirstFlowFault text unit rule → IsFirstFlowFault text unit wrong → rule ≡ wrong
same_rule text unit rule wrong f g =
    let is : Some f.insn ≡ Some g.insn = sym f.there ∙ g.there in
    let same : f.insn ≡ g.insn = cc in
    let rules : Some rule ≡ Some wrong = sym f.broken ∙ ap (flow_fault text unit) same ∙ g.broken in
    cc

pub one_first : (text : List Insn) (unit other : ℕ) (rule wrong : FlowRule) → IsFirstFlowFault text unit rule → IsFirstFlowFault text other wrong
    → (unit ≡ other) × (rule ≡ wrong)
one_first text unit other rule wrong f g = elim (cases_lt unit other) [
  | inl l ↦ absurd (first_before text unit other rule wrong f g l)
  | inr m ↦ elim (cases_lt other unit) [
    | inl l ↦ absurd (first_before text other unit wrong rule g f l)
    | inr n ↦
        let e : unit ≡ other = omega (arith, m, n) in
        (e, same_rule text unit rule wrong f (subst (λ u. IsFirstFlowFault text u wrong) (sym e) g))
  ]
]
