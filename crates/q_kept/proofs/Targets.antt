-- To whom questions go, node by node.
use Rattle.std.proofs.Common.{◌≡◌, ℕ, ◌+◌, ◌<◌, Bool, true, false, not, List, [], ◌∷◌, ◌++◌, length, map, take, cond, get_or, refl, ap, subst, sym, Some}
use Rattle.std.specs.FinSet as set
use Rattle.std.specs.List.{flat_map}
use Rattle.std.proofs.lemmas.List.{get_or_default}
use Rattle.sc_msg.specs.declared.message.Message.{Message}
use Rattle.sc_msg.specs.declared.version.Version.{Version}
use Rattle.sc_operations.specs.declared.session.Phase.{Phase}
use Rattle.q_kept.specs.Letters.{Addressed, AddsAll, AddsFirst, message_to}
use Rattle.q_kept.specs.Questions.{uncounted}
use Rattle.q_kept.specs.declared.letter.Letter.{Letter}
use Rattle.q_kept.proofs.Letters.{adds_first_none, adds_more, adds_none, adds_up_to}

abbrev pub to_uncounted : Message → Phase → List ℕ → List Addressed
to_uncounted m p nodes = map (message_to m) (map Some (uncounted (Some p) nodes))

-- what goes to a node, by whether it is counted
abbrev to_one : Message → ℕ → Bool → List Addressed
to_one m id counted = cond counted [] (message_to m (Some id) ∷ [])

and_others : (m : Message) (id : ℕ) (ids : List ℕ) (sent : List Addressed) (b : Bool) → sent ≡ map (message_to m) (map Some ids)
    → to_one m id b ++ sent ≡ map (message_to m) (map Some (cond (not b) (id ∷ ids) ids))
and_others m id ids sent true e = e
and_others m id ids sent false e = ap (λ (l : List Addressed). message_to m (Some id) ∷ l) e

one_by_one : (m : Message) (p : Phase) (nodes : List ℕ) → flat_map (λ id. to_one m id (set.contains p.counted id)) nodes ≡ to_uncounted m p nodes
one_by_one m p [] = refl
one_by_one m p (id ∷ nodes) = and_others m id (uncounted (Some p) nodes) _ (set.contains p.counted id) (one_by_one m p nodes)

-- the next node, after those before it
module _ {v : Version} (m : Message) (p : Phase) (nodes : List ℕ) (i : ℕ) (within : i < length nodes) {ls ms : List Letter}
    (before : AddsAll v (to_uncounted m p (take i nodes)) ls ms) where
  abbrev next : ℕ
  next = get_or nodes i 0

  abbrev to_each : ℕ → List Addressed
  to_each id = to_one m id (set.contains p.counted id)

  each_before : AddsAll v (flat_map to_each (take i nodes)) ls ms
  each_before = subst (λ (l : List Addressed). AddsAll v l ls ms) (sym (one_by_one m p (take i nodes))) before

  next_by : {ns : List Letter} (b : Bool) → set.contains p.counted next ≡ b → AddsAll v (to_one m next b) ms ns
      → AddsAll v (to_uncounted m p (take (i + 1) nodes)) ls ns
  next_by {ns} b is a =
      let one = subst (λ (c : Bool). AddsAll v (to_one m next c) ms ns) (sym is) a in
      let all = adds_more to_each nodes i within (get_or_default nodes i 0 next within) each_before one in
      subst (λ (l : List Addressed). AddsAll v l ls ns) (one_by_one m p (take (i + 1) nodes)) all

  -- a letter goes to it
  pub next_sent : {ns : List Letter} → set.contains p.counted next ≡ false → AddsAll v (message_to m (Some next) ∷ []) ms ns
      → AddsAll v (to_uncounted m p (take (i + 1) nodes)) ls ns
  next_sent is a = next_by false is a

  -- it is counted
  pub next_counted : set.contains p.counted next ≡ true → AddsAll v (to_uncounted m p (take (i + 1) nodes)) ls ms
  next_counted is = next_by true is adds_none

  -- memory is short for a letter to it
  pub next_short : {ns : List Letter} → ns ≡ ms → AddsFirst v (to_uncounted m p nodes) ls ns
  next_short {ns} same =
      subst (λ (l : List Addressed). AddsFirst v l ls ns) (one_by_one m p nodes)
      (adds_up_to to_each nodes i within (get_or_default nodes i 0 next within) each_before (adds_first_none same))
