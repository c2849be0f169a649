-- The lines of pairs that a test names, one after the other.
use Rattle.std.proofs.Common.{◌≡◌, ℕ, Bool, true, false, cond, List, [], ◌∷◌, ◌++◌, map, refl, sym, ap, ◌∙◌, subst, append_assoc, append-nil}
use Rattle.std.specs.Prelude.{filter, flat_map, Option, Result, Ok, Err, OnOk}
use Rattle.std.proofs.lemmas.List.{map-append}
use Rattle.std.proofs.lemmas.List.Elements.{filter-append}
use Rattle.std.proofs.lemmas.Grind.{flat_map-append}
use Rattle.sc_world.specs.declared.op.Op.{Op}
use Rattle.sc_world.specs.Operations.{IsMeeting}
use Rattle.q_told.specs.Printing.{TellsPairs, AddsPairs, pair_line, pairs_with}

in_turn : (ps qs : List (Op × Op)) (a b : List ℕ) → TellsPairs ps a → TellsPairs qs b → TellsPairs (ps ++ qs) (a ++ b)
in_turn [] qs a b p q = subst (λ x. TellsPairs qs (x ++ b)) (sym p) q
in_turn (x ∷ ps) qs a b p q = (p.0, p.1 ++ b, p.2, in_turn ps qs p.1 b p.3 q, ap (λ t. t ++ b) p.4 ∙ append_assoc p.0 p.1 b)

pub no_pairs : (a : List ℕ) → AddsPairs [] a a
no_pairs a = ([], refl, sym (append-nil a))

-- a pair that was told with the least node where the two meet
pub one_pair : {X E : Type 0} (r : Result X E) (s c : Op) (least : Option ℕ) (a b : List ℕ) → IsMeeting s c least
    → OnOk r (b ≡ a ++ pair_line s c least) → OnOk r (AddsPairs ((s, c) ∷ []) a b)
one_pair (Err x) s c least a b m e = tt
one_pair (Ok x) s c least a b m e =
    let line = pair_line s c least in
    (line, (line, [], record { least = least; meeting = m; says = refl }, refl, sym (append-nil line)), e)

more_pairs : (ps qs : List (Op × Op)) (a b c : List ℕ) → AddsPairs ps a b → AddsPairs qs b c → AddsPairs (ps ++ qs) a c
more_pairs ps qs a b c p q = (p.0 ++ q.0, in_turn ps qs p.0 q.0 p.1 q.1, q.2 ∙ ap (λ x. x ++ q.0) p.2 ∙ append_assoc a p.0 q.0)

-- ---- the pairs of one store

with_one_more : (is : Op → Op → Bool) (s : Op) (ops : List Op) (c : Op) → pairs_with is s (ops ++ c ∷ []) ≡ pairs_with is s ops ++ pairs_with is s (c ∷ [])
with_one_more is s ops c =
    ap (map (λ d. (s, d))) (filter-append (is s) ops (c ∷ [])) ∙ map-append (λ d. (s, d)) (filter (is s) ops) (filter (is s) (c ∷ []))

pub paired : (is : Op → Op → Bool) (s : Op) (ops more : List Op) (c : Op) (x y z : List ℕ) → more ≡ ops ++ c ∷ [] → is s c ≡ true
    → AddsPairs (pairs_with is s ops) x y → AddsPairs ((s, c) ∷ []) y z → AddsPairs (pairs_with is s more) x z
paired is s ops more c x y z e told p q =
    subst (λ ps. AddsPairs ps x z)
    (sym (ap (pairs_with is s) e ∙ with_one_more is s ops c ∙ ap (λ b. pairs_with is s ops ++ map (λ d. (s, d)) (cond b (c ∷ []) [])) told))
    (more_pairs (pairs_with is s ops) ((s, c) ∷ []) x y z p q)

pub unpaired : (is : Op → Op → Bool) (s : Op) (ops more : List Op) (c : Op) (x y : List ℕ) → more ≡ ops ++ c ∷ [] → is s c ≡ false
    → AddsPairs (pairs_with is s ops) x y → AddsPairs (pairs_with is s more) x y
unpaired is s ops more c x y e untold p =
    subst (λ ps. AddsPairs ps x y)
    (sym (ap (pairs_with is s) e ∙ with_one_more is s ops c ∙ ap (λ b. pairs_with is s ops ++ map (λ d. (s, d)) (cond b (c ∷ []) [])) untold
    ∙ append-nil (pairs_with is s ops))) p

-- ---- the pairs of each operation

pub one_more_store : (is : Op → Op → Bool) (all ops more : List Op) (s : Op) (x y z : List ℕ) → more ≡ ops ++ s ∷ []
    → AddsPairs (flat_map (λ s. pairs_with is s all) ops) x y → AddsPairs (pairs_with is s all) y z → AddsPairs (flat_map (λ s. pairs_with is s all) more) x z
one_more_store is all ops more s x y z e p q =
    let pairs : Op → List (Op × Op) = λ s. pairs_with is s all in
    subst (λ ps. AddsPairs ps x z)
    (sym (ap (flat_map pairs) e ∙ flat_map-append pairs ops (s ∷ []) ∙ ap (λ ps. flat_map pairs ops ++ ps) (append-nil (pairs s))))
    (more_pairs (flat_map pairs ops) (pairs s) x y z p q)
