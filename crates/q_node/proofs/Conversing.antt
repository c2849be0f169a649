-- What is said at the console, one thing behind the other.
use Rattle.std.proofs.Common.{ℕ, List, [], ◌∷◌, ◌++◌, Option, Result, Ok, Err, refl}
use Rattle.std.specs.List.{flat_map}
use Rattle.std.specs.Io.KnownBytes.{Appends}
use Rattle.std.proofs.KnownBytes.{Appends-trans}
use Rattle.spelling.proofs.Codes.{all_push}
use Rattle.q_outside.proofs.Writing.{behind, one_more_written}
use Rattle.q_node.specs.Console.{Converses, IsSaid, said_line}
use Rattle.q_node.specs.Runs.{IsFront}
use Rattle.q_node.specs.Talks.{Greets, Tells}
use Rattle.q_node.specs.declared.console.Said.{Said}

-- one thing more was said
pub said_more : (node : ℕ) (a b c : Option (List ℕ)) (s : Said) → Converses node a b → IsSaid node s → Appends b c (said_line s) → Converses node a c
said_more node a b c s h is more =
    let (all, said, written) = h in
    (all ++ s ∷ [], all_push (IsSaid node) all s said is, one_more_written said_line a b c all (all ++ s ∷ []) s refl written more)

-- what was said behind the line that tells where the node hears
pub greeted : (node : ℕ) (greeting : List ℕ) (a b c : Option (List ℕ)) → Appends a b (greeting ++ 10 ∷ []) → Converses node b c
    → (front : List ℕ) × IsFront node greeting front × Appends a c front
greeted node greeting a b c first h =
    let (all, said, written) = h in
    let line = greeting ++ 10 ∷ [] in
    (line ++ flat_map said_line all, record { all = all; said = said; spelled = refl }, Appends-trans a b c line (flat_map said_line all) first written)

-- the same where a write may fail
pub greets : {E : Type 0} (node : ℕ) (greeting : List ℕ) (a b c : Option (List ℕ)) (r : Result (Unit {0}) E) → Appends a b (greeting ++ 10 ∷ [])
    → Tells node b r c → Greets node greeting a r c
greets node greeting a b c (Ok u) first h = greeted node greeting a b c first h
greets node greeting a b c (Err e) first h = behind a b c (greeting ++ 10 ∷ []) first h
