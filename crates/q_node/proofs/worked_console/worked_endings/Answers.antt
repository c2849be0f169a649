-- worked_endings: what stands in a file, and before a last line.
use Rattle.std.proofs.Common.{◌≡◌, ◌<◌, ℕ, List, [], ◌∷◌, ◌++◌, get_or, length, ap, sym, arith, length-append}
use Rattle.std.specs.List.{flat_map}
use Rattle.q_node.specs.Console.{said_line}
use Rattle.q_node.specs.Runs.{IsFront}
use Rattle.q_told.specs.Printing.{journal_line}
use Rattle.q_node.proofs.worked_console.worked_endings.Goals as goal

pub returns-clause-unwritten : goal.returns-clause-unwritten
returns-clause-unwritten c = λ node events h.
    let first : 0 ≡ 0x42 = ap (λ (l : List ℕ). get_or l 0 0) h.whole in
    omega (arith, first)

pub returns-clause-counted : goal.returns-clause-counted
returns-clause-counted c = λ node first file h. sym h.counted

-- the line that tells where the node hears has bytes
front_has_bytes : (node : ℕ) (greeting front : List ℕ) → IsFront node greeting front → 0 < length front
front_has_bytes node greeting front is =
    omega (arith, ap length is.spelled, length-append (greeting ++ 10 ∷ []) (flat_map said_line is.all), length-append greeting (10 ∷ []))

not_alone : (node : ℕ) (greeting front line : List ℕ) → IsFront node greeting front → line ≡ front ++ line → ⊥
not_alone node greeting front line is e = omega (arith, front_has_bytes node greeting front is, ap length e, length-append front line)

not_nothing : (node : ℕ) (greeting front line : List ℕ) → IsFront node greeting front → [] ≡ front ++ line → ⊥
not_nothing node greeting front line is e = omega (arith, front_has_bytes node greeting front is, ap length e, length-append front line)

pub returns-clause-not_greeted : goal.returns-clause-not_greeted
returns-clause-not_greeted c = λ node greeting h. not_alone node greeting h.0 (journal_line 3) h.1 h.2

pub returns-clause-not_told : goal.returns-clause-not_told
returns-clause-not_told c = λ node greeting h. not_nothing node greeting h.0 (journal_line 3) h.1 h.2
