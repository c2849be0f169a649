-- read_line: the line that a text spells.
use Rattle.std.proofs.Common.{List, ℕ, ◌++◌, ap, sym, ◌∙◌}
use Rattle.std.specs.Prelude.{codes}
use Rattle.q_asker.proofs.Scripts.{ask_judged, program_judged, store_judged}
use Rattle.q_asker.proofs.script.read_line.Goals as goal

pub returns-in-Some : goal.returns-in-Some
returns-in-Some c =
    let s = c.in-Some.ensures.cases in
    program_judged c.args.text.now c.in-Some.digits.now c.program.result (s.1.1 ∙ ap (λ (l : List ℕ). codes "program " ++ l) (sym s.2)) c.program.ensures

pub returns-in-Some-strip_prefix : goal.returns-in-Some-strip_prefix
returns-in-Some-strip_prefix c =
    let s = c.in-Some-strip_prefix.ensures.cases in
    store_judged c.args.text.now c.in-Some-strip_prefix.value.now c.store.result (s.1.1 ∙ ap (λ (l : List ℕ). codes "store " ++ l) (sym s.2)) c.store.ensures

pub returns-in-Some-strip_prefix-2 : goal.returns-in-Some-strip_prefix-2
returns-in-Some-strip_prefix-2 c =
    let s = c.in-Some-strip_prefix-2.ensures.cases in
    ask_judged c.args.text.now c.in-Some-strip_prefix-2.numbers.now c.ask.result (s.1.1 ∙ ap (λ (l : List ℕ). codes "ask " ++ l) (sym s.2)) c.ask.ensures
