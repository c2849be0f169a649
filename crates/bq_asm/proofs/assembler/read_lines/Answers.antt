-- read_lines: what the lines of a source say.
use Rattle.std.proofs.Common.{ℕ, List, length, map, Bor, sym, ◌∙◌, subst, arith}
use Rattle.std.specs.List.{AllZip}
use Rattle.std.proofs.lemmas.List.{map_push}
use Rattle.std.proofs.lemmas.Iterator.Consumers.{YieldsList-end}
use Rattle.spelling.proofs.Lines.{road_of, turn_of}
use Rattle.bq_asm.specs.Line.{Spells}
use Rattle.bq_asm.specs.Source.{lines_of}
use Rattle.bq_asm.specs.View.{line_view}
use Rattle.bq_asm.proofs.Lines.{IsNext, first_unreadable, none_first, read_more}
use Rattle.bq_asm.proofs.assembler.read_lines.Goals as goal
use Rattle.bq_asm.proofs.assembler.read_lines.Goals.{In-Some}

-- a line of the source is next
next : (c : In-Some)
    → IsNext (lines_of c.args.source.now) (map (λ (x : Bor (List ℕ)). x.now) c.loop-text.yielded) c.loop-text.lines.items (length c.loop-text.yielded)
    c.in-Some.text.now
next c =
    let s = c.split-text-items in
    let road = road_of _ s.result c.args.source.now c.into_iter-text-iterator.ensures.into_iter_gives s.ensures.text s.ensures.has_more s.ensures.pattern in
    let turn = turn_of road c.loop-text.yielded _ c.loop-text.yielded_by _ _ c.in-Some.text c.in-Some.is c.next.ensures.steps in
    record { front = turn.0; inside = turn.1; here = turn.2; read = c.loop-text.invariant }

pub returns-in_default-clause-fault : goal.returns-in_default-clause-fault
returns-in_default-clause-fault c =
    let next = next (goal.at.returns-in_default-clause-fault c).In-Some in
    first_unreadable next c.len.result c.in_default.ensures (omega (arith, c.len.ensures, c.loop-text.lines.ok.0))

pub loop-text-preserved : goal.loop-text-preserved
loop-text-preserved c =
    let next = next (goal.at.loop-text-preserved c).In-Some in
    rw (map_push (λ (x : Bor (List ℕ)). x.now) c.loop-text.yielded c.in-Some.text)
    (read_more next c.in-Some-read_line.line c.in-Some-read_line.ensures c.push.result c.push.ensures.items (sym c.is_err.ensures.value ∙ c.if-is_err.false))

pub returns-clause-read : goal.returns-clause-read
returns-clause-read c =
    let s = c.split-text-items in
    let road = road_of _ s.result c.args.source.now c.into_iter-text-iterator.ensures.into_iter_gives s.ensures.text s.ensures.has_more s.ensures.pattern in
    let end = YieldsList-end road c.loop-text.yielded _ c.loop-text.yielded_by _ _ c.in-None.is c.next.ensures.steps in
    subst (λ texts. AllZip Spells texts (map line_view c.loop-text.lines.items)) end.0 c.loop-text.invariant

pub returns-then-is_err-clause-fault : goal.returns-then-is_err-clause-fault
returns-then-is_err-clause-fault c =
    let next = next (goal.at.returns-then-is_err-clause-fault c).In-Some in
    none_first next c.in-Some-read_line.line c.in-Some-read_line.ensures
