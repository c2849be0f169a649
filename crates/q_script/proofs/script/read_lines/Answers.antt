-- read_lines: what the lines of a text spell, before which so many stand.
use Rattle.std.proofs.Common.{ℕ, List, map, Bor, sym, ◌∙◌, subst, arith}
use Rattle.std.specs.List.{AllZip}
use Rattle.std.proofs.lemmas.List.{map_push}
use Rattle.std.proofs.lemmas.Iterator.Consumers.{YieldsList-end}
use Rattle.std.specs.Prelude.{Err}
use Rattle.q_script.specs.declared.line.LineFault.{LineFault}
use Rattle.q_script.specs.Line.{Judges}
use Rattle.q_script.specs.Lines.{parts_of}
use Rattle.q_script.proofs.Lines.{road_of, turn_of, first_other, read_more, all_read}
use Rattle.q_script.proofs.script.read_lines.Goals as goal

pub returns-in-Err-Form-clause-fault : goal.returns-in-Err-Form-clause-fault
returns-in-Err-Form-clause-fault g c =
    let s = c.split-part-items in
    let road = road_of _ s.result c.args.text.now c.into_iter-part-iterator.ensures.into_iter_gives s.ensures.text s.ensures.has_more s.ensures.pattern in
    let t = turn_of road c.loop-part.yielded _ c.loop-part.yielded_by _ _ c.in-Some.part c.in-Some.is c.next.ensures.steps in
    let none = subst (λ (f : LineFault). Judges g.L.Line.spells c.in-Some.part.now (Err f)) c.in-Err-Form.field-0-is c.in-Err-Form.ensures in
    first_other g.L.Line.spells c.args.before (parts_of c.args.text.now) (map (λ (x : Bor (List ℕ)). x.now) c.loop-part.yielded) c.loop-part.lines.items
    c.in-Some.part.now _ c.len.result t.0 t.1 t.2 c.loop-part.invariant none (omega (arith, c.len.ensures, c.loop-part.lines.ok.0))

pub loop-part-preserved : goal.loop-part-preserved
loop-part-preserved g c =
    let e = map_push (λ (x : Bor (List ℕ)). x.now) c.loop-part.yielded c.in-Some.part in
    subst (λ u. AllZip g.L.Line.spells u c.push.new.self.items) (sym e)
    (read_more g.L.Line.spells (map (λ (x : Bor (List ℕ)). x.now) c.loop-part.yielded) c.in-Some.part.now c.loop-part.lines.items c.push.new.self.items
    c.in-Ok.line c.push.result c.loop-part.invariant c.in-Ok.ensures c.push.ensures.items (sym c.is_err.ensures.value ∙ c.if-is_err.false))

pub returns-clause-read : goal.returns-clause-read
returns-clause-read g c =
    let s = c.split-part-items in
    let road = road_of _ s.result c.args.text.now c.into_iter-part-iterator.ensures.into_iter_gives s.ensures.text s.ensures.has_more s.ensures.pattern in
    let t = YieldsList-end road c.loop-part.yielded _ c.loop-part.yielded_by _ _ c.in-None.is c.next.ensures.steps in
    all_read g.L.Line.spells (parts_of c.args.text.now) _ c.loop-part.lines.items t.0 c.loop-part.invariant
