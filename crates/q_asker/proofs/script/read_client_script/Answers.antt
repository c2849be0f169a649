-- read_client_script: the lines that a text spells; an empty text has none.
use Rattle.std.proofs.Common.{ℕ, ◌+◌, List, length, map, Bor, Err, sym, ◌∙◌, subst, arith}
use Rattle.std.specs.List.{AllZip}
use Rattle.std.proofs.lemmas.List.{map_push}
use Rattle.std.proofs.lemmas.Iterator.Consumers.{YieldsList-end}
use Rattle.q_script.specs.declared.line.LineFault.{LineFault}
use Rattle.q_script.specs.Line.{Judges}
use Rattle.q_script.specs.Lines.{IsFirst, parts_of}
use Rattle.q_script.proofs.Faults.{lines_there, not_empty}
use Rattle.q_script.proofs.Lines.{read_more, road_of, turn_of}
use Rattle.q_asker.specs.Script.{IsOther, SpellsLine}
use Rattle.q_asker.proofs.Scripts.{least_other}
use Rattle.q_asker.proofs.script.read_client_script.Goals as goal

pub loop-text-preserved : goal.loop-text-preserved
loop-text-preserved c =
    let e = map_push (λ (x : Bor (List ℕ)). x.now) c.loop-text.yielded c.in-Some.text in
    subst (λ u. AllZip SpellsLine u c.push.new.self.items) (sym e)
    (read_more SpellsLine (map (λ (x : Bor (List ℕ)). x.now) c.loop-text.yielded) c.in-Some.text.now c.loop-text.lines.items c.push.new.self.items
    c.in-Ok.line c.push.result c.loop-text.invariant c.in-Ok.ensures c.push.ensures.items (sym c.is_err.ensures.value ∙ c.if-is_err.false))

pub returns-in-Err-Form-clause-fault : goal.returns-in-Err-Form-clause-fault
returns-in-Err-Form-clause-fault c =
    let s = c.split-text-items in
    let body = c.without_last_feed.result.now in
    let road = road_of _ s.result body c.into_iter-text-iterator.ensures.into_iter_gives s.ensures.text s.ensures.has_more s.ensures.pattern in
    let t = turn_of road c.loop-text.yielded _ c.loop-text.yielded_by _ _ c.in-Some.text c.in-Some.is c.next.ensures.steps in
    let some = not_empty (length c.args.source.now) c.is_empty.result c.is_empty.ensures c.if-is_empty.false in
    let there = lines_there c.args.source.now body some c.without_last_feed.ensures in
    let none = subst (λ (f : LineFault). Judges SpellsLine c.in-Some.text.now (Err f)) c.in-Err-Form.field-0-is c.in-Err-Form.ensures in
    subst (λ u. IsFirst IsOther 0 u (c.len.result + 1)) (sym there)
    (least_other (parts_of body) (map (λ (x : Bor (List ℕ)). x.now) c.loop-text.yielded) c.loop-text.lines.items c.in-Some.text.now _
    c.len.result t.0 t.1 t.2 c.loop-text.invariant none (omega (arith, c.len.ensures, c.loop-text.lines.ok.0)))

pub returns-clause-read : goal.returns-clause-read
returns-clause-read c =
    let s = c.split-text-items in
    let body = c.without_last_feed.result.now in
    let road = road_of _ s.result body c.into_iter-text-iterator.ensures.into_iter_gives s.ensures.text s.ensures.has_more s.ensures.pattern in
    let t = YieldsList-end road c.loop-text.yielded _ c.loop-text.yielded_by _ _ c.in-None.is c.next.ensures.steps in
    let some = not_empty (length c.args.source.now) c.is_empty.result c.is_empty.ensures c.if-is_empty.false in
    let there = lines_there c.args.source.now body some c.without_last_feed.ensures in
    subst (λ (u : List (List ℕ)). AllZip SpellsLine u c.loop-text.lines.items) (t.0 ∙ sym there) c.loop-text.invariant
