-- The bytes are looked up; the answer is the id of the text, and a new text goes last.
use Rattle.std.proofs.Common.{◌≡◌, ◌<◌, None, Some, Ok, length, refl, ap, sym, ◌∙◌, arith}
use Rattle.q_table.proofs.Ids.{found-is, count-is, registered-there, registered-full, registered-new, none-from, HasGrown, grown}
use Rattle.std.specs.Str.{bytes_eq}
use Rattle.q_table.specs.Programs.{id_of}
use Rattle.bq_insn.specs.Slots.{spelling}
use Rattle.indexmap.proofs.CallerLemmas.{insert_entry-new}
use Rattle.q_table.proofs.programs.Programs.insert.Goals as goal

pub returns-in-Some : goal.returns-in-Some
returns-in-Some c =
    let id = found-is c.self.inside.by_text.entries c.self.view_is c.self.invariant.1 c.encoded.invariant c.encoded.view_is c.in-Some.ensures.index in
    registered-there c.args.self.now c.args.encoded _ (id ∙ ap Some (sym c.new.ensures))

pub returns-then-id-ge-MOST_PROGRAMS : goal.returns-then-id-ge-MOST_PROGRAMS
returns-then-id-ge-MOST_PROGRAMS c =
    let id = found-is c.self.inside.by_text.entries c.self.view_is c.self.invariant.1 c.encoded.invariant c.encoded.view_is c.in_default.ensures.index in
    let count = count-is c.self.inside.by_text.entries c.self.view_is in
    (refl, λ _. registered-full c.args.self.now c.args.encoded id (omega (arith, c.len-id.ensures.len)))

grows : (c : goal.Joined-insert-2) → (id_of c.args.self.now c.args.encoded.text ≡ None) × (c.len-id.result ≡ length c.args.self.now)
    × HasGrown c.args.self.now c.args.encoded c.insert.new.self.entries
grows c =
    let id = found-is c.self.inside.by_text.entries c.self.view_is c.self.invariant.1 c.encoded.invariant c.encoded.view_is c.in_default.ensures.index in
    let count = count-is c.self.inside.by_text.entries c.self.view_is in
    let absent = none-from _ (sym c.in_default.ensures.found) in
    let new = insert_entry-new (λ x y. bytes_eq x.items y.items) c.self.inside.by_text c.encoded.inside.bytes c.encoded.inside.program absent in
    let spells = c.encoded.invariant ∙ ap (λ x. spelling x.text) c.encoded.view_is in
    let room : length c.args.self.now < 1024 = omega (arith, c.len-id.ensures.len) in
    let entries = c.in-Ok.ensures.entries ∙ new in
    (id, c.len-id.ensures.len ∙ sym count, grown _ _ c.self.view_is c.self.invariant.0 c.self.invariant.1 id room spells c.encoded.view_is entries)

pub invariant_of-self : goal.invariant_of-self
invariant_of-self c = let all = grows c in (all.2.table, all.2.spelled)

pub returns-in-Ok : goal.returns-in-Ok
returns-in-Ok c =
    let all = grows c in
    let number = c.new-in-Ok.ensures ∙ all.1 in
    registered-new c.args.self.now c.args.encoded all.0 (omega arith) ∙ (λ j. Ok (sym number j, sym all.2.whole j))
