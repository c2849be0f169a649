-- The bytes are looked up; the answer is the id of the text.
use Rattle.std.proofs.Common.{sym, arith}
use Rattle.q_table.proofs.Ids.{found-is, count-is, checked-there, checked-full, checked-new}
use Rattle.q_table.proofs.programs.Programs.check.Goals as goal
use Rattle.q_table.proofs.programs.Programs.check.Goals.{else-is_none-via-then-is_none+else-len-ge-MOST_PROGRAMS, else-is_none-via-else-is_none}

pub returns-then-len-ge-MOST_PROGRAMS : goal.returns-then-len-ge-MOST_PROGRAMS
returns-then-len-ge-MOST_PROGRAMS c =
    let id = found-is c.self.inside.by_text.entries c.self.view_is c.self.invariant.1 c.encoded.invariant c.encoded.view_is c.get_index_of.ensures.index in
    let count = count-is c.self.inside.by_text.entries c.self.view_is in
    sym (checked-full c.args.self.now c.args.encoded.now _ id c.if-is_none.ensures (omega (arith, c.len.ensures.len)))

pub returns : goal.returns
returns c =
    let id = found-is c.self.inside.by_text.entries c.self.view_is c.self.invariant.1 c.encoded.invariant c.encoded.view_is c.get_index_of.ensures.index in
    let count = count-is c.self.inside.by_text.entries c.self.view_is in
    elim c.else-is_none.branch [
      | else-is_none-via-then-is_none+else-len-ge-MOST_PROGRAMS w ↦
          sym (checked-new c.args.self.now c.args.encoded.now _ id w.if-is_none.ensures (omega (arith, w.len.ensures.len)))
      | else-is_none-via-else-is_none w ↦ sym (checked-there c.args.self.now c.args.encoded.now _ id w.if-is_none.ensures)
    ]
