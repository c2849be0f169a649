-- A journal for worked values: a hand-out, and then a leave.
use Rattle.std.specs.Prelude.{List, [], ◌∷◌}
use Rattle.q_desk.specs.declared.journal.Call.TheVariants as call
use Rattle.q_desk.specs.declared.journal.Entry.{Entry}
use Rattle.q_desk.specs.declared.journal.Entry.TheVariants as entry

abbrev pub hand_out : Entry
hand_out = entry.Call call.HandOut

abbrev pub leave : Entry
leave = entry.Call call.Leave

abbrev pub both : List Entry
both = hand_out ∷ leave ∷ []
