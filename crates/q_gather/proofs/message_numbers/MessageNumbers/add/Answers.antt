-- Bytes that have no number go last, with this one.
use Rattle.std.proofs.Common.{sym, ◌∙◌}
use Rattle.std.specs.Str.{bytes_eq}
use Rattle.indexmap.proofs.CallerLemmas.{insert_entry-new}
use Rattle.q_gather.proofs.Table.{none_there, added_there, added_new}
use Rattle.q_gather.proofs.message_numbers.MessageNumbers.add.Goals as goal

pub returns-else-is_none-clause-added : goal.returns-else-is_none-clause-added
returns-else-is_none-clause-added c =
    added_there c.self.inside.by_bytes.entries c.args.number c.in_ok-bytes.ensures.spelled c.self.view_is
    (sym c.get_index_of.ensures.found ∙ c.if-is_none.ensures)

pub returns-in_ok-insert-clause-added : goal.returns-in_ok-insert-clause-added
returns-in_ok-insert-clause-added c =
    let none = sym c.get_index_of.ensures.found ∙ c.if-is_none.ensures in
    let new = insert_entry-new (λ x y. bytes_eq x.items y.items) c.self.inside.by_bytes c.in_ok-bytes.bytes c.args.number (none_there _ none) in
    added_new c.in_ok-bytes.bytes c.self.inside.by_bytes.entries c.args.number c.in_ok-bytes.ensures.spelled c.self.view_is none
    (c.in_ok-insert.ensures.entries ∙ new)
