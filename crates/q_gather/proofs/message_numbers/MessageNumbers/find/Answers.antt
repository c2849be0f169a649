-- The bytes are looked up.
use Rattle.std.proofs.Common.{◌∙◌}
use Rattle.q_gather.proofs.Table.{found_number}
use Rattle.q_gather.proofs.message_numbers.MessageNumbers.find.Goals as goal

pub returns-clause-number : goal.returns-clause-number
returns-clause-number c =
    c.copied.ensures ∙ found_number c.self.inside.by_bytes.entries c.in_ok-bytes.ensures.spelled c.self.view_is c.get.ensures.value
