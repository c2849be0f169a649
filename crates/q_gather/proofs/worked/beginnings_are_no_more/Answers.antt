-- beginnings_are_no_more: no part of a book is longer than the book; and books of which one delivers a message that
-- none of them gives do not hold what they deliver.
use Rattle.q_gather.proofs.BookHeads.{part_brief}
use Rattle.q_gather.proofs.worked.beginnings_are_no_more.Goals as goal

pub returns : goal.returns
returns c = record { brief = part_brief; lost = λ books k place b m here at none hold. none (hold k place b m here at) }
