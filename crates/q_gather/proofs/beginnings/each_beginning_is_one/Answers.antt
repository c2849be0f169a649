-- each_beginning_is_one: a law: a book has one beginning of each number of entries, and a beginning of a beginning
-- is one of the book.
use Rattle.q_gather.proofs.Cutting.{some_part, one_part, part_again}
use Rattle.q_gather.proofs.beginnings.each_beginning_is_one.Goals as goal

pub returns : goal.returns
returns c = record { some = some_part; one = one_part; again = part_again }
