-- take_u32: the number in the first four bytes.
use Rattle.spelling.proofs.Numbers.{number_parts}
use Rattle.spelling.proofs.front.take_u32.Goals as goal

pub returns-clause-parts : goal.returns-clause-parts
returns-clause-parts c =
    number_parts 4 _ _ c.in_ok-front.front.now _ c.in_ok-front.ensures.len c.in_ok-front.ensures.bytes c.in_ok-front.ensures.parts c.read_u32.ensures
