-- take_u16: the number in the first two bytes.
use Rattle.spelling.proofs.Numbers.{number_parts}
use Rattle.spelling.proofs.front.take_u16.Goals as goal

pub returns-clause-parts : goal.returns-clause-parts
returns-clause-parts c =
    number_parts 2 _ _ c.in_ok-front.front.now _ c.in_ok-front.ensures.len c.in_ok-front.ensures.bytes c.in_ok-front.ensures.parts c.read_u16.ensures
