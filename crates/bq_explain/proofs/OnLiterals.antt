-- What a worked value unfolds to compute the digits of its numbers.
use Rattle.std.specs.Prelude.{⊤}
use Rattle.std.specs.Fmt.{digits}

unfoldable pub digits_on_literals : ⊤
unfolding digits
digits_on_literals = tt
