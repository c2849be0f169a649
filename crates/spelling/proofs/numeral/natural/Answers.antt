-- natural: the number below 2^64 that a text stands for.
use Rattle.std.proofs.Common.{sym, ◌∙◌}
use Rattle.spelling.proofs.Decimal.{natural_is}
use Rattle.spelling.proofs.numeral.natural.Goals as goal

pub returns-then-is_decimal : goal.returns-then-is_decimal
returns-then-is_decimal c = c.ok.ensures.value ∙ natural_is _ _ (sym c.is_decimal.ensures ∙ c.if-is_decimal.true) c.parse.ensures.value.0
