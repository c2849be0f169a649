-- decoded: the value of the bytes that hexadecimal digits spell.
use Rattle.q_script.proofs.Values.{too_many, written, read_as}
use Rattle.q_script.proofs.records.decoded.Goals as goal

pub returns-then-len-gt-MOST_VALUE_BYTES : goal.returns-then-len-gt-MOST_VALUE_BYTES
returns-then-len-gt-MOST_VALUE_BYTES c =
    too_many c.args.digits.now c.are_digits.result c.then_some.result _ c.are_digits.ensures c.then_some.ensures c.if-len-gt-MOST_VALUE_BYTES.true

pub returns-in-Ok : goal.returns-in-Ok
returns-in-Ok c = (
  c.decode_to_slice.new.out,
  written c.args.digits.now c.decode_to_slice.new.out _ c.decode_to_slice.result _ c.decode_to_slice.ensures.value c.in-Ok.is,
  read_as c.decode_to_slice.new.out c.new.result c.new.ensures.ok c.new.ensures.bad,
)
