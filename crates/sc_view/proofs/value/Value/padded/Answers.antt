-- Value::padded: the value of at most 112 bytes.
use Rattle.sc_view.proofs.ValueLemmas.{padded_copy}
use Rattle.sc_view.proofs.value.Value.padded.Goals as goal

pub invariant_of-result : goal.invariant_of-result
invariant_of-result c = padded_copy c.args.bytes.now c.copy_from_slice.new.self c.copy_from_slice.ensures.after c.requires
