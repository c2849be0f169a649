-- records_of_values: values make records of 16 bytes more.
use Rattle.std.proofs.Common.{length, arith}
use Rattle.sc_view.specs.Values.{IsWithin}
use Rattle.q_session.proofs.laws.records_of_values.Goals as goal

pub returns : goal.returns
returns c = λ l v h. record {
  at = λ id e is. let within : IsWithin (length e.value) l = h.at id e is in record { low = omega (arith, within.least); high = omega (arith, within.most) };
}
