-- encode_fitting: the bytes of a message in a version that it is known to fit, at most 60,000.
use Rattle.std.proofs.Common.{[], ◌∷◌, ap, arith, length, length-append}
use Rattle.spelling.specs.Numbers.{number_bytes}
use Rattle.sc_msg.specs.Fields.{fields, fields_bytes}
use Rattle.spelling.proofs.Numbers.{length-number_bytes}
use Rattle.sc_msg.proofs.Unique.{body_small}
use Rattle.sc_msg.proofs.encoder.encode_fitting.Goals as goal

pub returns-clause-small : goal.returns-clause-small
returns-clause-small c =
    let m = c.args.message.now in
    omega (
      arith,
      ap length c.in_ok-push_body.ensures.spelled,
      length-append c.put_u64.new.out.items (fields_bytes (fields c.args.version m.body)),
      ap length c.in_ok-put_u64.ensures.written,
      length-append c.extend_from_slice.new.self.items (number_bytes 8 m.from),
      ap length c.in_ok-extend_from_slice.ensures.items,
      length-append c.new-out.result.items (0x42 ∷ 0x51 ∷ c.byte.result ∷ c.byte-2.result ∷ []),
      ap length c.new-out.ensures.items,
      length-number_bytes 8 m.from,
      body_small c.args.version m.body c.in_ok-push_body.ensures.legal,
    )
