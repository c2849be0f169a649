use Rattle.std.proofs.Common.{◌≡◌, drop}
use Rattle.std.specs.Prelude.{find}
use Rattle.std.specs.Str.{bytes_eq}
use Rattle.bq_asm.specs.Mnemonic.{name}
use Rattle.bq_asm.proofs.mnemonic.find.Given as goal

abbrev pub invariant-loop-mnemonic : goal.invariant-loop-mnemonic
invariant-loop-mnemonic l = find (λ m. bytes_eq (name m) l.text) (drop l.mnemonic-index l.mnemonics) ≡ find (λ m. bytes_eq (name m) l.text) l.mnemonics
