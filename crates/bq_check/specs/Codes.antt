-- Inner: the codes that stand beside a certificate.
use Rattle.std.specs.Prelude.{List}
use Rattle.bq_code.specs.Lowered.{IsLowered}
use Rattle.bq_code.specs.declared.code.Code.{Code}
use Rattle.bq_check.specs.Certificate.{Certificate}
use Rattle.bq_check.specs.Certified.{IsCertified}

-- it is kept with the codes that the loop runs in place of its text
pub record HasCodes (c : Certificate) (codes : List Code) : Type 0 where
  pub certified : IsCertified c
  pub lowered : IsLowered c.text codes
