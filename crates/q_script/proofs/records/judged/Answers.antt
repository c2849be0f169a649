-- judged: the record of a line behind the record with this id, or behind none.
use Rattle.std.proofs.Common.{rules, ◌≡◌, ◌+◌, ◌<◌, length, arith, subst}
use Rattle.bq_range.specs.Interval.{IsIn}
use Rattle.q_script.specs.Records.{IsAbove, IsReadAs}
use Rattle.q_script.proofs.records.judged.Goals as goal

pub returns : goal.returns
returns c = λ count. (
  record { id = c.in-Some.line.id; number = c.in-Some.line.number; value = c.in-Some.ensures.0 },
  c.in-Some.ensures.1,
  λ above. let less : c.in-Some-last.last < c.in-Some.line.id = subst (λ o. IsAbove o c.in-Some.line.id) c.in-Some-last.is above in omega arith,
)

pub returns-then-line-eq0 : goal.returns-then-line-eq0
returns-then-line-eq0 c = λ count. (
  record { id = c.in-Some.line.id; number = c.in-Some.line.number; value = c.in-Some.ensures.0 },
  c.in-Some.ensures.1,
  search rules,
  c.if-line-eq0.true,
)

pub returns-in_default-suited : goal.returns-in_default-suited
returns-in_default-suited c = λ count. (
  record { id = c.in-Some.line.id; number = c.in-Some.line.number; value = c.in-Some.ensures.0 },
  c.in-Some.ensures.1,
  search rules,
  omega arith,
  c.in_default-suited.ensures c.in-Some.ensures.0 c.in-Some.ensures.2,
)

pub returns-2 : goal.returns-2
returns-2 c =
    let same : c.in-Some-suited.value ≡ c.in-Some.ensures.0 = subst (IsReadAs c.in-Some.ensures.0) c.in-Some-suited.ensures.0 c.in-Some.ensures.2 in (
      record { id = c.in-Some.line.id; number = c.in-Some.line.number; value = c.in-Some.ensures.0 },
      c.in-Some.ensures.1,
      (search rules, omega arith, subst (λ x. IsIn (16 + length x) c.args.lengths) same c.in-Some-suited.ensures.1),
      cc (c.in-Some-new.ensures.1),
    )
