-- What is known of a cluster's nodes, and how many of them a phase waits for.
use Rattle.std.specs.Prelude.{ℕ, ◌+◌, ◌-◌, ◌*◌, ◌/◌, ◌≤◌, max, Bool, ◌||◌, nat_lt, List}
use Rattle.std.specs.FinSet as set
use Rattle.sc_members.specs.Ids.{Ids}
use Rattle.sc_members.specs.declared.config.Fraction.{Fraction}

-- who is known to have entered, joined and left
pub record Facts : Type 0 where
  pub entered : Ids
  pub joined : Ids
  pub left : Ids

-- at most so many ids of each
abbrev pub most_facts : ℕ
most_facts = 1024

pub record IsFacts (f : Facts) : Type 0 where
  pub entered : set.len f.entered ≤ most_facts
  pub joined : set.len f.joined ≤ most_facts
  pub left : set.len f.left ≤ most_facts

-- one of the three has more
abbrev pub is_overfull : Facts → Bool
is_overfull f = nat_lt most_facts (set.len f.entered) || (nat_lt most_facts (set.len f.joined) || nat_lt most_facts (set.len f.left))

-- nobody entered, joined or left
abbrev pub no_facts : Facts
no_facts = record { entered = set.empty; joined = set.empty; left = set.empty }

-- these have entered and joined
abbrev pub founding : List ℕ → Facts
founding ids = record { entered = set.from_list ids; joined = set.from_list ids; left = set.empty }

-- entered and not left
abbrev pub present : Facts → ℕ
present f = set.len (set.difference f.entered f.left)

-- joined and not left
abbrev pub members : Facts → ℕ
members f = set.len (set.difference f.joined f.left)

-- max(1, ceil(num * count / den))
abbrev pub threshold : ℕ → ℕ → ℕ → ℕ
threshold num den count = max 1 ((num * count + (den - 1)) / den)

-- what two nodes know together
abbrev pub union_facts : Facts → Facts → Facts
union_facts f g = record { entered = set.union f.entered g.entered; joined = set.union f.joined g.joined; left = set.union f.left g.left }

abbrev pub with_entered : Facts → ℕ → Facts
with_entered f id = record { entered = set.insert f.entered id; joined = f.joined; left = f.left }

-- who has joined has entered
abbrev pub with_joined : Facts → ℕ → Facts
with_joined f id = record { entered = set.insert f.entered id; joined = set.insert f.joined id; left = f.left }

abbrev pub with_left : Facts → ℕ → Facts
with_left f id = record { entered = f.entered; joined = f.joined; left = set.insert f.left id }

-- the fractions of a cluster: beta for the phases of operations, gamma for joining
pub record Config : Type 0 where
  pub beta_num : ℕ
  pub beta_den : ℕ
  pub gamma_num : ℕ
  pub gamma_den : ℕ

-- a fraction num / den with 1 ≤ num ≤ den ≤ 1000
pub record IsFraction (num den : ℕ) : Type 0 where
  pub positive : 1 ≤ num
  pub proper : num ≤ den
  pub small : den ≤ 1000

pub record IsConfig (c : Config) : Type 0 where
  pub beta : IsFraction c.beta_num c.beta_den
  pub gamma : IsFraction c.gamma_num c.gamma_den

-- both are fractions num / den with 1 ≤ num ≤ den ≤ 1000
abbrev pub AreFractions : Fraction → Fraction → Type 0
AreFractions beta gamma = IsFraction beta.numerator beta.denominator × IsFraction gamma.numerator gamma.denominator

-- the fractions of a cluster with this beta and this gamma
abbrev pub config_of : Fraction → Fraction → Config
config_of beta gamma = record {
  beta_num = beta.numerator;
  beta_den = beta.denominator;
  gamma_num = gamma.numerator;
  gamma_den = gamma.denominator;
}
