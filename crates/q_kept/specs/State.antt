-- What contracts see of a recorder.
use Rattle.std.specs.Prelude.{ℕ, Bool, List, Option}

pub record RecorderState : Type 0 where
  pub file : Option (List ℕ)  -- what its file holds, where that is known
  pub kept : Option (List ℕ)  -- what of it would be there if the power failed, where that is known
  pub begun : Bool  -- the head of the journal is there
  pub written : ℕ  -- how many entries are there
  pub broken : Bool  -- a write failed, so nothing is written any more
  pub keeps : Bool  -- each time it asks the system to keep what was written
