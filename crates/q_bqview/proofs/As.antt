-- What is explained and what is done, of a value that is known in another way.
use Rattle.std.proofs.Common.{◌≡◌, ℕ, Bool, List, Vec, Global, Bor, map, sym, subst}
use Rattle.q_outside.specs.Files.{Reading}
use Rattle.q_sim.specs.Simulates.{Writing}
use Rattle.q_command.specs.declared.words.Invocation.{Invocation}
use Rattle.q_command.specs.declared.words.Invocation.TheVariants as invocation
use Rattle.q_command.specs.declared.words.WordsFault.{WordsFault}
use Rattle.q_bqview.specs.Runs.{Does, Explains, Gathers, Output}

pub explained_as : (f g : WordsFault) (old : Output) (status : ℕ) (new : Output) → f ≡ g → Explains g old status new → Explains f old status new
explained_as f g old status new e h = subst (λ (f : WordsFault). Explains f old status new) (sym e) h

module _ {F : Type 0} (reads : Reading F) (writes : Writing F) (w : Invocation) (old : F) (before : Output) (status : ℕ) (new : F) (after : Output) where
  pub done_as : (v : Invocation) → w ≡ v → Does reads writes v old before status new after → Does reads writes w old before status new after
  done_as v e h = subst (λ (w : Invocation). Does reads writes w old before status new after) (sym e) h

  -- the journals' names are those of a slice
  pub gathered_as : (journals : Vec (Bor (List ℕ)) Global) (pairs : Bool) (names : List (Bor (List ℕ))) → w ≡ invocation.Gather journals pairs
      → names ≡ journals.items → Gathers reads writes (map (λ name. name.now) names) pairs old before status new after
      → Does reads writes w old before status new after
  gathered_as journals pairs names is same h =
      done_as (invocation.Gather journals pairs) is
      (subst (λ (names : List (Bor (List ℕ))). Gathers reads writes (map (λ name. name.now) names) pairs old before status new after) same h)
