-- A text that is refused is told by its fault.
use Rattle.std.proofs.Common.{◌≡◌, ℕ, List, Option, inl, inr}
use Rattle.q_script.specs.File.{IsFault}
use Rattle.q_script.specs.declared.fault.ClusterFileFault.TheVariants.{OutOfMemory, Syntax}
use Rattle.q_script.proofs.Refusals.{not_refused}
use Rattle.q_node.specs.declared.ending.NodeEnding.TheVariants as ending
use Rattle.q_node.specs.declared.fault.StartFault.TheVariants.{FileFailed}
use Rattle.q_node.proofs.Refusing as refusing
use Rattle.q_node.specs.Files.{RunsText}

-- a line that is faulty is not told as a file that is not read
pub not_unread : (source : List ℕ) (id line : ℕ) (before after : Option (List ℕ)) → IsFault source (Syntax line)
    → RunsText source id (ending.Refused FileFailed) before after → ⊥
not_unread source id line before after is (inl h) =
    let same : Syntax line ≡ OutOfMemory = not_refused source h.0 (Syntax line) h.1 is in
    absurd cc
not_unread source id line before after is (inr h) = refusing.not_unread h.0 before after h.2
