-- demanded: an option, which must be given.
use Rattle.std.proofs.Common.{true, ap, ◌∙◌}
use Rattle.clap.specs.Words.{Rule, rule_of}
use Rattle.clap.specs.declared.builder.arg.Arg.{Arg}
use Rattle.q_command.proofs.words.demanded.Goals as goal

pub returns : goal.returns
returns c = (
  ap (λ (a : Arg). a.global) c.required.ensures ∙ c.optional.ensures.0,
  ap rule_of c.required.ensures ∙ ap (λ (r : Rule). record r { required = true }) c.optional.ensures.1,
)
