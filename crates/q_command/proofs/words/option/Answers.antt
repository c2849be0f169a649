-- option: an option, which stands for `default` where it is not given.
use Rattle.std.proofs.Common.{[], ◌∷◌, ap, ◌∙◌}
use Rattle.clap.specs.Words.{Rule, rule_of}
use Rattle.clap.specs.declared.builder.arg.Arg.{Arg}
use Rattle.q_command.proofs.words.option.Goals as goal

pub returns : goal.returns
returns c = (
  ap (λ (a : Arg). a.global) c.default_value.ensures ∙ c.optional.ensures.0,
  ap rule_of c.default_value.ensures ∙ ap (λ (r : Rule). record r { defaults = c.args.default.now ∷ [] }) c.optional.ensures.1,
)
