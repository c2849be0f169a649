-- without_last_feed: the text without a line feed at its end.
use Rattle.std.proofs.Common.{Bor, List, ℕ, refl, ap, ◌∙◌, lit<}
use Rattle.std.proofs.lemmas.Str.Pattern.{strip_suffix_char}
use Rattle.q_script.proofs.Parts.{feed_is}
use Rattle.q_script.proofs.text.without_last_feed.Goals as goal

pub returns : goal.returns
returns c =
    ap (λ (x : Bor (List ℕ)). x.now) c.unwrap_or.ensures
    ∙ feed_is c.args.text.now c.args.text c.strip_suffix.result refl (strip_suffix_char 10 _ _ c.strip_suffix.ensures.cases (lit< tt))
