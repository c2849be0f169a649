-- The first words of lines, which have no space.
use Rattle.std.proofs.Common.{rules, ◌≡◌, ℕ, Bool, true, false, not, List, ap, sym, ◌∙◌, true≢false}
use Rattle.std.specs.Prelude.{codes}
use Rattle.std.specs.Str.{bytes_eq}
use Rattle.std.proofs.lemmas.Slice.Eq.{bytes_eq-Decides}
use Rattle.q_script.specs.Words.{Lacks}
use Rattle.q_script.specs.NodeLine.{node_word}

pub founding_word_lacks_space : Lacks 32 (codes "nodes")
founding_word_lacks_space = search rules

pub heading_word_lacks_space : Lacks 32 (codes "cluster")
heading_word_lacks_space = search rules

pub node_word_lacks_space : (founder : Bool) → Lacks 32 (node_word founder)
node_word_lacks_space true = search rules
node_word_lacks_space false = search rules

-- a test says that the word is another
pub not_this_word : (a word : List ℕ) (b : Bool) → b ≡ not (bytes_eq a word) → b ≡ true → a ≡ word → ⊥
not_this_word a word b e t k =
    let same : bytes_eq a word ≡ true = (bytes_eq-Decides a word).1 k in
    true≢false (sym t ∙ e ∙ ap not same)
