-- A text spells one heading and one list of nodes.
use Rattle.std.proofs.Common.{◌≡◌, ℕ, Bool, true, false, List, [], ◌∷◌, get_or, refl, ap, sym, ◌∙◌, subst, arith, lit<}
use Rattle.std.specs.Prelude.{codes}
use Rattle.std.specs.List.{AllZip}
use Rattle.std.proofs.NetLemmas.Theorems.{IsSocketText_unique}
use Rattle.std.specs.Net.Grammar.{IsSocketText}
use Rattle.sc_members.specs.declared.config.Fraction.{Fraction}
use Rattle.q_script.specs.Words.{IsFollowed}
use Rattle.q_script.proofs.Parts.{cut_once, same_lines}
use Rattle.q_script.proofs.Pairs.{followed_once, number_once}
use Rattle.q_script.specs.declared.node_line.Heading.{Heading}
use Rattle.q_script.specs.declared.node_line.NodeLine.{NodeLine}
use Rattle.q_script.specs.NodeLine.{SpellsHeading, SpellsNode, node_word}
use Rattle.q_script.specs.File.{IsListOf}
use Rattle.q_script.proofs.Foundings.{first_once}
use Rattle.q_script.proofs.Words.{heading_word_lacks_space}
use Rattle.q_script.proofs.Nodes.{node_cut}

-- ---- lines

pub heading_once : (s : List ℕ) (d e : Heading) → SpellsHeading s d → SpellsHeading s e → d ≡ e
heading_once s d e h k =
    let same : (d.number, d.beta, d.gamma) ≡ (e.number, e.beta, e.gamma) = first_once (codes "cluster") s _ _ heading_word_lacks_space h k in
    ap (λ (f : ℕ × Fraction × Fraction). let x : Heading = record { number = f.0; beta = f.1; gamma = f.2 } in x) same

word_once : (a b : Bool) → node_word a ≡ node_word b → a ≡ b
word_once true true e = refl
word_once false false e = refl
word_once true false e = let first : 102 ≡ 110 = ap (λ xs. get_or xs 0 0) e in absurd (omega (arith, first))
word_once false true e = let first : 110 ≡ 102 = ap (λ xs. get_or xs 0 0) e in absurd (omega (arith, first))

node_once : (s : List ℕ) (m n : NodeLine) → SpellsNode s m → SpellsNode s n → m ≡ n
node_once s m n h k =
    let parts = cut_once 32 s (node_word m.is_founder) h.rest (node_word n.is_founder) k.rest (node_cut s m h) (node_cut s n k) in
    let founder : m.is_founder ≡ n.is_founder = word_once m.is_founder n.is_founder parts.0 in
    let kn : IsFollowed 32 h.rest (n.id, k.address) = subst (λ x. IsFollowed 32 x (n.id, k.address)) (sym parts.1) k.id in
    let id : m.id ≡ n.id = number_once 32 h.rest (m.id, h.address) (n.id, k.address) (lit< tt) h.id kn in
    let text : h.address ≡ k.address = followed_once 32 h.rest (m.id, h.address) (n.id, k.address) (lit< tt) h.id kn in
    let address : m.address ≡ n.address = IsSocketText_unique h.address _ _ h.is_address (subst (λ x. IsSocketText x n.address) (sym text) k.is_address) in
    ap (λ i. let x : NodeLine = record { id = i; is_founder = m.is_founder; address = m.address } in x) id
    ∙ ap (λ f. let x : NodeLine = record { id = n.id; is_founder = f; address = m.address } in x) founder
    ∙ ap (λ a. let x : NodeLine = record { id = n.id; is_founder = n.is_founder; address = a } in x) address

-- ---- lists

nodes_once : (lines : List (List ℕ)) (ms ns : List NodeLine) → AllZip SpellsNode lines ms → AllZip SpellsNode lines ns → ms ≡ ns
nodes_once [] [] [] h k = refl
nodes_once [] (m ∷ ms) ns h k = absurd h
nodes_once [] [] (n ∷ ns) h k = absurd k
nodes_once (l ∷ lines) [] ns h k = absurd h
nodes_once (l ∷ lines) (m ∷ ms) [] h k = absurd k
nodes_once (l ∷ lines) (m ∷ ms) (n ∷ ns) h k = ap (λ x. x ∷ ms) (node_once l m n h.0 k.0) ∙ ap (λ xs. n ∷ xs) (nodes_once lines ms ns h.1 k.1)

pub list_once : (text : List ℕ) (d e : Heading) (ms ns : List NodeLine) → IsListOf text d ms → IsListOf text e ns → (d ≡ e) × (ms ≡ ns)
list_once text d e ms ns h k =
    let parts = same_lines (sym h.parts ∙ k.parts) in (
      heading_once h.first d e h.heads (subst (λ x. SpellsHeading x e) (sym parts.0) k.heads),
      nodes_once h.others ms ns h.lists.each (subst (λ x. AllZip SpellsNode x ns) (sym parts.1) k.lists.each),
    )
