-- The line of a node: what is none.
use Rattle.std.proofs.Common.{◌≡◌, ℕ, Bool, List, Some, None, Result, Ok, Err, sym, subst, ap, ◌∙◌, lit<}
use Rattle.std.proofs.lemmas.Option.{same_Some}
use Rattle.std.specs.Result.{result_ok}
use Rattle.std.specs.Net.Grammar.{Parses, IsSocketText}
use Rattle.std.specs.Net.Socket.{socket_port}
use Rattle.std.proofs.NetLemmas.Theorems.{IsSocketText_unique}
use Rattle.std.specs.declared.net.socket_addr.SocketAddr.{SocketAddr}
use Rattle.q_script.specs.Words.{Lacks, IsFollowed}
use Rattle.q_script.proofs.Parts.{IsCut, cut_once, never_cut}
use Rattle.q_script.proofs.Pairs.{followed_once}
use Rattle.q_script.specs.declared.node_line.NodeLine.{NodeLine}
use Rattle.q_script.specs.NodeLine.{node_word, IsNodeWord, SpellsNode}
use Rattle.q_script.proofs.Words.{node_word_lacks_space}

-- where the line of a node is cut
pub node_cut : (s : List ℕ) (n : NodeLine) (h : SpellsNode s n) → IsCut 32 s (node_word n.is_founder) h.rest
node_cut s n h = (node_word_lacks_space n.is_founder, h.parts)

pub no_word : (s : List ℕ) → Lacks 32 s → (n : NodeLine) → SpellsNode s n → ⊥
no_word s e n h = never_cut 32 s (node_word n.is_founder) h.rest e (node_cut s n h)

word_rest : (s a b : List ℕ) → IsCut 32 s a b → (n : NodeLine) (h : SpellsNode s n) → (a ≡ node_word n.is_founder) × (b ≡ h.rest)
word_rest s a b e n h = cut_once 32 s a b (node_word n.is_founder) h.rest e (node_cut s n h)

pub other_word : (s a b : List ℕ) → IsCut 32 s a b → ((f : Bool) → IsNodeWord a f → ⊥) → (n : NodeLine) → SpellsNode s n → ⊥
other_word s a b e never n h = never n.is_founder (word_rest s a b e n h).0

behind : (s a b : List ℕ) → IsCut 32 s a b → (n : NodeLine) (h : SpellsNode s n) → IsFollowed 32 b (n.id, h.address)
behind s a b e n h = subst (λ x. IsFollowed 32 x (n.id, h.address)) (sym (word_rest s a b e n h).1) h.id

pub no_id : (s a b : List ℕ) → IsCut 32 s a b → ((p : ℕ × List ℕ) → IsFollowed 32 b p → ⊥) → (n : NodeLine) → SpellsNode s n → ⊥
no_id s a b e never n h = never (n.id, h.address) (behind s a b e n h)

-- where the line of a node is cut twice, the rest is the text of its address
pub text_address : (s a b : List ℕ) (p : ℕ × List ℕ) → IsCut 32 s a b → IsFollowed 32 b p → (n : NodeLine) → SpellsNode s n → IsSocketText p.1 n.address
text_address s a b p e k n h =
    subst (λ x. IsSocketText x n.address) (sym (followed_once 32 b p (n.id, h.address) (lit< tt) k (behind s a b e n h))) h.is_address

pub no_address : (s a b : List ℕ) (p : ℕ × List ℕ) → IsCut 32 s a b → IsFollowed 32 b p → ((x : SocketAddr) → IsSocketText p.1 x → ⊥) → (n : NodeLine)
    → SpellsNode s n → ⊥
no_address s a b p e k never n h = never n.address (text_address s a b p e k n h)

pub no_port : (s a b : List ℕ) (p : ℕ × List ℕ) (x : SocketAddr) → IsCut 32 s a b → IsFollowed 32 b p → IsSocketText p.1 x → socket_port x ≡ 0
    → (n : NodeLine) → SpellsNode s n → ⊥
no_port s a b p x e k spelled zero n h =
    let same : x ≡ n.address = IsSocketText_unique p.1 x n.address spelled (text_address s a b p e k n h) in
    h.has_port (sym (ap socket_port same) ∙ zero)

-- a parse that gives nothing
pub not_parsed : {E : Type 0} (text : List ℕ) (r : Result SocketAddr E) → Parses IsSocketText text r → None ≡ result_ok r → (x : SocketAddr)
    → IsSocketText text x → ⊥
not_parsed text (Ok a) h e = absurd cc
not_parsed text (Err d) h e = h

-- a parse that gives an address
pub parsed : {E : Type 0} (text : List ℕ) (r : Result SocketAddr E) (x : SocketAddr) → Parses IsSocketText text r → Some x ≡ result_ok r
    → IsSocketText text x
parsed text (Ok a) x h e = subst (IsSocketText text) (same_Some a x (sym e)) h
parsed text (Err d) x h e = absurd cc
