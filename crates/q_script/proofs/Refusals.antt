-- What is first wrong with a text is one thing, and nothing is wrong with a file.
use Rattle.std.proofs.Common.{◌≡◌, ℕ, suc, ◌+◌, ◌≤◌, ◌<◌, true, true≢false, List, [], ◌∷◌, length, refl, ap, sym, ◌∙◌, subst, inl, inr, arith}
use Rattle.std.specs.List.{AllZip}
use Rattle.sc_members.specs.Members.{most_facts, AreFractions, config_of}
use Rattle.sc_node.specs.Nodes.{are_founders}
use Rattle.q_script.specs.Lines.{lines_of, IsFirst}
use Rattle.q_script.specs.declared.node_line.Heading.{Heading}
use Rattle.q_script.specs.declared.node_line.NodeLine.{NodeLine}
use Rattle.q_script.specs.declared.file.ClusterFile.{ClusterFile}
use Rattle.q_script.specs.declared.fault.ClusterFileFault.{ClusterFileFault}
use Rattle.q_script.specs.declared.fault.ClusterFileFault.TheVariants.{Syntax, BadFraction, BadFounders, IdUsed, OutOfMemory}
use Rattle.q_script.specs.NodeLine.{SpellsNode}
use Rattle.q_script.specs.File.{AreApart, HasFault, IsFault, IsFaulty, IsListOf, Spells, founder_ids}
use Rattle.q_script.proofs.Lists.{not_faulty}
use Rattle.q_script.proofs.Once.{list_once}

-- ---- lines

first_once : (P : ℕ → List ℕ → Type 0) (b : ℕ) (lines : List (List ℕ)) (m n : ℕ) → IsFirst P b lines m → IsFirst P b lines n → m ≡ n
first_once P b [] m n h k = absurd h
first_once P b (l ∷ lines) m n (inl h) (inl k) = h.1 ∙ sym k.1
first_once P b (l ∷ lines) m n (inl h) (inr k) = absurd (k.0 h.0)
first_once P b (l ∷ lines) m n (inr h) (inl k) = absurd (h.0 k.0)
first_once P b (l ∷ lines) m n (inr h) (inr k) = first_once P (suc b) lines m n h.1 k.1

none_faulty : (b : ℕ) (lines : List (List ℕ)) (nodes : List NodeLine) (n : ℕ) → AllZip SpellsNode lines nodes → b + length nodes ≤ most_facts
    → IsFirst IsFaulty (suc b) lines n → ⊥
none_faulty b [] nodes n h few f = f
none_faulty b (l ∷ lines) [] n h few f = h
none_faulty b (l ∷ lines) (x ∷ nodes) n h few (inl f) = let here : b < most_facts = omega arith in not_faulty b l x here h.0 f.0
none_faulty b (l ∷ lines) (x ∷ nodes) n h few (inr f) =
    let next : suc b + length nodes ≤ most_facts = omega arith in none_faulty (suc b) lines nodes n h.1 next f.1

no_line_faulty : (text : List ℕ) (d : Heading) (nodes : List NodeLine) (n : ℕ) → IsListOf text d nodes → IsFirst IsFaulty 0 (lines_of text) n → ⊥
no_line_faulty text d nodes n h f = elim (subst (λ u. IsFirst IsFaulty 0 u n) h.parts f) [
  | inl first ↦ first.0 d h.heads
  | inr other ↦ let few : 0 + length nodes ≤ most_facts = omega (arith, h.lists.few) in none_faulty 0 h.others nodes n h.lists.each few other.1
]

-- ---- the whole

same_fault : (d : Heading) (nodes : List NodeLine) (f g : ClusterFileFault) → HasFault d nodes f → HasFault d nodes g → f ≡ g
same_fault d nodes (Syntax n) g h k = absurd h
same_fault d nodes OutOfMemory g h k = absurd h
same_fault d nodes f (Syntax n) h k = absurd k
same_fault d nodes f OutOfMemory h k = absurd k
same_fault d nodes BadFraction BadFraction h k = refl
same_fault d nodes BadFraction g h k = absurd (h k.0)
same_fault d nodes f BadFraction h k = absurd (k h.0)
same_fault d nodes BadFounders BadFounders h k = refl
same_fault d nodes BadFounders IdUsed h k = absurd (true≢false (sym k.1 ∙ h.1))
same_fault d nodes IdUsed BadFounders h k = absurd (true≢false (sym h.1 ∙ k.1))
same_fault d nodes IdUsed IdUsed h k = refl

-- a text that is a list, with which this is wrong
abbrev Wrong : List ℕ → ClusterFileFault → Type 0
Wrong text f = (d : Heading) × (nodes : List NodeLine) × IsListOf text d nodes × HasFault d nodes f

moved : (text : List ℕ) (d : Heading) (nodes : List NodeLine) (f : ClusterFileFault) → IsListOf text d nodes → Wrong text f → HasFault d nodes f
moved text d nodes f h w =
    let same = list_once text w.0 d w.1 nodes w.2 h in
    subst (λ ns. HasFault d ns f) same.1 (subst (λ e. HasFault e w.1 f) same.0 w.3)

same_wrong : (text : List ℕ) (f g : ClusterFileFault) → Wrong text f → Wrong text g → f ≡ g
same_wrong text f g x y = same_fault x.0 x.1 f g x.3 (moved text x.0 x.1 g x.2 y)

pub one_fault : (text : List ℕ) (f g : ClusterFileFault) → IsFault text f → IsFault text g → (f ≡ OutOfMemory → ⊥) → (g ≡ OutOfMemory → ⊥)
    → f ≡ g
one_fault text OutOfMemory g x y p q = absurd (p refl)
one_fault text f OutOfMemory x y p q = absurd (q refl)
one_fault text (Syntax m) (Syntax n) x y p q = ap Syntax (first_once IsFaulty 0 (lines_of text) m n x y)
one_fault text (Syntax n) g x y p q = absurd (no_line_faulty text y.0 y.1 n y.2 x)
one_fault text f (Syntax n) x y p q = absurd (no_line_faulty text x.0 x.1 n x.2 y)
one_fault text f g x y p q = same_wrong text f g x y

-- ---- files

nothing_wrong : (d : Heading) (nodes : List NodeLine) (f : ClusterFileFault) → AreFractions d.beta d.gamma → are_founders (founder_ids nodes) ≡ true
    → AreApart nodes → HasFault d nodes f → ⊥
nothing_wrong d nodes BadFraction x y z h = h x
nothing_wrong d nodes BadFounders x y z h = true≢false (sym y ∙ h.1)
nothing_wrong d nodes IdUsed x y z h = h.2 z
nothing_wrong d nodes (Syntax n) x y z h = h
nothing_wrong d nodes OutOfMemory x y z h = h

not_wrong : (text : List ℕ) (file : ClusterFile) (f : ClusterFileFault) → Spells text file → Wrong text f → ⊥
not_wrong text file f s w = nothing_wrong s.heading file.nodes.items f s.fractions s.founders s.apart (moved text s.heading file.nodes.items f s.list w)

pub not_refused : (text : List ℕ) (file : ClusterFile) (f : ClusterFileFault) → Spells text file → IsFault text f → f ≡ OutOfMemory
not_refused text file OutOfMemory s x = refl
not_refused text file (Syntax n) s x = absurd (no_line_faulty text s.heading file.nodes.items n s.list x)
not_refused text file f s x = absurd (not_wrong text file f s x)

pub one_file : (text : List ℕ) (a b : ClusterFile) → Spells text a → Spells text b
    → (a.number ≡ b.number) × (a.config ≡ b.config) × (a.nodes.items ≡ b.nodes.items)
one_file text a b h k =
    let same = list_once text h.heading k.heading a.nodes.items b.nodes.items h.list k.list in
    (h.number ∙ ap (λ d. d.number) same.0 ∙ sym k.number, h.config ∙ ap (λ d. config_of d.beta d.gamma) same.0 ∙ sym k.config, same.1)
