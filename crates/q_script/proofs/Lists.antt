-- The nodes of a file, read line by line, and the whole list.
use Rattle.std.proofs.Common.{◌≡◌, ◌⊎◌, ℕ, suc, ◌+◌, ◌<◌, ◌≤◌, List, [], ◌∷◌, ◌++◌, length, take, drop, get_or, sym, subst, inl, inr, arith, refl}
use Rattle.std.specs.List.{AllZip}
use Rattle.std.proofs.lemmas.List.{length-append}
use Rattle.std.proofs.lemmas.Slice.Zip.{all_zipped_more}
use Rattle.sc_members.specs.Members.{most_facts}
use Rattle.q_script.specs.Lines.{parts_of, lines_of, IsFirst}
use Rattle.q_script.proofs.Lines.{pieces_at}
use Rattle.q_script.specs.declared.node_line.Heading.{Heading}
use Rattle.q_script.specs.declared.node_line.NodeLine.{NodeLine}
use Rattle.q_script.specs.declared.fault.ClusterFileFault.{ClusterFileFault}
use Rattle.q_script.specs.declared.fault.ClusterFileFault.TheVariants.{Syntax, BadFraction, BadFounders, IdUsed, OutOfMemory}
use Rattle.q_script.specs.NodeLine.{SpellsHeading, SpellsNode}
use Rattle.q_script.specs.File.{AreNodes, IsListOf, IsNoHeading, IsFaulty, IsNodeFault, IsListFault}

-- ---- the loop over the lines of nodes

pub no_nodes : AreNodes [] []
no_nodes = record { each = tt; few = omega arith }

pub one_more : (done : List (List ℕ)) (t : List ℕ) (nodes : List NodeLine) (n : NodeLine) → AreNodes done nodes → SpellsNode t n
    → length nodes < most_facts → AreNodes (done ++ t ∷ []) (nodes ++ n ∷ [])
one_more done t nodes n h s l = record {
  each = all_zipped_more SpellsNode done nodes t n h.each s;
  few = let e = length-append nodes (n ∷ []) in omega (arith, e);
}

-- a line behind so many nodes is faulty
abbrev pub IsFaultyBehind : ℕ → List ℕ → Type 0
IsFaultyBehind nodes text = (most_facts ≤ nodes) ⊎ ((node : NodeLine) → SpellsNode text node → ⊥)

pub not_faulty : (b : ℕ) (t : List ℕ) (n : NodeLine) → b < most_facts → SpellsNode t n → IsFaultyBehind b t → ⊥
not_faulty b t n l s f = elim f [ inl many ↦ omega arith | inr none ↦ none n s ]

first_from : (b : ℕ) (done : List (List ℕ)) (v : List NodeLine) (t : List ℕ) (rest : List (List ℕ)) → AllZip SpellsNode done v
    → b + length v ≤ most_facts → IsFaultyBehind (b + length v) t → IsFirst IsFaulty (suc b) (done ++ t ∷ rest) (b + length v + 2)
first_from b [] [] t rest h few n = inl (subst (λ k. IsFaultyBehind k t) (omega arith) n, omega arith)
first_from b [] (y ∷ v) t rest h few n = absurd h
first_from b (x ∷ done) [] t rest h few n = absurd h
first_from b (x ∷ done) (y ∷ v) t rest h few n =
    let here : b < most_facts = omega arith in
    let next : suc b + length v ≤ most_facts = omega arith in
    let moved : b + suc (length v) ≡ suc b + length v = omega arith in
    let line : suc b + length v + 2 ≡ b + suc (length v) + 2 = omega arith in
    let later = first_from (suc b) done v t rest h.1 next (subst (λ k. IsFaultyBehind k t) moved n) in
    inr (not_faulty b x y here h.0, subst (IsFirst IsFaulty (suc (suc b)) (done ++ t ∷ rest)) line later)

-- the line that comes now is the first faulty one
pub first_faulty : (texts done : List (List ℕ)) (nodes : List NodeLine) (t : List ℕ) (i k : ℕ) → done ≡ take i texts → i < length texts
    → t ≡ get_or texts i t → AreNodes done nodes → k ≡ length nodes → IsFaultyBehind k t → IsFirst IsFaulty 1 texts (k + 2)
first_faulty texts done nodes t i k f l e h d n =
    let now : k ≡ 0 + length nodes = omega (arith, d) in
    let line : 0 + length nodes + 2 ≡ k + 2 = omega (arith, d) in
    let few : 0 + length nodes ≤ most_facts = omega (arith, h.few) in
    let here = first_from 0 done nodes t (drop (i + 1) texts) h.each few (subst (λ x. IsFaultyBehind x t) now n) in
    subst (λ u. IsFirst IsFaulty 1 u (k + 2)) (sym (pieces_at texts done i t f l e))
    (subst (IsFirst IsFaulty 1 (done ++ t ∷ drop (i + 1) texts)) line here)

pub all_read : (texts done : List (List ℕ)) (nodes : List NodeLine) → done ≡ texts → AreNodes done nodes → AreNodes texts nodes
all_read texts done nodes e h = subst (λ u. AreNodes u nodes) e h

-- ---- the first line and the others

-- line 1 is of another form
pub first_fault : (text : List ℕ) {a : List ℕ} {others : List (List ℕ)} {fault : ClusterFileFault} → lines_of text ≡ a ∷ others
    → (fault ≡ Syntax 1) × IsNoHeading a → IsListFault text fault
first_fault text e h = subst (IsListFault text) (sym h.0) (subst (λ u. IsFirst IsFaulty 0 u 1) (sym e) (inl (h.1, refl)))

pub fault_later : (text : List ℕ) {a : List ℕ} (b : List ℕ) (d : Heading) (fault : ClusterFileFault) → lines_of text ≡ a ∷ parts_of b
    → SpellsHeading a d → IsNodeFault b fault → IsListFault text fault
fault_later text b d (Syntax line) e s h = subst (λ u. IsFirst IsFaulty 0 u line) (sym e) (inr (λ n. n d s, h))
fault_later text b d OutOfMemory e s h = tt
fault_later text b d BadFraction e s h = h
fault_later text b d BadFounders e s h = h
fault_later text b d IdUsed e s h = h

pub list_is : {text a : List ℕ} {others : List (List ℕ)} {d : Heading} {nodes : List NodeLine} → lines_of text ≡ a ∷ others → SpellsHeading a d
    → AreNodes others nodes → IsListOf text d nodes
list_is {a = a} {others = others} e s h = record { first = a; others = others; parts = e; heads = s; lists = h }
