-- worked: what the definitions say at telling texts.
use Rattle.std.proofs.Common.{◌≡◌, ◌≢◌, ℕ, zero, suc, ◌<◌, ◌^◌, Bool, true, false, List, [], ◌∷◌, ◌++◌, Ok, get_or, codes, refl, ap, inl, inr, lit<}
use Rattle.std.proofs.Common.{lit≤, arith}
use Rattle.std.specs.Prelude.{slice_index}
use Rattle.std.specs.List.{AllByRecursion}
use Rattle.std.specs.Fmt.{digits}
use Rattle.std.specs.Net.Grammar.{IsSocketText}
use Rattle.std.specs.Net.Socket.{IsSocketAddr, socket_flowinfo, socket_port}
use Rattle.std.specs.Net.Text.{hex, hex_groups_text, ipv6_text, socket_text}
use Rattle.std.specs.declared.net.socket_addr.SocketAddr.{SocketAddr}
use Rattle.std.specs.declared.net.socket_addr.SocketAddr.TheVariants.{V4, V6}
use Rattle.std.proofs.NetLemmas.Theorems.{parse-socket_text}
use Rattle.q_script.specs.Words.{IsFollowed}
use Rattle.q_script.specs.declared.node_line.NodeLine.{NodeLine}
use Rattle.q_script.specs.NodeLine.{node_word, SpellsHeading, SpellsNode}
use Rattle.q_script.specs.File.{IsNoHeading}
use Rattle.q_script.proofs.Foundings.{fraction, beta_first, first_of}
use Rattle.q_script.proofs.Lists.{no_nodes, not_faulty}
use Rattle.q_script.proofs.Nodes.{text_address}
use Rattle.q_script.proofs.Parts.{IsCut}
use Rattle.q_script.proofs.Words.{heading_word_lacks_space, node_word_lacks_space}
use Rattle.q_script.proofs.worked.worked_files.Goals as goal

pub returns-clause-heading : goal.returns-clause-heading
unfolding digits
returns-clause-heading c = first_of (codes "cluster") 7310582 2 3 4 5 (lit< tt) (lit< tt) (lit< tt) (lit< tt) (lit< tt)

-- a heading of number 1 whose fractions are 2/3 and one more
abbrev Heading1 : List ℕ → ℕ → ℕ → Type 0
Heading1 text a b = SpellsHeading text (record { number = 1; beta = fraction 2 3; gamma = fraction a b })

beta_first_1 : Heading1 (codes "cluster 1 2/3 4/5") 4 5
unfolding digits
beta_first_1 = first_of (codes "cluster") 1 2 3 4 5 (lit< tt) (lit< tt) (lit< tt) (lit< tt) (lit< tt)

pub returns-clause-gamma_first : goal.returns-clause-gamma_first
returns-clause-gamma_first c = beta_first heading_word_lacks_space (λ e. omega (arith, e)) beta_first_1

-- the address that a node's text shows is the one that a text spells
shown_once : (a x : SocketAddr) → IsSocketAddr a → socket_flowinfo a ≡ 0 → IsSocketText (socket_text a) x → x ≡ a
shown_once a x fits none h = let same : Ok x ≡ Ok a = parse-socket_text {E = ℕ} a (Ok x) fits none h in cc

all_below : (n : ℕ) (xs : List ℕ) (k : ℕ) → 0 < n → AllByRecursion (λ x. x < n) xs → slice_index xs k < n
all_below n [] k some h = some
all_below n (x ∷ xs) zero some h = h.0
all_below n (x ∷ xs) (suc k) some h = all_below n xs k some h.1

ten : ℕ → ℕ → SocketAddr
ten last port = V4 (record { ip = record { octets = 10 ∷ 88 ∷ 0 ∷ last ∷ [] }; port = port })

port_of_ten : (last port : ℕ) (x : SocketAddr) → last < 2 ^ 8 → port < 2 ^ 16 → IsSocketText (socket_text (ten last port)) x → socket_port x ≡ port
unfolding ten
port_of_ten last port x l p h =
    let bytes = λ (k : ℕ). all_below (2 ^ 8) (10 ∷ 88 ∷ 0 ∷ last ∷ []) k (lit< tt) (lit< tt, (lit< tt, (lit< tt, (l, tt)))) in
    ap socket_port (shown_once (ten last port) x ((refl, bytes), p) refl h)

port_of_4 : (x : SocketAddr) → IsSocketText (codes "[::4]:7000") x → socket_port x ≡ 7000
unfolding digits hex hex_groups_text ipv6_text
port_of_4 x h =
    let groups = λ (k : ℕ). all_below (2 ^ 16) (0 ∷ 0 ∷ 0 ∷ 0 ∷ 0 ∷ 0 ∷ 0 ∷ 4 ∷ []) k (lit< tt)
    (lit< tt, (lit< tt, (lit< tt, (lit< tt, (lit< tt, (lit< tt, (lit< tt, (lit< tt, tt)))))))) in
    let a : SocketAddr = V6 (record { ip = record { segments = 0 ∷ 0 ∷ 0 ∷ 0 ∷ 0 ∷ 0 ∷ 0 ∷ 4 ∷ [] }; port = 7000; flowinfo = 0; scope_id = 0 }) in
    ap socket_port (shown_once a x ((refl, groups), lit< tt, lit< tt) refl h)

port_0 : (x : SocketAddr) → IsSocketText (codes "10.88.0.4:0") x → socket_port x ≡ 0
unfolding digits ten
port_0 x h = port_of_ten 4 0 x (lit< tt) (lit< tt) h

not_0 : (port n : ℕ) → port ≡ suc n → port ≢ 0
not_0 port n e none = omega (arith, e, none)

pub returns-clause-founder : goal.returns-clause-founder
unfolding digits ten
returns-clause-founder c = λ a h. record {
  rest = codes "1 10.88.0.1:7000";
  address = codes "10.88.0.1:7000";
  parts = refl;
  id = (lit< tt, refl);
  is_address = h;
  has_port = not_0 (socket_port a) 6999 (port_of_ten 1 7000 a (lit< tt) (lit< tt) h);
}

pub returns-clause-node : goal.returns-clause-node
unfolding digits
returns-clause-node c = λ a h. record {
  rest = codes "4 [::4]:7000";
  address = codes "[::4]:7000";
  parts = refl;
  id = (lit< tt, refl);
  is_address = h;
  has_port = not_0 (socket_port a) 6999 (port_of_4 a h);
}

-- the line of node 4 is cut into the word, the id and the address
pub returns-clause-port_0 : goal.returns-clause-port_0
unfolding digits
returns-clause-port_0 c = λ n h.
    let cut : IsCut 32 (codes "node 4 10.88.0.4:0") (codes "node") (codes "4 10.88.0.4:0") = (node_word_lacks_space false, refl) in
    let id : IsFollowed 32 (codes "4 10.88.0.4:0") (4, codes "10.88.0.4:0") = (lit< tt, refl) in
    let spelled = text_address (codes "node 4 10.88.0.4:0") (codes "node") (codes "4 10.88.0.4:0") (4, codes "10.88.0.4:0") cut id n h in
    h.has_port (port_0 n.address spelled)

pub returns-clause-no_founder : goal.returns-clause-no_founder
returns-clause-no_founder c = λ a h. let first : 110 ≡ 102 = ap (λ xs. get_or xs 0 0) h.parts in omega (arith, first)

-- the word and a space are some bytes
no_empty : (founder : Bool) (rest : List ℕ) → [] ≡ node_word founder ++ (32 ∷ rest) → ⊥
no_empty true rest e = absurd cc
no_empty false rest e = absurd cc

no_node : (n : NodeLine) → SpellsNode [] n → ⊥
no_node n h = no_empty n.is_founder h.rest h.parts

pub returns-clause-empty_line : goal.returns-clause-empty_line
returns-clause-empty_line c = no_node

pub returns-clause-too_many : goal.returns-clause-too_many
returns-clause-too_many c = λ text. inl (lit≤ tt)

pub returns-clause-not_too_many : goal.returns-clause-not_too_many
returns-clause-not_too_many c = λ text n s f. not_faulty 1023 text n (lit< tt) s f

good : Heading1 (codes "cluster 1 2/3 2/3") 2 3
unfolding digits
good = first_of (codes "cluster") 1 2 3 2 3 (lit< tt) (lit< tt) (lit< tt) (lit< tt) (lit< tt)

improper : Heading1 (codes "cluster 1 2/3 4/3") 4 3
unfolding digits
improper = first_of (codes "cluster") 1 2 3 4 3 (lit< tt) (lit< tt) (lit< tt) (lit< tt) (lit< tt)

pub returns-clause-heading_alone : goal.returns-clause-heading_alone
returns-clause-heading_alone c = (
  record { number = 1; beta = fraction 2 3; gamma = fraction 2 3 },
  [],
  record { first = codes "cluster 1 2/3 2/3"; others = []; parts = refl; heads = good; lists = no_nodes },
  ((record { positive = lit≤ tt; proper = lit≤ tt; small = lit≤ tt }, record { positive = lit≤ tt; proper = lit≤ tt; small = lit≤ tt }), refl),
)

pub returns-clause-improper : goal.returns-clause-improper
returns-clause-improper c = (
  record { number = 1; beta = fraction 2 3; gamma = fraction 4 3 },
  [],
  record { first = codes "cluster 1 2/3 4/3"; others = []; parts = refl; heads = improper; lists = no_nodes },
  λ h. let p = h.1.proper in omega (arith, p),
)

pub returns-clause-id_again : goal.returns-clause-id_again
returns-clause-id_again c = λ a b h. (h.0 0 (record { id = 7; is_founder = false; address = b }) (lit< tt)).0 refl

pub returns-clause-address_again : goal.returns-clause-address_again
returns-clause-address_again c = λ a h. (h.0 0 (record { id = 8; is_founder = false; address = a }) (lit< tt)).1 refl

no_heading : IsNoHeading []
no_heading d h = let e = h.parts in absurd cc

pub returns-clause-empty_text : goal.returns-clause-empty_text
returns-clause-empty_text c = inl (no_heading, refl)

pub returns-clause-empty_line_between : goal.returns-clause-empty_line_between
returns-clause-empty_line_between c = inr (λ n. n _ good, inl (inr no_node, refl))
