-- Heads and events can be told apart by the bytes in front.
use Rattle.std.proofs.Common.{◌≡◌, ℕ, ◌^◌, ◌<◌, List, [], ◌∷◌, ◌++◌, length, Option, Some, None, refl, sym, ap, ◌∙◌, arith, append_assoc}
use Rattle.bq_insn.proofs.Unique.{one_text}
use Rattle.bq_insn.specs.Slots.{spelling}
use Rattle.bq_check.specs.Spelling.{notes_bytes}
use Rattle.bq_check.proofs.Read.{one_notes}
use Rattle.sc_members.specs.Members.{Config}
use Rattle.sc_msg.specs.declared.version.Version.{Version}
use Rattle.sc_msg.specs.declared.version.Version.TheVariants.{First, Second}
use Rattle.spelling.specs.Numbers.{number_bytes}
use Rattle.sc_msg.specs.Values.{version_byte}
use Rattle.spelling.specs.Codes.{IsPrefixCode}
use Rattle.spelling.proofs.Codes.{one_byte, other_byte, same_front, number_front, number_once, numbers_are_code, pair, along, counted}
use Rattle.sc_msg.proofs.Unique.{one_spelling}
use Rattle.q_replay.specs.declared.raw_entry.RawEntry.{RawEntry}
use Rattle.q_replay.specs.declared.raw_entry.RawEntry.TheVariants.{Leave, Register, Ask, Store, Deliver, HandOut, Post}
use Rattle.q_replay.specs.Head.{Head}
use Rattle.q_replay.specs.Spelling.{config_bytes, start_bytes, head_bytes, AreShort, AreFounders, IsHead, code, body_bytes, event_bytes, IsWritten}
use Rattle.q_book.specs.Books.{notes_form}
use Rattle.q_replay.specs.Reading.{ids_bytes, AreIds}
use Rattle.q_replay.proofs.Sizes.{text_fits, body_small}

-- a legal value was read in front of the bytes, and these are left
pub record IsRead {A : Type 0} (bytes_of : A → List ℕ) (Legal : A → Type 0) (bytes : List ℕ) (value : A) (rest : List ℕ) : Type 0 where
  pub legal : Legal value
  pub parts : bytes ≡ bytes_of value ++ rest

-- so many bytes were, and these are left
pub record IsFront (bytes front rest : List ℕ) (n : ℕ) : Type 0 where
  pub long : length front ≡ n
  pub parts : bytes ≡ front ++ rest

-- the length of what follows was
abbrev pub IsLengthRead : List ℕ → ℕ → List ℕ → Type 0
IsLengthRead bytes n rest = IsRead (number_bytes 4) (λ k. k < 2 ^ 32) bytes n rest

-- ---- how a node began

pub ids_are_code : IsPrefixCode ids_bytes AreIds
ids_are_code = counted (number_bytes 8) (λ id. id < 2 ^ 64) (numbers_are_code 8) 2

start_front : (a b : Option (List ℕ)) (x y : List ℕ) → AreFounders a → AreFounders b → start_bytes a ++ x ≡ start_bytes b ++ y → (a ≡ b) × (x ≡ y)
start_front None None x y p q e = (refl, (one_byte 1 1 x y e).1)
start_front None (Some b) x y p q e = absurd (other_byte 1 0 x (ids_bytes b ++ y) (λ h. omega (arith, h)) e)
start_front (Some a) None x y p q e = absurd (other_byte 0 1 (ids_bytes a ++ x) y (λ h. omega (arith, h)) e)
start_front (Some a) (Some b) x y p q e =
    let s = ids_are_code.one a b x y p q (one_byte 0 0 (ids_bytes a ++ x) (ids_bytes b ++ y) e).1 in
    (ap (λ (l : List ℕ). Some l) s.0, s.1)

pub starts_are_code : IsPrefixCode start_bytes AreFounders
starts_are_code = record { one = start_front }

-- ---- fractions

pub configs_are_code : IsPrefixCode config_bytes AreShort
configs_are_code =
    let short = numbers_are_code 2 in
    let four = pair _ _ _ _ short (pair _ _ _ _ short (pair _ _ _ _ short short)) in
    let all = along (λ (c : Config). (c.beta_num, (c.beta_den, (c.gamma_num, c.gamma_den))))
    (λ a b e i. record { beta_num = (e i).0; beta_den = (e i).1.0; gamma_num = (e i).1.1.0; gamma_den = (e i).1.1.1 }) _ _ four in
    record { one = λ c d x y p q e. all.one c d x y (p.0, (p.1, (p.2, p.3))) (q.0, (q.1, (q.2, q.3))) e }

-- ---- heads, by their parts

abbrev pub format_bytes : Version → List ℕ
format_bytes version = 0x42 ∷ 0x51 ∷ 0x4a ∷ version_byte version ∷ []

same_version : (u v : Version) → version_byte u ≡ version_byte v → u ≡ v
same_version First First e = refl
same_version First Second e = absurd (omega (arith, e))
same_version Second First e = absurd (omega (arith, e))
same_version Second Second e = refl

pub versions_are_code : IsPrefixCode format_bytes (λ version. Unit {0})
versions_are_code = record { one = λ u v x y p q e. (same_version u v cc, cc) }

-- the fractions and how the node began; the id in front of them; and the format in front of all

pub tails_are_code : IsPrefixCode (λ (z : Config × Option (List ℕ)). config_bytes z.0 ++ start_bytes z.1) (λ z. AreShort z.0 × AreFounders z.1)
tails_are_code = pair config_bytes start_bytes AreShort AreFounders configs_are_code starts_are_code

abbrev pub Parts : Type 0
Parts = Version × (ℕ × (Config × Option (List ℕ)))

abbrev pub parts_of : Head → Parts
parts_of h = (h.version, (h.id, (h.config, h.founders)))

abbrev pub part_bytes : Parts → List ℕ
part_bytes z = format_bytes z.0 ++ (number_bytes 8 z.1.0 ++ (config_bytes z.1.1.0 ++ start_bytes z.1.1.1))

abbrev pub AreParts : Parts → Type 0
AreParts z = Unit {0} × ((z.1.0 < 2 ^ 64) × (AreShort z.1.1.0 × AreFounders z.1.1.1))

pub are_parts : (h : Head) → IsHead h → AreParts (parts_of h)
are_parts h p = (tt, (p.id, (p.config, p.founders)))

pub head_front : (h g : Head) (x y : List ℕ) → IsHead h → IsHead g → head_bytes h ++ x ≡ head_bytes g ++ y → (h ≡ g) × (x ≡ y)
head_front h g x y p q e =
    let all = along parts_of
    (λ a b same i. record { version = (same i).0; id = (same i).1.0; config = (same i).1.1.0; founders = (same i).1.1.1 }) part_bytes AreParts
    (pair _ _ _ _ versions_are_code (pair _ _ _ _ (numbers_are_code 8) tails_are_code)) in
    all.one h g x y (are_parts h p) (are_parts g q) e

-- ---- events

pub event_on : (version : Version) (w : RawEntry) (x : List ℕ)
    → event_bytes version w ++ x ≡ code w ∷ (number_bytes 4 (length (body_bytes version w)) ++ (body_bytes version w ++ x))
event_on version w x = ap (λ (l : List ℕ). code w ∷ l) (append_assoc (number_bytes 4 (length (body_bytes version w))) (body_bytes version w) x)

same_event : (version : Version) (w v : RawEntry) → IsWritten version w → IsWritten version v → code w ≡ code v
    → body_bytes version w ≡ body_bytes version v → w ≡ v
same_event version Leave Leave p q c b = refl
same_event version (Register t ns) (Register u ms) p q c b =
    let form = notes_form version in
    let n = number_front 4 _ _ _ _ (text_fits t p.0) (text_fits u q.0) b in
    let s = same_front (spelling t) (spelling u) (notes_bytes form ns) (notes_bytes form ms) (length (spelling t)) refl (sym n.0) n.1 in
    let text = one_text t u p.0.insns q.0.insns s.0 in
    let notes = one_notes form ns ms p.1 q.1 s.1 in
    λ i. Register (text i) (notes i)
same_event version (Ask g s) (Ask h t) p q c b =
    let n = number_front 4 g h (number_bytes 8 s) (number_bytes 8 t) p.0 q.0 b in
    let start = number_once 8 s t p.1 q.1 n.1 in
    λ i. Ask (n.0 i) (start i)
same_event version (Store v) (Store u) p q c b = ap Store b
same_event version (Deliver m) (Deliver n) p q c b = ap Deliver (one_spelling version m n p q b)
same_event version HandOut HandOut p q c b = refl
same_event version (Post g a s) (Post h d t) p q c b =
    let n = number_front 8 g h (number_bytes 8 a ++ number_bytes 8 s) (number_bytes 8 d ++ number_bytes 8 t) p.0 q.0 b in
    let k = number_front 8 a d (number_bytes 8 s) (number_bytes 8 t) p.1 q.1 n.1 in
    let steps = number_once 8 s t p.2 q.2 k.1 in
    λ i. Post (n.0 i) (k.0 i) (steps i)
same_event version w v p q c b = absurd (omega (arith, c))

pub event_front : (version : Version) (w v : RawEntry) (x y : List ℕ) → IsWritten version w → IsWritten version v
    → event_bytes version w ++ x ≡ event_bytes version v ++ y → (w ≡ v) × (x ≡ y)
event_front version w v x y p q e =
    let a = body_bytes version w in
    let d = body_bytes version v in
    let k = one_byte _ _ _ _ (sym (event_on version w x) ∙ e ∙ event_on version v y) in
    let n = number_front 4 _ _ _ _ (body_small version w p) (body_small version v q) k.1 in
    let b = same_front a d x y (length a) refl (sym n.0) n.1 in
    (same_event version w v p q k.0 b.0, b.1)
