-- A message has one spelling, other bytes at most one fault, and a message none.
use Rattle.std.proofs.Common.{◌≡◌, ℕ, ◌+◌, ◌*◌, ◌<◌, ◌≤◌, ◌^◌, false, nat_lt, List, [], ◌∷◌, ◌++◌, length, map, Some, None}
use Rattle.std.proofs.Common.{Result, Ok, Err, MatchResult, IfOk, IfErr, refl, sym, ap, subst, ◌∙◌, arith, append_assoc, length-append, inl, inr}
use Rattle.std.proofs.lemmas.Bool.{le-ltb}
use Rattle.std.proofs.lemmas.List.{append-nil}
use Rattle.std.proofs.lemmas.Option.{none-some, same_Some}
use Rattle.std.specs.List.{flat_map, AllByRecursion}
use Rattle.std.specs.FinMap as fin
use Rattle.sc_members.specs.Ids.{Ids, rising}
use Rattle.sc_view.specs.Views.{ViewMap}
use Rattle.sc_view.specs.declared.view.Stored.{Stored}
use Rattle.sc_msg.specs.declared.message.Body.{Body}
use Rattle.sc_msg.specs.declared.message.Body.TheVariants as bodies
use Rattle.sc_msg.specs.declared.message.Message.{Message}
use Rattle.sc_msg.specs.declared.kind.MessageKind.{MessageKind}
use Rattle.sc_msg.specs.declared.kind.MessageKind.TheVariants as kinds
use Rattle.sc_msg.specs.declared.version.Version.{Version}
use Rattle.sc_msg.specs.declared.version.Version.TheVariants.{First, Second}
use Rattle.sc_msg.specs.declared.fault.MessageFault.{MessageFault}
use Rattle.sc_msg.specs.declared.fault.MessageFault.TheVariants.{OutOfMemory}
use Rattle.sc_msg.specs.Kinds.{code, kind_of, kind_at}
use Rattle.spelling.specs.Numbers.{number_bytes}
use Rattle.sc_msg.specs.Values.{version_byte, value_bytes, IsLength}
use Rattle.sc_msg.specs.Entries.{Layout, entry_bytes, list_bytes, ids_layout, view_layout, ids_bytes, view_bytes, AreIds, AreRecords, IsEntry, stored_bytes}
use Rattle.sc_msg.specs.Fields.{Slot, number_slot, flag_slot, ids_slot, view_slot, slots, Field, number, flag, ids, view, slot_of}
use Rattle.sc_msg.specs.Fields.{fields, field_bytes, fields_bytes, IsField, IsFieldsFault, OrMemory}
use Rattle.sc_msg.specs.Messages.{head_bytes, message_bytes, most_message, IsMessage}
use Rattle.sc_msg.specs.Fault.{most_bytes, head_fault, IsBodyFault, IsExtra, IsFirstFault, IsFault}
use Rattle.sc_msg.proofs.Codes.{kind_at-code}
use Rattle.spelling.proofs.Codes.{number_front, number_then}
use Rattle.spelling.proofs.Numbers.{length-number_bytes}
use Rattle.sc_msg.proofs.Sound.{len-rising, nothing_left, fields_front, no_fields_fault, one_fields_fault}

-- ---- the head

same_code : (k l : MessageKind) → code k ≡ code l → k ≡ l
same_code k l e = same_Some k l (sym (kind_at-code k) ∙ ap kind_at e ∙ kind_at-code l)

fourth : (v a b : ℕ) (x y : List ℕ) → 0x42 ∷ 0x51 ∷ v ∷ a ∷ x ≡ 0x42 ∷ 0x51 ∷ v ∷ b ∷ y → (a ≡ b) × (x ≡ y)
fourth v a b x y e = (cc, cc)

head_front : (version : Version) (k l : MessageKind) (f g : ℕ) (x y : List ℕ) → f < 2 ^ 64 → g < 2 ^ 64
    → head_bytes version k f ++ x ≡ head_bytes version l g ++ y → (k ≡ l) × (f ≡ g) × (x ≡ y)
head_front version k l f g x y p q e =
    let c = fourth (version_byte version) (code k) (code l) (number_bytes 8 f ++ x) (number_bytes 8 g ++ y) e in
    let n = number_front 8 f g x y p q c.1 in
    (same_code k l c.0, n.0, n.1)

behind_head : (version : Version) (k : MessageKind) (f : ℕ) (x : List ℕ) → length (head_bytes version k f ++ x) ≡ 12 + length x
behind_head version k f x = omega (arith, number_then 8 f _ x refl)

-- ---- bodies and their fields

-- the body of a kind that has these fields, and of others any
back : MessageKind → List Field → Body
back kinds.EnterEcho (number to ∷ flag joined ∷ ids entered ∷ ids members ∷ ids left ∷ view version v ∷ []) =
    bodies.EnterEcho (record { to = to; joined = joined; facts = record { entered = entered; joined = members; left = left }; view = v })
back kinds.Join fs = bodies.Join
back kinds.JoinEcho (number about ∷ []) = bodies.JoinEcho about
back kinds.Leave fs = bodies.Leave
back kinds.LeaveEcho (number about ∷ []) = bodies.LeaveEcho about
back kinds.Store (number tag ∷ view version v ∷ []) = bodies.Store (record { tag = tag; view = v })
back kinds.StoreAck (number to ∷ number tag ∷ []) = bodies.StoreAck (record { to = to; tag = tag })
back kinds.StoreEcho (view version v ∷ []) = bodies.StoreEcho v
back kinds.CollectQuery (number tag ∷ []) = bodies.CollectQuery tag
back kinds.CollectReply (number to ∷ number tag ∷ view version v ∷ []) = bodies.CollectReply (record { to = to; tag = tag; view = v })
back _ _ = bodies.Enter

-- the most bytes of a field
abbrev most_of : Slot → ℕ
most_of number_slot = 8
most_of flag_slot = 1
most_of ids_slot = 8194
most_of (view_slot version) = 33026

abbrev most_of_all : List Slot → ℕ
most_of_all [] = 0
most_of_all (s ∷ ss) = most_of s + most_of_all ss

-- the kind of a body says which fields it has, with these it is the body, and they have few bytes
laid_out : (version : Version) (b : Body) → (slots version (kind_of b) ≡ map slot_of (fields version b)) × (back (kind_of b) (fields version b) ≡ b)
    × (most_of_all (slots version (kind_of b)) ≤ 57617)
unfolding back
laid_out version bodies.Enter = (refl, refl, omega arith)
laid_out version (bodies.EnterEcho e) = (refl, refl, omega arith)
laid_out version bodies.Join = (refl, refl, omega arith)
laid_out version (bodies.JoinEcho about) = (refl, refl, omega arith)
laid_out version bodies.Leave = (refl, refl, omega arith)
laid_out version (bodies.LeaveEcho about) = (refl, refl, omega arith)
laid_out version (bodies.Store s) = (refl, refl, omega arith)
laid_out version (bodies.StoreAck a) = (refl, refl, omega arith)
laid_out version (bodies.StoreEcho v) = (refl, refl, omega arith)
laid_out version (bodies.CollectQuery tag) = (refl, refl, omega arith)
laid_out version (bodies.CollectReply r) = (refl, refl, omega arith)

same_body : (version : Version) (a b : Body) → kind_of a ≡ kind_of b → fields version a ≡ fields version b → a ≡ b
same_body version a b k f = sym (laid_out version a).1 ∙ ap (λ x. back x (fields version a)) k ∙ ap (back (kind_of b)) f ∙ (laid_out version b).1

message_is : (m n : Message) → m.from ≡ n.from → m.body ≡ n.body → m ≡ n
message_is m n p q = λ i. record { from = p i; body = q i }

-- ---- one spelling

spelled_on : (version : Version) (m : Message) (x : List ℕ)
    → message_bytes version m ++ x ≡ head_bytes version (kind_of m.body) m.from ++ (fields_bytes (fields version m.body) ++ x)
spelled_on version m x = append_assoc (head_bytes version (kind_of m.body) m.from) (fields_bytes (fields version m.body)) x

message_front : (version : Version) (m n : Message) (x y : List ℕ) → IsMessage version m → IsMessage version n
    → message_bytes version m ++ x ≡ message_bytes version n ++ y → (m ≡ n) × (x ≡ y)
message_front version m n x y p q e =
    let h = head_front version (kind_of m.body) (kind_of n.body) _ _ _ _ p.from q.from (sym (spelled_on version m x) ∙ e ∙ spelled_on version n y) in
    let same = sym (laid_out version m.body).0 ∙ ap (slots version) h.0 ∙ (laid_out version n.body).0 in
    let f = fields_front (fields version m.body) (fields version n.body) x y same p.fields q.fields h.2 in
    (message_is m n h.1 (same_body version m.body n.body h.0 f.0), f.1)

pub one_spelling : (version : Version) (m n : Message) → IsMessage version m → IsMessage version n
    → message_bytes version m ≡ message_bytes version n → m ≡ n
one_spelling version m n p q e = (message_front version m n [] [] p q (ap (λ (l : List ℕ). l ++ []) e)).0

-- ---- how long a message is

length-ids_bytes : (es : List ℕ) → length (flat_map (entry_bytes ids_layout) es) ≡ 8 * length es
length-ids_bytes [] = refl
length-ids_bytes (id ∷ es) =
    omega (arith, number_then 8 id _ _ (append_assoc (number_bytes 8 id) [] (flat_map (entry_bytes ids_layout) es)), length-ids_bytes es)

value_small : (version : Version) (v : List ℕ) → IsLength version (length v) → length (value_bytes version v) ≤ 113
value_small First v p = omega (arith, p.most)
value_small Second v p = omega (arith, p.most)

entries_small : (version : Version) (es : List (ℕ × Stored)) → AllByRecursion (IsEntry (view_layout version)) es
    → length (flat_map (entry_bytes (view_layout version)) es) ≤ 129 * length es
entries_small version [] p = omega arith
entries_small version (e ∷ es) p =
    let value = value_bytes version e.1.value in
    omega (
      arith,
      length-append (number_bytes 8 e.0 ++ stored_bytes version e.1) (flat_map (entry_bytes (view_layout version)) es),
      number_then 8 e.0 _ (stored_bytes version e.1) refl,
      number_then 8 e.1.number _ value refl,
      value_small version e.1.value p.0.1.whole,
      entries_small version es p.1,
    )

length-list_bytes : {A : Type 0} (layout : Layout A) (es : List A) → length (list_bytes layout es) ≡ 2 + length (flat_map (entry_bytes layout) es)
length-list_bytes layout es = number_then 2 (length es) _ (flat_map (entry_bytes layout) es) refl

ids_small : (s : Ids) → AreIds s → length (ids_bytes s) ≤ 8194
ids_small s p = omega (arith, length-list_bytes ids_layout (rising s), length-ids_bytes (rising s), len-rising s, p.few)

view_small : (version : Version) (v : ViewMap) → AreRecords version v → length (view_bytes version v) ≤ 33026
view_small version v p =
    let es = fin.entries v in
    omega (arith, length-list_bytes (view_layout version) es, entries_small version es p.fit, fin.len-entries v, p.few)

field_small : (f : Field) → IsField f → length (field_bytes f) ≤ most_of (slot_of f)
field_small (number n) p = omega (arith, length-number_bytes 8 n)
field_small (flag b) p = omega arith
field_small (ids s) p = ids_small s p
field_small (view version v) p = view_small version v p

fields_small : (fs : List Field) → AllByRecursion IsField fs → length (fields_bytes fs) ≤ most_of_all (map slot_of fs)
fields_small [] p = omega arith
fields_small (f ∷ fs) p = omega (arith, length-append (field_bytes f) (fields_bytes fs), field_small f p.0, fields_small fs p.1)

pub body_small : (version : Version) (b : Body) → AllByRecursion IsField (fields version b) → length (fields_bytes (fields version b)) ≤ 57617
body_small version b p = omega (arith, fields_small (fields version b) p, ap most_of_all (laid_out version b).0, (laid_out version b).2)

pub message_small : (version : Version) (m : Message) → IsMessage version m → length (message_bytes version m) ≤ most_message
message_small version m p =
    let fields = fields_bytes (fields version m.body) in
    omega (arith, behind_head version (kind_of m.body) m.from fields, body_small version m.body p.fields)

-- ---- what is spelled has no fault

format : (version : Version) (k : MessageKind) (f : ℕ) (x : List ℕ) → nat_lt most_bytes (length (head_bytes version k f ++ x)) ≡ false
    → nat_lt (length (head_bytes version k f ++ x)) 12 ≡ false → head_fault version (head_bytes version k f ++ x) ≡ None
format First k f x low long = rw (low, long, kind_at-code k) refl
format Second k f x low long = rw (low, long, kind_at-code k) refl

head_sound : (version : Version) (k : MessageKind) (f : ℕ) (x : List ℕ) → length (head_bytes version k f ++ x) ≤ most_bytes
    → head_fault version (head_bytes version k f ++ x) ≡ None
head_sound version k f x small =
    let low : nat_lt most_bytes (length (head_bytes version k f ++ x)) ≡ false = le-ltb _ _ small in
    let long : nat_lt (length (head_bytes version k f ++ x)) 12 ≡ false = le-ltb _ _ (omega (arith, behind_head version k f x)) in
    format version k f x low long

no_head_fault : (version : Version) {bytes : List ℕ} (rest : List ℕ) (k : MessageKind) (f : ℕ) {e : MessageFault} → length bytes ≤ most_bytes
    → bytes ≡ head_bytes version k f ++ rest → head_fault version bytes ≡ Some e → ⊥
no_head_fault version rest k f {e = e} small parts h =
    none-some e (sym (head_sound version k f rest (omega (arith, small, ap length parts))) ∙ ap (head_fault version) (sym parts) ∙ h)

-- behind a head that was read the answer is no fault of the head
pub head_is_right : {A : Type 0} (version : Version) {bytes : List ℕ} (rest : List ℕ) (k : MessageKind) (f : ℕ) (r : Result A MessageFault)
    → length bytes ≤ most_bytes → bytes ≡ head_bytes version k f ++ rest → (e : MessageFault) → head_fault version bytes ≡ Some e → r ≡ Err e
head_is_right version rest k f r small parts e h = absurd (no_head_fault version rest k f small parts h)

faulty_at : {ss ts : List Slot} {x y : List ℕ} (e : MessageFault) → ss ≡ ts → x ≡ y → IsFieldsFault ss x e → IsFieldsFault ts y e
faulty_at {ts = ts} {x = x} e p q h = subst (λ (l : List ℕ). IsFieldsFault ts l e) q (subst (λ (ss : List Slot). IsFieldsFault ss x e) p h)

-- a field that is faulty behind the head of what is spelled
no_body_fault : (version : Version) {bytes : List ℕ} (x : List ℕ) (m : Message) {e : MessageFault} → IsMessage version m
    → bytes ≡ message_bytes version m ++ x → IsBodyFault version bytes e → ⊥
no_body_fault version x m {e = e} p parts b =
    let h = head_front version b.kind (kind_of m.body) _ _ _ _ b.fits p.from (sym b.parts ∙ parts ∙ spelled_on version m x) in
    no_fields_fault (fields version m.body) x e p.fields (faulty_at e (ap (slots version) h.0 ∙ (laid_out version m.body).0) h.2 b.faulty)

no_first_fault : (version : Version) (bytes : List ℕ) (m : Message) (e : MessageFault) → IsMessage version m → bytes ≡ message_bytes version m
    → IsFirstFault version bytes e → ⊥
no_first_fault version bytes m e p parts (inl h) =
    no_head_fault version _ (kind_of m.body) m.from (omega (arith, message_small version m p, ap length parts)) parts h
no_first_fault version bytes m e p parts (inr (inl b)) = no_body_fault version [] m p (parts ∙ sym (append-nil (message_bytes version m))) b
no_first_fault version bytes m e p parts (inr (inr x)) =
    let whole = append-nil (message_bytes version m) ∙ sym parts ∙ x.parts in
    nothing_left x.next x.rest (message_front version m x.message [] (x.next ∷ x.rest) p x.legal whole).1

pub spelled_has_no_fault : (version : Version) (m : Message) (e : MessageFault) → IsMessage version m
    → IsFirstFault version (message_bytes version m) e → ⊥
spelled_has_no_fault version m e p h = no_first_fault version (message_bytes version m) m e p refl h

-- what spells a message is decoded, unless memory runs out
pub decodes : (version : Version) (bytes : List ℕ) (r : Result Message MessageFault) → IfOk r (λ n. bytes ≡ message_bytes version n)
    → IfOk r (IsMessage version) → IfErr r (IsFault version bytes) → (m : Message) → IsMessage version m → bytes ≡ message_bytes version m
    → MatchResult r (λ n. n ≡ m) (λ e. e ≡ OutOfMemory)
decodes version bytes (Ok n) spelled legal fault m p e = one_spelling version n m legal p (sym spelled ∙ e)
decodes version bytes (Err OutOfMemory) spelled legal fault m p e = refl
decodes version bytes (Err d) spelled legal fault m p e = absurd (no_first_fault version bytes m d p e fault)

-- ---- one fault

-- behind a message stand more bytes, and its head is right
no_head_of_more : (version : Version) {bytes : List ℕ} {d e : MessageFault} → IsExtra version bytes e → head_fault version bytes ≡ Some d → ⊥
no_head_of_more version x h =
    no_head_fault version _ (kind_of x.message.body) x.message.from x.small (x.parts ∙ spelled_on version x.message (x.next ∷ x.rest)) h

one_first_fault : (version : Version) (bytes : List ℕ) (d e : MessageFault) → IsFirstFault version bytes d → IsFirstFault version bytes e → d ≡ e
one_first_fault version bytes d e (inl p) (inl q) = same_Some d e (sym p ∙ q)
one_first_fault version bytes d e (inl p) (inr (inl q)) = absurd (no_head_fault version q.rest q.kind q.from q.small q.parts p)
one_first_fault version bytes d e (inl p) (inr (inr q)) = absurd (no_head_of_more version q p)
one_first_fault version bytes d e (inr (inl p)) (inl q) = absurd (no_head_fault version p.rest p.kind p.from p.small p.parts q)
one_first_fault version bytes d e (inr (inl p)) (inr (inl q)) =
    let h = head_front version p.kind q.kind _ _ _ _ p.fits q.fits (sym p.parts ∙ q.parts) in
    one_fields_fault (slots version q.kind) q.rest d e (faulty_at d (ap (slots version) h.0) h.2 p.faulty) q.faulty
one_first_fault version bytes d e (inr (inl p)) (inr (inr q)) = absurd (no_body_fault version (q.next ∷ q.rest) q.message q.legal q.parts p)
one_first_fault version bytes d e (inr (inr p)) (inl q) = absurd (no_head_of_more version p q)
one_first_fault version bytes d e (inr (inr p)) (inr (inl q)) = absurd (no_body_fault version (p.next ∷ p.rest) p.message p.legal p.parts q)
one_first_fault version bytes d e (inr (inr p)) (inr (inr q)) = p.is ∙ sym q.is

not_memory : (P : MessageFault → Type 0) (e : MessageFault) → (e ≡ OutOfMemory → ⊥) → OrMemory P e → P e
not_memory P OutOfMemory other p = absurd (other refl)
not_memory P _ other p = p

pub one_fault : (version : Version) (bytes : List ℕ) (d e : MessageFault) → IsFault version bytes d → IsFault version bytes e
    → (d ≡ OutOfMemory → ⊥) → (e ≡ OutOfMemory → ⊥) → d ≡ e
one_fault version bytes d e p q no_d no_e =
    let IsFirst = IsFirstFault version bytes in
    one_first_fault version bytes d e (not_memory IsFirst d no_d p) (not_memory IsFirst e no_e q)
