-- Which reply stands at the front of an input, and that no other does.
use Rattle.std.proofs.Common.{◌≡◌, ◌⊎◌, inl, inr, ℕ, ◌<◌, ◌≤◌, eqb, false, refl, ap, sym, ◌∙◌, subst, append_assoc, append-nil, arith, length-append}
use Rattle.std.specs.Prelude.{List, [], ◌∷◌, ◌++◌, length, Option, Some, None, Result, Ok, Err, IfOk, IsErrAnd, MatchOption}
use Rattle.std.specs.Io.KnownBytes.{Consumes, IsAtEnd}
use Rattle.std.proofs.KnownBytes.{Consumes-trans}
use Rattle.std.proofs.lemmas.Bool.{eq-eqb}
use Rattle.reasons.specs.Table.{number}
use Rattle.reasons.specs.declared.Reason.{Reason}
use Rattle.reasons.specs.declared.Reason.TheVariants as reasons
use Rattle.spelling.specs.Numbers.{number_bytes}
use Rattle.spelling.proofs.Numbers.{length-number_bytes}
use Rattle.spelling.proofs.Codes.{one_byte, number_front, number_then, numbers_are_code, pair}
use Rattle.q_net.specs.Replies.{reply_bytes}
use Rattle.q_net.specs.Requests.{Got}
use Rattle.q_net.proofs.Reading.{got_none}
use Rattle.q_net.specs.declared.replies.Reply.{Reply}
use Rattle.q_net.specs.declared.replies.Reply.TheVariants.{Program, Number, Open, Answer, Refused}
use Rattle.q_net.proofs.Replied.{reply_has_bytes}
use Rattle.q_asker.specs.declared.replies.ReplyKind.{ReplyKind}
use Rattle.q_asker.specs.declared.replies.ReplyKind.TheVariants as kind
use Rattle.q_asker.specs.Replies.{BeginsNone, CanBe, Hears, HearsBehind, IsRefusal}

-- ---- no refusal has the number 0

zero_test : (why : Reason) → eqb (number why) 0 ≡ false
zero_test reasons.BadLength = refl
zero_test why = refl

not_zero : (n : ℕ) → IsRefusal n → n ≡ 0 → ⊥
not_zero n h e = absurd (cc (eq-eqb (number h.0) 0 (h.1 ∙ e), zero_test h.0))

-- ---- the front of an input

-- of an input that ended, all was read
pub all_read : (a b : Option (List ℕ)) (part bytes : List ℕ) → Consumes a b part → IsAtEnd b → a ≡ Some bytes → bytes ≡ part
all_read None b part bytes p end is = absurd cc
all_read (Some x) None part bytes p end is = absurd p
all_read (Some x) (Some y) part bytes p end is = cc (append-nil part)

-- what was read stands at the front
pub front_read : (a b : Option (List ℕ)) (part bytes : List ℕ) → Consumes a b part → a ≡ Some bytes → (rest : List ℕ) × (b ≡ Some rest) × (bytes ≡ part ++ rest)
front_read None b part bytes p is = absurd cc
front_read (Some x) None part bytes p is = absurd p
front_read (Some x) (Some y) part bytes p is = (y, refl, cc)

-- an input whose bytes are not known
pub none_begins : (kind : ReplyKind) (front : List ℕ) (a : Option (List ℕ))
    → ((bytes : List ℕ) → a ≡ Some bytes → (said : Reply) (rest : List ℕ) → CanBe kind said → front ++ bytes ≡ reply_bytes said ++ rest → ⊥)
    → BeginsNone kind front a
none_begins kind front None h = tt
none_begins kind front (Some bytes) h = h bytes refl

none_behind : (kind : ReplyKind) (front more : List ℕ) (a b : Option (List ℕ)) → Consumes a b more → BeginsNone kind (front ++ more) b → BeginsNone kind front a
none_behind kind front more None b p h = tt
none_behind kind front more (Some x) None p h = absurd p
none_behind kind front more (Some x) (Some y) p h = λ said rest can e. h said rest can (append_assoc front more y ∙ ap (λ (l : List ℕ). front ++ l) (sym p) ∙ e)

-- what is heard behind more bytes
pub heard_behind : {E : Type 0} (kind : ReplyKind) (front more : List ℕ) (a b c : Option (List ℕ)) (r : Result (Option Reply) E) → Consumes a b more
    → HearsBehind kind (front ++ more) b c r → HearsBehind kind front a c r
heard_behind kind front more a b c (Ok (Some said)) p h = (h.0, (more ++ h.1.0, Consumes-trans a b c more h.1.0 p h.1.1, h.1.2 ∙ append_assoc front more h.1.0))
heard_behind kind front more a b c (Ok None) p h = (none_behind kind front more a b p h.0, (more ++ h.1.0, Consumes-trans a b c more h.1.0 p h.1.1))
heard_behind kind front more a b c (Err e) p h = (more ++ h.0, Consumes-trans a b c more h.0 p h.1)

-- a read failed
pub heard_failed : {E : Type 0} (P : E → Type 0) (kind : ReplyKind) (front : List ℕ) (a b : Option (List ℕ)) (r : Result (Option Reply) E)
    → IsErrAnd r P → (part : List ℕ) × Consumes a b part → HearsBehind kind front a b r
heard_failed P kind front a b (Ok o) h part = absurd h
heard_failed P kind front a b (Err e) h part = part

-- the input ended, and behind these bytes it had fewer than a reply has there
cut : (kind : ReplyKind) (front : List ℕ) (few : ℕ)
    → ((said : Reply) (bytes rest : List ℕ) → CanBe kind said → front ++ bytes ≡ reply_bytes said ++ rest → few ≤ length bytes)
    → (a b : Option (List ℕ)) (part : List ℕ) → Consumes a b part → length part < few → IsAtEnd b → BeginsNone kind front a
cut kind front few long a b part p less end =
    none_begins kind front a (λ bytes is said rest can e. omega (arith, ap length (all_read a b part bytes p end is), less, long said bytes rest can e))

-- ---- behind a 0

answer_long : (said : Reply) (bytes rest : List ℕ) → CanBe kind.Answer said → 0 ∷ bytes ≡ reply_bytes said ++ rest
    → (bytes ≡ 0 ∷ rest) ⊎ ((more : List ℕ) × (bytes ≡ 1 ∷ more) × (16 ≤ length more))
answer_long (Refused n) bytes rest can e = absurd (not_zero n can cc)
answer_long Open bytes rest can e = inl cc
answer_long (Answer acc steps) bytes rest can e =
    let both = number_bytes 8 acc ++ number_bytes 8 steps in
    let more : bytes ≡ 1 ∷ (both ++ rest) = cc in
    let long = length-append (number_bytes 8 acc) (number_bytes 8 steps) in
    inr (both ++ rest, more, omega (arith, length-append both rest, long, length-number_bytes 8 acc, length-number_bytes 8 steps))
answer_long said bytes rest can e = absurd can

-- how many bytes a reply of a kind has there at least, if it is no refusal
abbrev fewest : ReplyKind → ℕ
fewest kind.Program = 4
fewest kind.Number = 8
fewest kind.Answer = 1

accepted_long : (kind : ReplyKind) (said : Reply) (bytes rest : List ℕ) → CanBe kind said → 0 ∷ bytes ≡ reply_bytes said ++ rest → fewest kind ≤ length bytes
accepted_long kind (Refused n) bytes rest can e = absurd (not_zero n can cc)
accepted_long kind.Program (Program n) bytes rest can e = omega (arith, number_then 4 n bytes rest cc)
accepted_long kind.Number (Number n) bytes rest can e = omega (arith, number_then 8 n bytes rest cc)
accepted_long kind.Answer said bytes rest can e = elim (answer_long said bytes rest can e) [
  | inl alone ↦ omega (arith, ap length alone)
  | inr more ↦ omega (arith, ap length more.1)
]
accepted_long kind said bytes rest can e = absurd can

-- the input ended before so many
pub none_accepted : {A : Type 0} (kind : ReplyKind) (bytes_of : A → List ℕ) (a b : Option (List ℕ)) (o : Option A) → o ≡ None
    → Got bytes_of (fewest kind) a b o → BeginsNone kind (0 ∷ []) a × ((part : List ℕ) × Consumes a b part)
none_accepted kind bytes_of a b o is got =
    let (part, consumed, less, end) = got_none bytes_of (fewest kind) a b o is got in
    (cut kind (0 ∷ []) (fewest kind) (accepted_long kind) a b part consumed less end, (part, consumed))

-- behind a 0 stands neither 0 nor 1
pub look_other : (n : ℕ) (a b : Option (List ℕ)) → (n ≡ 0 → ⊥) → (n ≡ 1 → ⊥) → Consumes a b (n ∷ []) → BeginsNone kind.Answer (0 ∷ []) a
look_other n a b not_open not_one p =
    none_behind kind.Answer (0 ∷ []) (n ∷ []) a b p (none_begins kind.Answer (0 ∷ n ∷ []) b (λ bytes is said rest can e.
    elim (answer_long said (n ∷ bytes) rest can e) [
      | inl alone ↦ not_open (one_byte n 0 bytes rest alone).0
      | inr more ↦ not_one (one_byte n 1 bytes more.0 more.1).0
    ]))

-- the input ended behind a 0 and a 1
pub answer_cut : (a b : Option (List ℕ)) (part : List ℕ) → Consumes a b part → length part < 16 → IsAtEnd b → BeginsNone kind.Answer (0 ∷ 1 ∷ []) a
answer_cut = cut kind.Answer (0 ∷ 1 ∷ []) 16 (λ said bytes rest can e. elim (answer_long said (1 ∷ bytes) rest can e) [
  | inl alone ↦ absurd cc
  | inr more ↦ omega (arith, more.2, ap length more.1)
])

-- ---- the first byte

-- the input has ended
pub first_cut : (kind : ReplyKind) (a b : Option (List ℕ)) (part : List ℕ) → Consumes a b part → length part < 1 → IsAtEnd b → BeginsNone kind [] a
first_cut kind = cut kind [] 1 (λ said bytes rest can e. omega (arith, ap length e, length-append (reply_bytes said) rest, reply_has_bytes said))

-- a reply whose first byte is not 0 is a refusal
first_byte : (said : Reply) (n : ℕ) (bytes rest : List ℕ) → (n ≡ 0 → ⊥) → n ∷ bytes ≡ reply_bytes said ++ rest → said ≡ Refused n
first_byte (Refused m) n bytes rest other e = cc
first_byte (Program m) n bytes rest other e = absurd (other cc)
first_byte (Number m) n bytes rest other e = absurd (other cc)
first_byte Open n bytes rest other e = absurd (other cc)
first_byte (Answer acc steps) n bytes rest other e = absurd (other cc)

-- the first byte is the number of a refusal, or that of no reply
pub first_heard : (E : Type 0) (kind : ReplyKind) (n : ℕ) (a b : Option (List ℕ)) (o : Option Reply) → (n ≡ 0 → ⊥) → Consumes a b (n ∷ [])
    → MatchOption o (IsRefusal n → ⊥) (λ said. IsRefusal n × (said ≡ Refused n)) → HearsBehind {E = E} kind [] a b (Ok o)
first_heard E kind n a b None other p none =
    let begins = none_begins kind (n ∷ []) b (λ bytes is said rest can e. none (subst (CanBe kind) (first_byte said n bytes rest other e) can)) in
    (none_behind kind [] (n ∷ []) a b p begins, (n ∷ [], p))
first_heard E kind n a b (Some said) other p h = (subst (CanBe kind) (sym h.1) h.0, (n ∷ [], p, ap reply_bytes h.1))

-- ---- one reply stands there

pub one_reply : (kind : ReplyKind) (x y : Reply) (r s : List ℕ) → CanBe kind x → CanBe kind y → reply_bytes x ++ r ≡ reply_bytes y ++ s → x ≡ y
one_reply kind (Refused m) y r s cx cy e = sym (first_byte y m r s (not_zero m cx) e)
one_reply kind x (Refused n) r s cx cy e = first_byte x n s r (not_zero n cy) (sym e)
one_reply kind.Program (Program p) (Program q) r s cx cy e = ap Program (number_front 4 p q r s cx cy (one_byte 0 0 _ _ e).1).0
one_reply kind.Program (Program p) y r s cx cy e = absurd cy
one_reply kind.Number (Number p) (Number q) r s cx cy e = ap Number (number_front 8 p q r s cx cy (one_byte 0 0 _ _ e).1).0
one_reply kind.Number (Number p) y r s cx cy e = absurd cy
one_reply kind.Answer Open Open r s cx cy e = refl
one_reply kind.Answer Open (Answer acc steps) r s cx cy e = cc
one_reply kind.Answer Open y r s cx cy e = absurd cy
one_reply kind.Answer (Answer acc steps) Open r s cx cy e = cc
one_reply kind.Answer (Answer a b) (Answer c d) r s cx cy e =
    let code = pair (number_bytes 8) (number_bytes 8) _ _ (numbers_are_code 8) (numbers_are_code 8) in
    let same = code.one (a, b) (c, d) r s cx cy (one_byte 1 1 _ _ (one_byte 0 0 _ _ e).1).1 in
    ap (λ (z : ℕ × ℕ). Answer z.0 z.1) same.0
one_reply kind.Answer (Answer acc steps) y r s cx cy e = absurd cy
one_reply kind x y r s cx cy e = absurd cx

-- ---- what is heard of the whole

pub heard : {E : Type 0} (kind : ReplyKind) (a b : Option (List ℕ)) (r : Result (Option Reply) E) → HearsBehind kind [] a b r → Hears kind a b r
heard kind a b (Ok (Some said)) h = (h.0, subst (Consumes a b) (sym h.1.2) h.1.1)
heard kind a b (Ok None) h = h.1
heard kind a b (Err e) h = h

pub heard_there : {E : Type 0} (kind : ReplyKind) (a b : Option (List ℕ)) (r : Result (Option Reply) E) → HearsBehind kind [] a b r
    → (said : Reply) (rest : List ℕ) → CanBe kind said → a ≡ Some (reply_bytes said ++ rest) → IfOk r (λ o. o ≡ Some said)
heard_there kind a b (Ok (Some x)) h said rest can is =
    let there = front_read a b (reply_bytes x) (reply_bytes said ++ rest) (subst (Consumes a b) (sym h.1.2) h.1.1) is in
    ap Some (one_reply kind x said there.0 rest h.0 can (sym there.2))
heard_there kind a b (Ok None) h said rest can is = absurd ((subst (BeginsNone kind []) is h.0) said rest can refl)
heard_there kind a b (Err e) h said rest can is = tt
