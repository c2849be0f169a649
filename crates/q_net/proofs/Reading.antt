-- What was read of an input.
use Rattle.std.proofs.Common.{◌≡◌, ℕ, ◌+◌, ◌<◌, ◌≤◌, List, [], ◌∷◌, ◌++◌, length, take, Option, Some, None, Result}
use Rattle.std.proofs.Common.{Ok, Err, refl, sym, ap, ◌∙◌, subst, append_assoc, take_all, arith, length-append}
use Rattle.std.specs.Prelude.{IsErrAnd, is_some, Bool, true, false}
use Rattle.std.specs.Io.KnownBytes.{Consumes, IsAtEnd}
use Rattle.std.proofs.KnownBytes.{Consumes-trans}
use Rattle.std.proofs.Math.Seq.{take-append_seam}
use Rattle.std.proofs.lemmas.List.{length-take}
use Rattle.spelling.specs.Numbers.{number_bytes}
use Rattle.sc_msg.specs.declared.version.Version.{Version}
use Rattle.q_net.specs.declared.pieces.ReadBlob.{ReadBlob}
use Rattle.q_net.specs.declared.incoming.Incoming.{Incoming}
use Rattle.q_net.specs.declared.pieces.ReadBlob.TheVariants as piece
use Rattle.q_net.specs.declared.request.Request.TheVariants.{Register}
use Rattle.q_net.specs.Requests.{GetsNext, GotBlob, spelling, IsRequest, most_text, most_notes, GetsBlob, Got, IsNext, IsCut, Place, IsPlace, before, wanted}

pub whole_of : (a b : Option (List ℕ)) (n : ℕ) (xs : List ℕ) → length xs ≤ n → Consumes a b (take n xs) → Consumes a b xs
whole_of a b n xs h p = subst (Consumes a b) (take_all n xs h) p

-- a number's bytes were all read
pub number_read : (width m n : ℕ) (a b : Option (List ℕ)) (bytes : List ℕ) → length bytes ≤ n → Consumes a b (take n bytes)
    → number_bytes width m ≡ bytes → Consumes a b (number_bytes width m)
number_read width m n a b bytes all read is = subst (Consumes a b) (sym is) (whole_of a b n bytes all read)

pub taken_length : (n : ℕ) (xs ys : List ℕ) → length xs ≡ length (take n ys) → n ≤ length ys → length xs ≡ n
taken_length n xs ys h few = omega (arith, h, few, length-take n ys)

-- what stands before the rest
pub front_of : (n : ℕ) (xs rest : List ℕ) → length xs ≡ n → take n (xs ++ rest) ≡ xs
front_of n xs rest is = subst (λ (k : ℕ). take k (xs ++ rest) ≡ xs) is (take-append_seam xs rest)

-- ---- reads that fail

pub next_failed : {E : Type 0} (P : E → Type 0) (version : Version) (front : List ℕ) (a b : Option (List ℕ)) (r : Result Incoming E) → IsErrAnd r P
    → (part : List ℕ) × Consumes a b part → GetsNext version front a b r
next_failed P version front a b (Ok n) h p = absurd h
next_failed P version front a b (Err e) h p = p

pub blob_failed : {E : Type 0} (P : E → Type 0) (len : ℕ) (a b : Option (List ℕ)) (r : Result ReadBlob E) → IsErrAnd r P
    → (part : List ℕ) × Consumes a b part → GetsBlob len a b r
blob_failed P len a b (Ok n) h p = absurd h
blob_failed P len a b (Err e) h p = p

pub then_failed : (a b c : Option (List ℕ)) (bytes : List ℕ) → Consumes a b bytes → (part : List ℕ) × Consumes b c part → (part : List ℕ) × Consumes a c part
then_failed a b c bytes first failed = (bytes ++ failed.0, Consumes-trans a b c bytes failed.0 first failed.1)

-- ---- what was got

pub got_some : {A : Type 0} (bytes_of : A → List ℕ) (len : ℕ) (a b : Option (List ℕ)) (o : Option A) (x : A) → o ≡ Some x → Got bytes_of len a b o
    → Consumes a b (bytes_of x)
got_some bytes_of len a b o x is h = subst (Got bytes_of len a b) is h

pub got_none : {A : Type 0} (bytes_of : A → List ℕ) (len : ℕ) (a b : Option (List ℕ)) (o : Option A) → o ≡ None → Got bytes_of len a b o
    → (part : List ℕ) × Consumes a b part × (length part < len) × IsAtEnd b
got_none bytes_of len a b o is h = subst (Got bytes_of len a b) is h

-- a piece was got, and what comes behind it failed
pub piece_then_failed : {A E : Type 0} (P : E → Type 0) (bytes_of : A → List ℕ) (len : ℕ) (version : Version) (front : List ℕ) (a b c : Option (List ℕ))
    (r : Result Incoming E) {o : Option A} {x : A} → IsErrAnd r P → o ≡ Some x → Got bytes_of len a b o → (part : List ℕ) × Consumes b c part
    → GetsNext version front a c r
piece_then_failed P bytes_of len version front a b c r {o} {x} h is got failed =
    next_failed P version front a c r h (then_failed a b c (bytes_of x) (got_some bytes_of len a b o x is got) failed)

-- the next byte, where it has this value
pub got_kind : (kind byte : ℕ) (a b : Option (List ℕ)) (o : Option ℕ) → o ≡ Some byte → byte ≡ kind → Got (λ (b : ℕ). b ∷ []) 1 a b o → Consumes a b (kind ∷ [])
got_kind kind byte a b o is same h = subst (λ (k : ℕ). Consumes a b (k ∷ [])) same (got_some (λ (b : ℕ). b ∷ []) 1 a b o byte is h)

abbrev NotTrue : Bool → Type 0
NotTrue true = ⊥
NotTrue false = Unit {0}

got_byte : (a b : Option (List ℕ)) (o : Option ℕ) → (is_some o ≡ true) → Got (λ (b : ℕ). b ∷ []) 1 a b o → (byte : ℕ) × Consumes a b (byte ∷ [])
got_byte a b (Some x) some h = (x, h)
got_byte a b None some h = absurd (subst NotTrue some tt)

-- one byte more was passed over
pub passed_byte : (a b c : Option (List ℕ)) {at : ℕ} (o : Option ℕ) → (done : List ℕ) × (length done ≡ at) × Consumes a b done → (is_some o ≡ true)
    → Got (λ (b : ℕ). b ∷ []) 1 b c o → (done : List ℕ) × (length done ≡ at + 1) × Consumes a c done
passed_byte a b c o before some h =
    let (byte, last) = got_byte b c o some h in
    let (done, len, consumed) = before in
    (done ++ byte ∷ [], omega (arith, len, length-append done (byte ∷ [])), Consumes-trans a b c done (byte ∷ []) consumed last)

-- the input ended within a place, behind what was read of the request
pub ended_at : (version : Version) (a b c : Option (List ℕ)) (place : Place) (front first : List ℕ) → IsPlace version place → front ++ first ≡ before place
    → Consumes a b first → (part : List ℕ) × Consumes b c part × (length part < wanted place) × IsAtEnd c
    → (x : List ℕ) × Consumes a c x × IsCut version (front ++ x) × IsAtEnd c
ended_at version a b c place front first allowed whole consumed ended =
    let (part, rest, few, end) = ended in (
      first ++ part,
      Consumes-trans a b c first part consumed rest,
      record { place = place; allowed = allowed; part = part; few = few; whole = sym (append_assoc front first part) ∙ ap (λ (l : List ℕ). l ++ part) whole },
      end,
    )

-- ---- what is behind some bytes

pub next_behind : {E : Type 0} (version : Version) (front more : List ℕ) (a b c : Option (List ℕ)) (r : Result Incoming E) → Consumes a b more
    → GetsNext version (front ++ more) b c r → GetsNext version front a c r
next_behind version front more a b c (Ok n) consumed h =
    let (bytes, rest, is, end) = h in
    (more ++ bytes, Consumes-trans a b c more bytes consumed rest, subst (λ (l : List ℕ). IsNext version l n) (append_assoc front more bytes) is, end)
next_behind version front more a b c (Err e) consumed h = (more ++ h.0, Consumes-trans a b c more h.0 consumed h.1)

-- ---- registrations

abbrev pub to_text : List ℕ → List ℕ
to_text text = 1 ∷ number_bytes 4 (length text) ++ text

pub blob_cut : (len : ℕ) (a b : Option (List ℕ)) (p : ReadBlob) → p ≡ piece.Cut → GotBlob len a b p
    → (part : List ℕ) × Consumes a b part × (length part < len) × IsAtEnd b
blob_cut len a b p is h = subst (GotBlob len a b) is h

pub blob_lost : (len : ℕ) (a b : Option (List ℕ)) (p : ReadBlob) → p ≡ piece.Lost → GotBlob len a b p
    → (bytes : List ℕ) × Consumes a b bytes × (length bytes ≡ len)
blob_lost len a b p is h = subst (GotBlob len a b) is h

pub blob_whole : (len : ℕ) (a b : Option (List ℕ)) (p : ReadBlob) (bytes : List ℕ) → p ≡ piece.Whole bytes → GotBlob len a b p
    → Consumes a b bytes × (length bytes ≡ len)
blob_whole len a b p bytes is h = subst (GotBlob len a b) is h

-- the notes behind a text
pub notes_read : (version : Version) (text notes : List ℕ) (len : ℕ) (a b c : Option (List ℕ)) → length text ≤ most_text → len ≤ most_notes version
    → Consumes a b (number_bytes 4 len) → Consumes b c notes × (length notes ≡ len)
    → (x : List ℕ) × Consumes a c x × IsRequest version (Register text notes) × (to_text text ++ x ≡ spelling (Register text notes))
notes_read version text notes len a b c few small first second =
    let x = number_bytes 4 len ++ notes in
    let same : to_text text ++ x ≡ spelling (Register text notes) =
    ap (λ (l : List ℕ). 1 ∷ l) (append_assoc (number_bytes 4 (length text)) text x)
    ∙ ap (λ (n : ℕ). 1 ∷ number_bytes 4 (length text) ++ (text ++ (number_bytes 4 n ++ notes))) (sym second.1) in
    (x, Consumes-trans a b c (number_bytes 4 len) notes first second.0, (few, omega (arith, small, second.1)), same)

-- a text, and what is behind it
pub text_read : {E : Type 0} (version : Version) (a b c d : Option (List ℕ)) (len : ℕ) (text : List ℕ) (r : Result Incoming E)
    → Consumes a b (number_bytes 4 len) → Consumes b c text × (length text ≡ len) → len ≤ most_text
    → ((whole : List ℕ) → length whole ≤ most_text → whole ≡ text → GetsNext version (to_text whole) c d r) → GetsNext version (1 ∷ []) a d r
text_read version a b c d len text r first second small behind =
    let consumed = Consumes-trans a b c (number_bytes 4 len) text first second.0 in
    let rest = subst (λ (n : ℕ). GetsNext version (1 ∷ number_bytes 4 n ++ text) c d r) second.1 (behind text (omega (arith, small, second.1)) refl) in
    next_behind version (1 ∷ []) (number_bytes 4 len ++ text) a c d r consumed rest
