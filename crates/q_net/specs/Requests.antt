-- How requests are spelled, and how an input of requests ends.
use Rattle.std.specs.Prelude.{◌≡◌, ◌≢◌, ℕ, ◌≤◌, ◌<◌, ◌^◌, List, [], ◌∷◌, ◌++◌, length, Option, Some, None, Result, Ok, Err}
use Rattle.std.specs.List.{flat_map}
use Rattle.std.specs.Io.KnownBytes.{Consumes, IsAtEnd}
use Rattle.spelling.specs.Numbers.{number_bytes}
use Rattle.sc_msg.specs.declared.version.Version.{Version}
use Rattle.sc_msg.specs.declared.version.Version.TheVariants.{First, Second}
use Rattle.q_net.specs.declared.request.Request.{Request}
use Rattle.q_net.specs.declared.request.Request.TheVariants.{Register, Ask, Store, Answer, StoreOf}
use Rattle.q_net.specs.declared.request.StreamEnd.{StreamEnd}
use Rattle.q_net.specs.declared.request.StreamEnd.TheVariants.{Unknown, Cut, LongText, LongNotes}
use Rattle.q_net.specs.declared.pieces.ReadBlob.{ReadBlob}
use Rattle.q_net.specs.declared.pieces.ReadBlob.TheVariants as piece
use Rattle.q_net.specs.declared.incoming.Incoming.{Incoming}
use Rattle.q_net.specs.declared.incoming.Incoming.TheVariants as next

abbrev pub most_text : ℕ
most_text = 32768

-- notes of 4,096 units, each with eleven kinds; in the second form two bytes stand before these
abbrev pub most_notes : Version → ℕ
most_notes First = 770052
most_notes Second = 778244

-- the bytes of a request
abbrev pub spelling : Request → List ℕ
spelling (Register text notes) = 1 ∷ number_bytes 4 (length text) ++ (text ++ (number_bytes 4 (length notes) ++ notes))
spelling (Ask program start) = 2 ∷ number_bytes 4 program ++ number_bytes 8 start
spelling (Store value) = 3 ∷ value
spelling (Answer query) = 4 ∷ number_bytes 8 query
spelling (StoreOf value) = 5 ∷ length value ∷ value

abbrev pub spellings : List Request → List ℕ
spellings requests = flat_map spelling requests

-- the requests that have bytes, to a book of that version
abbrev pub IsRequest : Version → Request → Type 0
IsRequest version (Register text notes) = (length text ≤ most_text) × (length notes ≤ most_notes version)
IsRequest version (Ask program start) = (program < 2 ^ 32) × (start < 2 ^ 64)
IsRequest version (Store value) = length value ≡ 48
IsRequest version (Answer query) = query < 2 ^ 64
IsRequest version (StoreOf value) = length value < 256

-- ---- an input that ends within a request

-- where in a request the input may end: within a number, or within so many bytes
pub data Place : Type 0 where
  text_length : Place
  in_text : ℕ → Place
  notes_length : List ℕ → Place
  in_notes : List ℕ → ℕ → Place
  program_number : Place
  start_value : ℕ → Place
  in_value : Place
  query_number : Place
  value_length : Place
  in_bytes : ℕ → Place

-- the lengths before that place are allowed
abbrev pub IsPlace : Version → Place → Type 0
IsPlace version (in_text len) = len ≤ most_text
IsPlace version (notes_length text) = length text ≤ most_text
IsPlace version (in_notes text len) = (length text ≤ most_text) × (len ≤ most_notes version)
IsPlace version (in_bytes len) = len < 256
IsPlace version place = Unit {0}

-- the bytes of the request before that place
abbrev pub before : Place → List ℕ
before text_length = 1 ∷ []
before (in_text len) = 1 ∷ number_bytes 4 len
before (notes_length text) = 1 ∷ number_bytes 4 (length text) ++ text
before (in_notes text len) = 1 ∷ number_bytes 4 (length text) ++ (text ++ number_bytes 4 len)
before program_number = 2 ∷ []
before (start_value program) = 2 ∷ number_bytes 4 program
before in_value = 3 ∷ []
before query_number = 4 ∷ []
before value_length = 5 ∷ []
before (in_bytes len) = 5 ∷ len ∷ []

-- how many bytes belong there
abbrev pub wanted : Place → ℕ
wanted text_length = 4
wanted (in_text len) = len
wanted (notes_length text) = 4
wanted (in_notes text len) = len
wanted program_number = 4
wanted (start_value program) = 8
wanted in_value = 48
wanted query_number = 8
wanted value_length = 1
wanted (in_bytes len) = len

-- the bytes of a request, up to too few of those that belong to some place
pub record IsCut (version : Version) (bytes : List ℕ) : Type 0 where
  pub place : Place
  pub allowed : IsPlace version place
  pub part : List ℕ
  pub few : length part < wanted place
  pub whole : bytes ≡ before place ++ part

-- ---- how requests end

-- the bytes at which requests to a book of that version stop before their input ends
abbrev pub IsStop : Version → List ℕ → StreamEnd → Type 0
IsStop version bytes Unknown =
    (kind : ℕ) × (bytes ≡ kind ∷ []) × (kind ≢ 1) × (kind ≢ 2) × (kind ≢ 3) × (kind ≢ 4) × (kind ≢ 5)
IsStop version bytes Cut = IsCut version bytes
IsStop version bytes LongText = (len : ℕ) × (most_text < len) × (len < 2 ^ 32) × (bytes ≡ 1 ∷ number_bytes 4 len)
IsStop version bytes LongNotes =
    (text : List ℕ) × (len : ℕ) × (length text ≤ most_text) × (most_notes version < len) × (len < 2 ^ 32)
    × (bytes ≡ 1 ∷ number_bytes 4 (length text) ++ (text ++ number_bytes 4 len))

-- the input ended where it had to
abbrev pub IsRead : Option (List ℕ) → Option StreamEnd → Type 0
IsRead left None = IsAtEnd left
IsRead left (Some Cut) = IsAtEnd left
IsRead left (Some stop) = Unit {0}

-- ---- what comes next

-- these bytes are the next request to a book of that version, or how requests end
abbrev pub IsNext : Version → List ℕ → Incoming → Type 0
IsNext version bytes next.End = bytes ≡ []
IsNext version bytes (next.Whole r) = IsRequest version r × (bytes ≡ spelling r)
IsNext version bytes next.Lost =
    (text : List ℕ) × (notes : List ℕ) × IsRequest version (Register text notes) × (bytes ≡ spelling (Register text notes))
IsNext version bytes (next.Ended stop) = IsStop version bytes stop

abbrev pub IsReadTo : Option (List ℕ) → Incoming → Type 0
IsReadTo left next.End = IsRead left None
IsReadTo left (next.Ended stop) = IsRead left (Some stop)
IsReadTo left n = Unit {0}

-- behind some bytes more were read, and together they are what comes next
abbrev pub IsGot : Version → List ℕ → Option (List ℕ) → Option (List ℕ) → Incoming → Type 0
IsGot version front input left n =
    (bytes : List ℕ) × Consumes input left bytes × IsNext version (front ++ bytes) n × IsReadTo left n

-- the same, or a read failed behind some bytes
abbrev pub GetsNext : {E : Type 0} → Version → List ℕ → Option (List ℕ) → Option (List ℕ) → Result Incoming E → Type 0
GetsNext version front input left (Ok n) = IsGot version front input left n
GetsNext version front input left (Err e) = (part : List ℕ) × Consumes input left part

-- a value by its bytes; or the input ended before so many
abbrev pub Got : {A : Type 0} → (A → List ℕ) → ℕ → Option (List ℕ) → Option (List ℕ) → Option A → Type 0
Got bytes_of len input left (Some a) = Consumes input left (bytes_of a)
Got bytes_of len input left None = (part : List ℕ) × Consumes input left part × (length part < len) × IsAtEnd left

abbrev pub Gets : {A E : Type 0} → (A → List ℕ) → ℕ → Option (List ℕ) → Option (List ℕ) → Result (Option A) E → Type 0
Gets bytes_of len input left (Ok o) = Got bytes_of len input left o
Gets bytes_of len input left (Err e) = (part : List ℕ) × Consumes input left part

-- so many bytes, or there was no memory for them and they were passed over
abbrev pub GotBlob : ℕ → Option (List ℕ) → Option (List ℕ) → ReadBlob → Type 0
GotBlob len input left (piece.Whole bytes) = Consumes input left bytes × (length bytes ≡ len)
GotBlob len input left piece.Lost = (bytes : List ℕ) × Consumes input left bytes × (length bytes ≡ len)
GotBlob len input left piece.Cut = (part : List ℕ) × Consumes input left part × (length part < len) × IsAtEnd left

abbrev pub GetsBlob : {E : Type 0} → ℕ → Option (List ℕ) → Option (List ℕ) → Result ReadBlob E → Type 0
GetsBlob len input left (Ok p) = GotBlob len input left p
GetsBlob len input left (Err e) = (part : List ℕ) × Consumes input left part
