-- register: a registration, behind its kind.
use Rattle.std.proofs.Common.{[], ◌∷◌, refl, sym}
use Rattle.std.proofs.KnownBytes.{Consumes-nil}
use Rattle.spelling.specs.Numbers.{number_bytes}
use Rattle.q_net.specs.Requests.{text_length, in_text}
use Rattle.q_net.proofs.Reading.{ended_at, got_none, got_some, piece_then_failed, blob_cut, blob_lost, blob_whole, text_read}
use Rattle.q_net.proofs.incoming.register.Goals as goal

pub returns-in_default-clause-read : goal.returns-in_default-clause-read
returns-in_default-clause-read g c = ended_at c.args.version _ _ _ text_length (1 ∷ []) [] tt refl (Consumes-nil _)
    (got_none (number_bytes 4) 4 _ _ c.in_ok-len.field-0 c.in_default.is c.in_ok-len.ensures.read)

pub returns-in_err-read_blob-clause-read : goal.returns-in_err-read_blob-clause-read
returns-in_err-read_blob-clause-read g c =
    piece_then_failed _ (number_bytes 4) 4 c.args.version (1 ∷ []) _ _ _ c.from_residual-in_err-read_blob.result
    c.from_residual-in_err-read_blob.ensures.1 c.in-Some.is c.in_ok-len.ensures.read c.in_err-read_blob.ensures.read

pub returns-in-Cut-clause-read : goal.returns-in-Cut-clause-read
returns-in-Cut-clause-read g c =
    let first = got_some (number_bytes 4) 4 _ _ c.in_ok-len.field-0 c.in-Some.len c.in-Some.is c.in_ok-len.ensures.read in
    ended_at c.args.version _ _ _ (in_text c.in-Some.len) (1 ∷ []) (number_bytes 4 c.in-Some.len) c.if-len-gt-MOST_TEXT.false refl first
    (blob_cut c.in-Some.len _ _ c.in_ok-read_blob.field-0 c.in-Cut.is c.in_ok-read_blob.ensures.read)

pub returns-in-Lost-clause-read : goal.returns-in-Lost-clause-read
returns-in-Lost-clause-read g c =
    let first = got_some (number_bytes 4) 4 _ _ c.in_ok-len.field-0 c.in-Some.len c.in-Some.is c.in_ok-len.ensures.read in
    let (bytes, lost, is_len) = blob_lost c.in-Some.len _ _ c.in_ok-read_blob.field-0 c.in-Lost.is c.in_ok-read_blob.ensures.read in
    text_read c.args.version _ _ _ _ c.in-Some.len bytes c.notes.result first (lost, is_len) c.if-len-gt-MOST_TEXT.false
    (λ whole few same. c.notes.ensures.read whole few tt)

pub returns-in-Whole-clause-read : goal.returns-in-Whole-clause-read
returns-in-Whole-clause-read g c =
    let first = got_some (number_bytes 4) 4 _ _ c.in_ok-len.field-0 c.in-Some.len c.in-Some.is c.in_ok-len.ensures.read in
    let second = blob_whole c.in-Some.len _ _ c.in_ok-read_blob.field-0 c.in-Whole.text c.in-Whole.is c.in_ok-read_blob.ensures.read in
    text_read c.args.version _ _ _ _ c.in-Some.len c.in-Whole.text c.notes-in-Whole.result first second c.if-len-gt-MOST_TEXT.false
    (λ whole few same. c.notes-in-Whole.ensures.read whole few (sym same))
