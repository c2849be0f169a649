-- notes: the notes behind a text, which is none where there was no memory for it.
use Rattle.std.proofs.Common.{◌≡◌, ◌≤◌, ℕ, List, [], ◌∷◌, ◌++◌, length, sym, ap, ◌∙◌, subst, append-nil, append_assoc}
use Rattle.std.specs.Prelude.{IfSome}
use Rattle.std.proofs.KnownBytes.{Consumes-nil}
use Rattle.spelling.specs.Numbers.{number_bytes}
use Rattle.q_net.specs.Requests.{notes_length, in_notes, most_text}
use Rattle.q_net.proofs.Reading.{ended_at, got_none, got_some, piece_then_failed, blob_cut, blob_lost, blob_whole, notes_read, to_text}
use Rattle.q_net.proofs.incoming.notes.Goals as goal

pub returns-in_default-clause-read : goal.returns-in_default-clause-read
returns-in_default-clause-read g c whole few is =
    ended_at c.args.version _ _ _ (notes_length whole) (to_text whole) [] few (append-nil (to_text whole)) (Consumes-nil _)
    (got_none (number_bytes 4) 4 _ _ c.in_ok-len.field-0 c.in_default.is c.in_ok-len.ensures.read)

pub returns-in_err-read_blob-clause-read : goal.returns-in_err-read_blob-clause-read
returns-in_err-read_blob-clause-read g c whole few is =
    piece_then_failed _ (number_bytes 4) 4 c.args.version (to_text whole) _ _ _ c.from_residual-in_err-read_blob.result
    c.from_residual-in_err-read_blob.ensures.1 c.in-Some.is c.in_ok-len.ensures.read c.in_err-read_blob.ensures.read

pub returns-in-Cut-clause-read : goal.returns-in-Cut-clause-read
returns-in-Cut-clause-read g c whole few is =
    let len = c.in-Some.len in let first = got_some (number_bytes 4) 4 _ _ c.in_ok-len.field-0 len c.in-Some.is c.in_ok-len.ensures.read in
    ended_at c.args.version _ _ _ (in_notes whole len) (to_text whole) (number_bytes 4 len) (few, (rw c.most_notes-most.ensures at c.if-len-most.false))
    (ap (λ (l : List ℕ). 1 ∷ l) (append_assoc (number_bytes 4 (length whole)) whole (number_bytes 4 len))) first
    (blob_cut len _ _ c.in_ok-read_blob.field-0 c.in-Cut.is c.in_ok-read_blob.ensures.read)

pub returns-in-Lost-clause-read : goal.returns-in-Lost-clause-read
returns-in-Lost-clause-read g c whole few is =
    let len = c.in-Some.len in let first = got_some (number_bytes 4) 4 _ _ c.in_ok-len.field-0 len c.in-Some.is c.in_ok-len.ensures.read in
    let (bytes, lost, is_len) = blob_lost len _ _ c.in_ok-read_blob.field-0 c.in-Lost.is c.in_ok-read_blob.ensures.read in
    let small = rw c.most_notes-most.ensures at c.if-len-most.false in
    let (x, consumed, legal, same) = notes_read c.args.version whole bytes len _ _ _ few small first (lost, is_len) in
    (x, consumed, (whole, bytes, legal, same), tt)

pub returns-in-Some-text-clause-read : goal.returns-in-Some-text-clause-read
returns-in-Some-text-clause-read g c whole few is =
    let len = c.in-Some.len in let text = c.in-Some-text.text in
    let first = got_some (number_bytes 4) 4 _ _ c.in_ok-len.field-0 len c.in-Some.is c.in_ok-len.ensures.read in
    let second = blob_whole len _ _ c.in_ok-read_blob.field-0 c.in-Whole.notes c.in-Whole.is c.in_ok-read_blob.ensures.read in
    let same_text : text ≡ whole = subst (λ o. IfSome o (λ t. t ≡ whole)) c.in-Some-text.is is in
    let few_text = subst (λ (l : List ℕ). length l ≤ most_text) (sym same_text) few in
    let small = rw c.most_notes-most.ensures at c.if-len-most.false in
    let (x, consumed, legal, same) = notes_read c.args.version text c.in-Whole.notes len _ _ _ few_text small first second in
    (x, consumed, (legal, ap (λ (l : List ℕ). to_text l ++ x) (sym same_text) ∙ same), tt)

pub returns-in-None-clause-read : goal.returns-in-None-clause-read
returns-in-None-clause-read g c whole few is =
    let len = c.in-Some.len in let first = got_some (number_bytes 4) 4 _ _ c.in_ok-len.field-0 len c.in-Some.is c.in_ok-len.ensures.read in
    let second = blob_whole len _ _ c.in_ok-read_blob.field-0 c.in-Whole.notes c.in-Whole.is c.in_ok-read_blob.ensures.read in
    let small = rw c.most_notes-most.ensures at c.if-len-most.false in
    let (x, consumed, legal, same) = notes_read c.args.version whole c.in-Whole.notes len _ _ _ few small first second in
    (x, consumed, (whole, c.in-Whole.notes, legal, same), tt)
