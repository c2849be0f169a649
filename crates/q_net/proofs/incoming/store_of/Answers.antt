-- store_of: a store of so many bytes, behind its kind.
use Rattle.std.proofs.Common.{◌≡◌, ℕ, ◌<◌, List, [], ◌∷◌, length, Option, refl, sym, ap, rules, arith}
use Rattle.std.specs.Io.KnownBytes.{Consumes}
use Rattle.std.proofs.KnownBytes.{Consumes-nil, Consumes-trans}
use Rattle.sc_msg.specs.declared.version.Version.{Version}
use Rattle.q_net.specs.declared.request.Request.TheVariants.{StoreOf}
use Rattle.q_net.specs.Requests.{value_length, in_bytes, spelling, IsRequest}
use Rattle.q_net.proofs.Reading.{ended_at, got_none, got_some, piece_then_failed}
use Rattle.q_net.proofs.incoming.store_of.Goals as goal

-- the length, and so many bytes
bytes_read : (version : Version) (len : ℕ) (bytes : List ℕ) (a b c : Option (List ℕ)) → len < 256 → Consumes a b (len ∷ []) → Consumes b c bytes
    → length bytes ≡ len → (x : List ℕ) × Consumes a c x × IsRequest version (StoreOf bytes) × (5 ∷ x ≡ spelling (StoreOf bytes))
bytes_read version len bytes a b c few first second is =
    (len ∷ bytes, Consumes-trans a b c (len ∷ []) bytes first second, omega (arith, few, is), ap (λ (n : ℕ). 5 ∷ n ∷ bytes) (sym is))

pub returns-in_default-clause-read : goal.returns-in_default-clause-read
returns-in_default-clause-read g c = λ version. ended_at version _ _ _ value_length (5 ∷ []) [] tt refl (Consumes-nil _)
    (got_none (λ (b : ℕ). b ∷ []) 1 _ _ c.in_ok-len.field-0 c.in_default.is c.in_ok-len.ensures.read)

pub returns-in_err-value-clause-read : goal.returns-in_err-value-clause-read
returns-in_err-value-clause-read g c = λ version.
    piece_then_failed _ (λ (b : ℕ). b ∷ []) 1 version (5 ∷ []) _ _ _ c.from_residual-in_err-value.result
    c.from_residual-in_err-value.ensures.1 c.in-Some.is c.in_ok-len.ensures.read c.in_err-value.ensures.read

pub returns-in-None-clause-read : goal.returns-in-None-clause-read
returns-in-None-clause-read g c = λ version.
    let len = c.in-Some.len in let first = got_some (λ (b : ℕ). b ∷ []) 1 _ _ c.in_ok-len.field-0 len c.in-Some.is c.in_ok-len.ensures.read in
    ended_at version _ _ _ (in_bytes len) (5 ∷ []) (len ∷ []) (omega arith) refl first
    (got_none (λ (v : List ℕ). v) len _ _ c.in_ok-value.field-0 c.in-None.is c.in_ok-value.ensures.read)

pub returns-in-Some-2-clause-read : goal.returns-in-Some-2-clause-read
returns-in-Some-2-clause-read g c = λ version.
    let len = c.in-Some.len in let value = c.in-Some-2.value in
    let first = got_some (λ (b : ℕ). b ∷ []) 1 _ _ c.in_ok-len.field-0 len c.in-Some.is c.in_ok-len.ensures.read in
    let second = got_some (λ (v : List ℕ). v) len _ _ c.in_ok-value.field-0 value c.in-Some-2.is c.in_ok-value.ensures.read in
    let (x, consumed, legal, same) = bytes_read version len value _ _ _ (omega arith) first second (search rules) in
    (x, consumed, (legal, same), tt)
