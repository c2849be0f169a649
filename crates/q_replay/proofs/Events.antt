-- Events that were read, and bytes that begin with none.
use Rattle.std.proofs.Common.{◌≡◌, ℕ, ◌^◌, ◌<◌, List, [], ◌∷◌, ◌++◌, length, sym, ap, ◌∙◌, arith, length-append}
use Rattle.spelling.specs.Codes.{BeginsNone}
use Rattle.spelling.proofs.Codes.{one_byte, same_front, number_front, number_then}
use Rattle.sc_msg.specs.declared.version.Version.{Version}
use Rattle.spelling.specs.Numbers.{number_bytes}
use Rattle.q_replay.specs.declared.raw_entry.RawEntry.{RawEntry}
use Rattle.q_replay.specs.Spelling.{code, body_bytes, event_bytes, IsWritten}
use Rattle.q_replay.specs.Reading.{IsBody, IsNoBody}
use Rattle.q_replay.proofs.Lists.{no_cons}
use Rattle.q_replay.proofs.Sizes.{body_small}
use Rattle.q_replay.proofs.Fronts.{IsLengthRead, IsFront, event_on}

pub no_first : (version : Version) (bytes : List ℕ) → bytes ≡ [] → BeginsNone (event_bytes version) (IsWritten version) bytes
no_first version bytes empty = record { none = λ w more p e. no_cons _ _ (sym empty ∙ e ∙ event_on version w more) }

module _ (version : Version) where
  -- a kind was read, and an event stands there
  length_follows : {bytes r1 : List ℕ} {kind : ℕ} (w : RawEntry) (more : List ℕ) → bytes ≡ kind ∷ r1 → bytes ≡ event_bytes version w ++ more
      → (kind ≡ code w) × (r1 ≡ number_bytes 4 (length (body_bytes version w)) ++ (body_bytes version w ++ more))
  length_follows w more first e = one_byte _ _ _ _ (sym first ∙ e ∙ event_on version w more)

  pub no_second : (bytes r1 : List ℕ) (kind : ℕ) → bytes ≡ kind ∷ r1 → length r1 < 4 → BeginsNone (event_bytes version) (IsWritten version) bytes
  no_second bytes r1 kind first short =
      record { none = λ w more p e. omega (arith, short, number_then 4 _ _ _ (length_follows w more first e).1) }

  body_follows : {bytes r1 r2 : List ℕ} {kind n : ℕ} (w : RawEntry) (more : List ℕ) → bytes ≡ kind ∷ r1 → IsLengthRead r1 n r2 → IsWritten version w
      → bytes ≡ event_bytes version w ++ more → (n ≡ length (body_bytes version w)) × (r2 ≡ body_bytes version w ++ more)
  body_follows w more first second p e =
      number_front 4 _ _ _ _ second.legal (body_small version w p) (sym second.parts ∙ (length_follows w more first e).1)

  pub no_third : (bytes r1 r2 : List ℕ) (kind n : ℕ) → bytes ≡ kind ∷ r1 → n < 2 ^ 32 → r1 ≡ number_bytes 4 n ++ r2 → length r2 < n
      → BeginsNone (event_bytes version) (IsWritten version) bytes
  no_third bytes r1 r2 kind n first fits second short = record {
    none = λ w more p e.
        let b = body_follows w more first (record { legal = fits; parts = second }) p e in
        omega (arith, short, b.0, ap length b.1, length-append (body_bytes version w) more);
  }

  -- the kind, the length of the body and the body were read
  module _ {bytes r1 r2 r3 body : List ℕ} {kind n : ℕ} (first : bytes ≡ kind ∷ r1) (second : IsLengthRead r1 n r2) (third : IsFront r2 body r3 n) where
    pub no_event : IsNoBody version kind body → BeginsNone (event_bytes version) (IsWritten version) bytes
    no_event other = record {
      none = λ w more p e.
          let b = body_follows w more first second p e in
          let s = same_front body (body_bytes version w) r3 more n third.long (sym b.0) (sym third.parts ∙ b.1) in
          other.none w (record { legal = p; is = sym (length_follows w more first e).0; spelled = s.0 });
    }

    pub event_parts : {w : RawEntry} → IsBody version kind body w → bytes ≡ event_bytes version w ++ r3
    event_parts {w} is =
        let bodied = third.parts ∙ ap (λ (l : List ℕ). l ++ r3) is.spelled in
        let counted = second.parts ∙ ap (λ (m : ℕ). number_bytes 4 m ++ r2) (sym third.long ∙ ap length is.spelled) in
        first ∙ ap (λ (k : ℕ). k ∷ r1) (sym is.is)
        ∙ ap (λ (l : List ℕ). code w ∷ l) (counted ∙ ap (λ (l : List ℕ). number_bytes 4 (length (body_bytes version w)) ++ l) bodied)
        ∙ sym (event_on version w r3)
