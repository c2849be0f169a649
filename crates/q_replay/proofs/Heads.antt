-- Heads that were read, and bytes that begin with none.
use Rattle.std.proofs.Common.{◌≡◌, ℕ, ◌^◌, ◌<◌, Option, List, ◌∷◌, ◌++◌, length, ap, ◌∙◌, arith, length-append}
use Rattle.spelling.specs.Numbers.{number_bytes}
use Rattle.spelling.specs.Codes.{BeginsNone}
use Rattle.spelling.proofs.Codes.{no_number, numbers_are_code, none_first, none_second, parts_on}
use Rattle.sc_members.specs.Members.{Config}
use Rattle.sc_msg.specs.declared.version.Version.{Version}
use Rattle.sc_msg.specs.Values.{version_byte}
use Rattle.q_replay.specs.Spelling.{config_bytes, start_bytes, head_bytes, AreShort, AreFounders, IsHead}
use Rattle.q_replay.proofs.Sizes.{length-config}
use Rattle.q_replay.proofs.Fronts.{IsRead, format_bytes, parts_of, part_bytes, AreParts, are_parts, versions_are_code, configs_are_code}

no_head : (bytes : List ℕ) → BeginsNone part_bytes AreParts bytes → BeginsNone head_bytes IsHead bytes
no_head bytes left = record { none = λ h more p e. left.none (parts_of h) more (are_parts h p) e }

no_fractions : (bytes : List ℕ) → length bytes < 8 → BeginsNone config_bytes AreShort bytes
no_fractions bytes short = record { none = λ c more p e. omega (arith, short, ap length e, length-append (config_bytes c) more, length-config c) }

pub no_format : (bytes : List ℕ) → ((version : Version) (more : List ℕ) → bytes ≡ 0x42 ∷ 0x51 ∷ 0x4a ∷ version_byte version ∷ more → ⊥)
    → BeginsNone head_bytes IsHead bytes
no_format bytes none = no_head bytes (none_first format_bytes _ _ _ bytes (record { none = λ version more p e. none version more e }))

-- behind a format that was read

abbrev tail_bytes : Config × Option (List ℕ) → List ℕ
tail_bytes z = config_bytes z.0 ++ start_bytes z.1

abbrev IsTail : Config × Option (List ℕ) → Type 0
IsTail z = AreShort z.0 × AreFounders z.1

module _ (version : Version) {bytes r1 : List ℕ} (first : bytes ≡ 0x42 ∷ 0x51 ∷ 0x4a ∷ version_byte version ∷ r1) where
  behind_format : BeginsNone (λ (z : ℕ × (Config × Option (List ℕ))). number_bytes 8 z.0 ++ tail_bytes z.1) (λ z. (z.0 < 2 ^ 64) × IsTail z.1) r1
      → BeginsNone head_bytes IsHead bytes
  behind_format left = no_head bytes (none_second format_bytes _ _ _ bytes versions_are_code version r1 tt first left)

  pub no_id : length r1 < 8 → BeginsNone head_bytes IsHead bytes
  no_id short = behind_format (none_first (number_bytes 8) tail_bytes _ IsTail r1 (no_number 8 r1 short))

  -- and behind an id
  module _ {r2 : List ℕ} {id : ℕ} (second : IsRead (number_bytes 8) (λ n. n < 2 ^ 64) r1 id r2) where
    behind_id : BeginsNone tail_bytes IsTail r2 → BeginsNone head_bytes IsHead bytes
    behind_id left = behind_format (none_second (number_bytes 8) tail_bytes _ IsTail r1 (numbers_are_code 8) id r2 second.legal second.parts left)

    pub no_config : length r2 < 8 → BeginsNone head_bytes IsHead bytes
    no_config short = behind_id (none_first config_bytes start_bytes AreShort AreFounders r2 (no_fractions r2 short))

    -- and behind fractions
    module _ {r3 : List ℕ} {c : Config} (third : IsRead config_bytes AreShort r2 c r3) where
      pub no_founders : BeginsNone start_bytes AreFounders r3 → BeginsNone head_bytes IsHead bytes
      no_founders left =
          behind_id (none_second config_bytes start_bytes AreShort AreFounders r2 configs_are_code c r3 third.legal third.parts left)

      pub head_parts : {r4 : List ℕ} {founders : Option (List ℕ)} → IsRead start_bytes AreFounders r3 founders r4
          → bytes ≡ head_bytes (record { version = version; id = id; config = c; founders = founders }) ++ r4
      head_parts {r4} {founders} fourth =
          let tail = parts_on (config_bytes c) (start_bytes founders) r2 r3 r4 third.parts fourth.parts in
          first ∙ ap (λ (l : List ℕ). 0x42 ∷ 0x51 ∷ 0x4a ∷ version_byte version ∷ l)
          (parts_on (number_bytes 8 id) (config_bytes c ++ start_bytes founders) r1 r2 r4 second.parts tail)
