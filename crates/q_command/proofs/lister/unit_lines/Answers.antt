-- unit_lines: the lines of these bytes, eight bytes a line.
use Rattle.std.proofs.Common.{rules, ◌≡◌, ◌∙◌, ◌<◌, ℕ, [], ◌∷◌, ◌++◌, length, string_bytes, ap, subst, append_assoc}
use Rattle.hex.specs.Hex.{encode_lower}
use Rattle.q_command.specs.Listing.{listing_of}
use Rattle.q_command.proofs.Lines.{no_more, one_more}
use Rattle.q_command.proofs.lister.unit_lines.Goals as goal

pub returns : goal.returns
returns c =
    let rest = c.loop-unit.unit-iterator.rest.now in
    let short : length rest < 8 = subst (λ (n : ℕ). length rest < n) c.loop-unit.invariant.0 c.in-None.ensures.steps.1.0 in
    no_more (string_bytes c.loop-unit.lines) rest (listing_of c.args.bytes.now) short c.loop-unit.invariant.1

pub loop-unit-preserved : goal.loop-unit-preserved
loop-unit-preserved c =
    let before = string_bytes c.loop-unit.lines in
    let unit = c.in-Some.unit.now in
    let rest = c.next.new.self.rest.now in
    let steps = c.in-Some.ensures.steps in
    let size : c.next.new.self.size ≡ 8 = steps.0 ∙ c.loop-unit.invariant.0 in
    let digits : string_bytes c.in_ok-digits.digits ≡ encode_lower unit = search rules in
    let more = c.in_ok-push_str.ensures.bytes ∙ ap (λ l. before ++ l) (c.as_str.ensures.value ∙ digits) in
    let line : string_bytes c.push.new.self ≡ string_bytes c.push_str.new.self ++ 10 ∷ [] = search rules in
    let grown = line ∙ ap (λ l. l ++ 10 ∷ []) more ∙ append_assoc before (encode_lower unit) (10 ∷ []) in (
      size,
      ap (λ l. l ++ listing_of rest) grown
          ∙ one_more before c.loop-unit.unit-iterator.rest.now unit rest (listing_of c.args.bytes.now) steps.1.0 (steps.1.1 ∙ c.loop-unit.invariant.0)
          c.loop-unit.invariant.1,
    )
