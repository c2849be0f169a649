use Rattle.std.proofs.Common.{◌≡◌, string_bytes, ◌++◌}
use Rattle.q_command.specs.Listing.{listing_of}
use Rattle.q_command.proofs.lister.unit_lines.Given as goal

-- the lines so far and those of the units to come are all lines
abbrev pub invariant-loop-unit : goal.invariant-loop-unit
invariant-loop-unit l = (l.unit-iterator.size ≡ 8) × (string_bytes l.lines ++ listing_of l.unit-iterator.rest.now ≡ listing_of l.bytes)
