-- read_some: the next bytes, so many; none where the input ends before them.
use Rattle.std.proofs.Common.{◌≡◌, ◌≤◌, length, arith, drop, replicate, sym, ◌∙◌, subst}
use Rattle.std.specs.Io.KnownBytes.{Consumes}
use Rattle.q_net.proofs.Reading.{whole_of, front_of, taken_length}
use Rattle.q_net.proofs.pieces.read_some.Goals as goal

pub returns-clause-read : goal.returns-clause-read
returns-clause-read g c =
    let bytes = c.fill.new.into in
    let wanted = c.from-wanted.result in
    let room = replicate 255 0 in
    let few : wanted ≤ 255 = omega (arith, c.from-wanted.ensures, c.ranges.len.fits) in
    let taken : length bytes ≡ wanted = taken_length wanted bytes room c.in_ok-read.ensures.len few in
    let all = whole_of _ _ c.in_ok-read.read bytes (omega (arith, taken, c.if-read-wanted.false)) c.in_ok-read.ensures.read in
    subst (Consumes _ _) (sym (c.new.ensures ∙ front_of c.args.len bytes (drop wanted room) (taken ∙ c.from-wanted.ensures))) all
