-- make: makes the call of an entry.
use Rattle.std.proofs.Common.{refl, subst, sym}
use Rattle.q_desk.specs.declared.journal.Entry.TheVariants as entry
use Rattle.q_replay.specs.Journal.{written_of}
use Rattle.q_replay.proofs.Calling.{IsTold, refused, made, unmade}
use Rattle.q_replay.proofs.call.make.Goals as goal

pub returns-in_err-reply : goal.returns-in_err-reply
returns-in_err-reply c =
    refused c.args.book.now c.call.new.self (written_of (entry.Call c.args.call)) c.in_err-reply.field-0.0 c.from_residual.result c.from_residual.ensures.1
    (λ loud. unmade c.one_longest.ensures c.args.book.now c.args.call c.requires (λ d. subst (IsTold d) (c.in_err-reply.ensures.1 loud)))

pub returns-then-is_told : goal.returns-then-is_told
returns-then-is_told c =
    made c.one_longest.ensures c.args.book.now c.args.call c.requires c.call.new.self
    (subst (IsTold c.call.new.self) (sym c.in_ok-reply.ensures) (refl, c.if-is_told.ensures))
