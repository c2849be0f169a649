-- made: what is made of these bytes.
use Rattle.q_command.proofs.perform.made.Goals as goal

pub returns-in-Listing-clause-made : goal.returns-in-Listing-clause-made
returns-in-Listing-clause-made c = rw c.in-Listing.is c.listed.ensures.listed

pub returns-in-Disassembly-clause-made : goal.returns-in-Disassembly-clause-made
returns-in-Disassembly-clause-made c = rw c.in-Disassembly.is c.disassembled.ensures.written

pub returns-in-Audit-clause-made : goal.returns-in-Audit-clause-made
returns-in-Audit-clause-made c = rw c.in-Audit.is c.audit.ensures.audited
