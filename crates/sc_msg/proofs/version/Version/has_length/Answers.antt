-- Version::has_length: whether a value may have so many bytes: 48 in the first version, at most 112 in the second.
use Rattle.sc_msg.proofs.Lengths.{length_of_first, length_of_second, length_means}
use Rattle.sc_msg.proofs.version.Version.has_length.Goals as goal

pub returns-in-First : goal.returns-in-First
returns-in-First c =
    let told = length_of_first c.args.self c.args.bytes c.in-First.is in
    record { told = told; means = length_means c.args.self c.args.bytes _ told }

pub returns-in-Second : goal.returns-in-Second
returns-in-Second c =
    let told = length_of_second c.args.self c.args.bytes c.in-Second.is in
    record { told = told; means = length_means c.args.self c.args.bytes _ told }
