-- Launch::cluster: the cluster of the file.
use Rattle.std.proofs.Common.{ℕ, List, inl, inr, subst}
use Rattle.q_node.specs.Files.{RunsBytes, RunsText}
use Rattle.q_node.proofs.command.Launch.cluster.Goals as goal

pub returns-in-Ok-read_cluster-clause-read : goal.returns-in-Ok-read_cluster-clause-read
returns-in-Ok-read_cluster-clause-read g c = λ e before after runs.
    let id = c.args.self.now.words.now.id in
    let text = subst (λ (source : List ℕ). RunsText source id e before after) c.in-Ok.ensures.cases.0
    (inl (c.in-Ok-read_cluster.file, c.in-Ok-read_cluster.ensures.read, runs)) in
    inl (_, c.in_ok-bytes.ensures.bytes, subst (λ (source : List ℕ). RunsBytes source id e before after) c.as_slice.ensures.value (inl text))

pub returns-in_default-clause-refused : goal.returns-in_default-clause-refused
returns-in_default-clause-refused g c = λ e before after refused.
    let id = c.args.self.now.words.now.id in
    let bytes = subst (λ (source : List ℕ). RunsBytes source id e before after) c.as_slice.ensures.value (inr (c.in_default.ensures.cases.0, refused)) in
    inl (_, c.in_ok-bytes.ensures.bytes, bytes)

pub returns-clause-refused : goal.returns-clause-refused
returns-clause-refused g c = λ e before after refused.
    let id = c.args.self.now.words.now.id in
    let text = subst (λ (source : List ℕ). RunsText source id e before after) c.in-Ok.ensures.cases.0 (inr (c.in-Err.fault, c.in-Err.ensures.fault, refused)) in
    inl (_, c.in_ok-bytes.ensures.bytes, subst (λ (source : List ℕ). RunsBytes source id e before after) c.as_slice.ensures.value (inl text))
