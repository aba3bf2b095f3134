use Rattle.std.proofs.Common.{rules, ◌≡◌, ◌∙◌, ◌++◌, ◌-◌, codes, decimal, true, map, ap, sym, arith, append_assoc}
use Rattle.pals_base.specs.UpwardNumbers.{upwards}
use Rattle.triple_vote.specs.VotedText.{replica_name}
use Rattle.analysis_texts.specs.proof.ReplicaNamesAndLines.{names_of}
use Rattle.analysis_texts.proofs.FaultAndReplicaTables.{name_more}
use Rattle.analysis_texts.proofs.replica_names.names_of.Goals as goal

pub loop-replica-preserved : goal.loop-replica-preserved
loop-replica-preserved c =
    let path = c.args.path.now in
    let counter = c.loop-replica.replica-counter in
    let name : c.new.result ≡ path ++ codes "#" ++ decimal counter =
    c.new.ensures ∙ c.in_ok-format.ensures.ok ∙ sym (append_assoc path (codes "#") (decimal counter)) in
    c.in_ok-push-2.ensures.ok
    ∙ name_more path counter c.loop-replica.names c.new.result (omega arith) c.loop-replica.invariant name

pub returns : goal.returns
returns c =
    let path = c.args.path.now in
    let three : c.loop-replica.replica-counter - 1 ≡ 3 = omega arith in
    let replicated : c.args.replicated ≡ true = search rules in
    c.loop-replica.invariant ∙ ap (λ n. map (replica_name path true) (upwards 0 n)) three
    ∙ ap (names_of path) (sym replicated)
