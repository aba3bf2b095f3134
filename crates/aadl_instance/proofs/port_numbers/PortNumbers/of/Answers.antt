use Rattle.std.proofs.Common.{◌<◌, ◌≤◌, ◌∙◌, ℕ, ◌+◌, [], Some, ap, arith, get_or, length, subst, sym}
use Rattle.std.proofs.lemmas.List.{length_push}
use Rattle.aadl_tree.specs.proof.PackageViews.{placed}
use Rattle.aadl_names.specs.NameResolution.{features_of, type_numbered}
use Rattle.aadl_instance.specs.proof.PortNumberTables.{AreAmong}
use Rattle.aadl_instance.proofs.PortNumberTables.{more_at, rows_whole}
use Rattle.aadl_instance.proofs.port_numbers.PortNumbers.of.Goals as goal

pub loop-number-preserved : goal.loop-number-preserved
loop-number-preserved c =
    let tree = placed c.args.wires.now.uses.names.tree.now in
    let n = c.loop-number.number in
    let row = c.in_ok-row.row in
    let size = c.loop-number.invariant.0 in
    let pushed = c.in_ok-push.ensures in
    let here = subst (λ l. AreAmong l row.items) c.ports_at.ensures c.in_ok-row.ensures in (
      ap length pushed ∙ (length_push c.loop-number.numbers row.items ∙ ap (λ k. k + 1) size),
      subst (λ l. (k : ℕ) → k < n + 1 → AreAmong (features_of (type_numbered tree (Some k))) (get_or l k []))
          (sym pushed)
          (more_at (λ k l. AreAmong (features_of (type_numbered tree (Some k))) l) c.loop-number.numbers row.items [] n
          size c.loop-number.invariant.1 here),
    )

pub returns : goal.returns
returns c =
    let tree = placed c.args.wires.now.uses.names.tree.now in
    let past = c.loop-number-test.false in
    let size = c.len-number-end.ensures in
    let all : length tree.declarations ≤ c.loop-number.number = omega arith in
    rows_whole tree c.loop-number.number c.loop-number.numbers all c.loop-number.invariant.1
