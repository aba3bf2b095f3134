use Rattle.std.proofs.Common.{◌∙◌, [], arith, ap, length, refl}
use Rattle.std.proofs.lemmas.List.{length-map}
use Rattle.aadl_tree.specs.proof.PackageViews.{placed}
use Rattle.aadl_uses.specs.proof.PackageContainment.{targets_in}
use Rattle.aadl_uses.proofs.ThreadPaths.{closed_by, ok_threads}
use Rattle.aadl_uses.proofs.paths_to_threads.thread_paths.Goals as goal

pub paths_below-requires-clause-closed : goal.paths_below-requires-clause-closed
paths_below-requires-clause-closed c =
    closed_by (placed c.args.uses.now.names.tree.now) c.args.root c.containment.result.now c.args.used.now.keys
    c.containment.ensures c.requires.used

pub returns : goal.returns
returns c =
    let tree = placed c.args.uses.now.names.tree.now in
    let rows = ap length c.containment.ensures in
    let size = length-map tree.declarations (targets_in tree) in
    ok_threads (λ paths. paths) c.paths_below.result tree c.args.root c.containment.result.now c.as_slice.result.now
    c.args.used.now.keys c.containment.ensures (c.as_slice.ensures.value ∙ c.in_ok-marks.ensures)
    (omega (arith, rows, size, c.requires.root)) ((c.requires.used c.args.root).1 ([], refl)) c.paths_below.ensures
