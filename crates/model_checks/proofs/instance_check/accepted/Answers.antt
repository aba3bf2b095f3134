use Rattle.std.proofs.lemmas.Option.{MatchOption-at_none, MatchOption-at_some}
use Rattle.aadl_tree.specs.proof.PackageViews.{placed}
use Rattle.model_violations.specs.proof.UnsortedFindings.{shown}
use Rattle.design_laws.specs.proof.AcceptedInstances.{NothingFound}
use Rattle.design_laws.specs.InstanceDesigns.{IsDesignOf}
use Rattle.model_checks.specs.proof.RefusedInstances.{HasNoDesign}
use Rattle.model_checks.proofs.instance_check.accepted.Goals as goal

pub design_parts-requires-clause-rules : goal.design_parts-requires-clause-rules
design_parts-requires-clause-rules c =
    let tree = placed c.args.instance.now.wires.uses.names.tree.now in
    let s = shown c.args.instance.now in
    let nothing : NothingFound tree s = c.no_violations_are_no_findings.ensures tree s c.requires.none in
    c.behaviours_keep_their_rules.ensures tree s (c.texts_name.ensures c.args.instance.now.wires.uses.names.tree.now)
    c.args.instance.now.flat nothing

pub unreachable-requires : goal.unreachable-requires
unreachable-requires c =
    let tree = placed c.args.instance.now.wires.uses.names.tree.now in
    let s = shown c.args.instance.now in
    let nothing : NothingFound tree s = c.no_violations_are_no_findings.ensures tree s c.requires.none in
    let missing : HasNoDesign tree s =
    MatchOption-at_none (HasNoDesign tree s) (λ design. IsDesignOf tree s design) c.in_default.is
    c.in_ok-parts.ensures in
    c.designs_are_there.ensures tree s (c.texts_name.ensures c.args.instance.now.wires.uses.names.tree.now)
    c.args.instance.now.flat nothing missing

pub new-requires : goal.new-requires
new-requires c =
    let tree = placed c.args.instance.now.wires.uses.names.tree.now in
    let s = shown c.args.instance.now in
    let nothing : NothingFound tree s = c.no_violations_are_no_findings.ensures tree s c.requires.none in
    let is : IsDesignOf tree s c.in-Some.parts =
    MatchOption-at_some (HasNoDesign tree s) (λ design. IsDesignOf tree s design) c.in-Some.parts c.in-Some.is
    c.in_ok-parts.ensures in
    c.designs_keep_their_rules.ensures tree s (c.texts_name.ensures c.args.instance.now.wires.uses.names.tree.now)
    c.args.instance.now.flat nothing c.in-Some.parts is
