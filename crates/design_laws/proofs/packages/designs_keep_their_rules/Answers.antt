use Rattle.aadl_tree.specs.proof.PackageViews.{placed}
use Rattle.design_laws.proofs.AcceptedPackageDesigns.{keeps_rules, is_there, within_bound}
use Rattle.design_laws.proofs.packages.designs_keep_their_rules.Goals as goal

pub returns-clause-rules : goal.returns-clause-rules
returns-clause-rules c tree root design =
    keeps_rules c.designs_keep_their_rules.ensures (placed tree) root design (c.texts_name.ensures tree)

pub returns-clause-there : goal.returns-clause-there
returns-clause-there c tree root parts =
    is_there c.accepted_instances_have_designs.ensures (placed tree) root parts (c.texts_name.ensures tree)

pub returns-clause-bound : goal.returns-clause-bound
returns-clause-bound c = within_bound
