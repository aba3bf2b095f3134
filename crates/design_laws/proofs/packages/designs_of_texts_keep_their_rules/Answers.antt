use Rattle.design_laws.proofs.AcceptedPackageDesigns.{given_names, keeps_rules, is_there}
use Rattle.design_laws.proofs.packages.designs_of_texts_keep_their_rules.Goals as goal

pub returns-clause-rules : goal.returns-clause-rules
returns-clause-rules c tree root design given =
    keeps_rules c.designs_keep_their_rules.ensures tree root design (given_names c.names_differ.ensures tree given)

pub returns-clause-there : goal.returns-clause-there
returns-clause-there c tree root parts given =
    is_there c.accepted_instances_have_designs.ensures tree root parts (given_names c.names_differ.ensures tree given)
