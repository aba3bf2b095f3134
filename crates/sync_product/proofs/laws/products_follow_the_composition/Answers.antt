use Rattle.sync_product.proofs.CompositionAgreement.{design_stays, stands_at_composition, has_parts_of_round}
use Rattle.sync_product.proofs.laws.products_follow_the_composition.Goals as goal

pub returns-clause-design : goal.returns-clause-design
returns-clause-design c = design_stays

pub returns-clause-configuration : goal.returns-clause-configuration
returns-clause-configuration c = stands_at_composition

pub returns-clause-parts : goal.returns-clause-parts
returns-clause-parts c = has_parts_of_round
