use Rattle.pals_model.proofs.NameLaws.{target_names_differ}
use Rattle.pals_model.proofs.laws.names.in_ports_have_names.Goals as goal

pub returns : goal.returns
returns c = target_names_differ
