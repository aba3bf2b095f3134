use Rattle.pals_model.proofs.NameLaws.{node_is_found, found_node_has_path}
use Rattle.pals_model.proofs.laws.names.components_have_paths.Goals as goal

pub returns : goal.returns
returns c = record { found = node_is_found; named = found_node_has_path }
