use Rattle.pals_model.proofs.NameLaws.{link_is_found, found_link_has_name}
use Rattle.pals_model.proofs.laws.names.links_have_names.Goals as goal

pub returns : goal.returns
returns c = record { found = link_is_found; named = found_link_has_name }
