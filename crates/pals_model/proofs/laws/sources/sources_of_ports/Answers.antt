use Rattle.pals_model.proofs.SourceLaws.{link_is_source, feed_is_source, nothing_is_source}
use Rattle.pals_model.proofs.laws.sources.sources_of_ports.Goals as goal

pub returns : goal.returns
returns c = record { link = link_is_source; feed = feed_is_source; nothing = nothing_is_source }
