use Rattle.pals_model.proofs.RootInputsAndFeeds.{feed_has_root, feeds_have_root_kind}
use Rattle.pals_model.proofs.laws.root_inputs_and_feeds.feeds_have_roots.Goals as goal

pub returns : goal.returns
returns c = record { name = feed_has_root; kind = feeds_have_root_kind }
