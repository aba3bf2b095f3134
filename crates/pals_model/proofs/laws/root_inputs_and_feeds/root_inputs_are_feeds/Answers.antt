use Rattle.pals_model.proofs.RootInputsAndFeeds.{root_inputs_differ, root_inputs_are_feeds, root_inputs_in_order}
use Rattle.pals_model.proofs.laws.root_inputs_and_feeds.root_inputs_are_feeds.Goals as goal

pub returns : goal.returns
returns c = record { once = root_inputs_differ; all = root_inputs_are_feeds; order = root_inputs_in_order }
