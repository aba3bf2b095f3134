use Rattle.aadl_tree.specs.proof.PlaceMaps.{kept_place}
use Rattle.aadl_tree.proofs.ActionViews.{view-loop}
use Rattle.behaviour_parse.proofs.actions.turns.Goals as goal

pub returns : goal.returns
returns c =
    view-loop kept_place c.args.at c.args.head.variable c.args.head.data_type c.args.head.low
    c.args.head.high c.args.body
