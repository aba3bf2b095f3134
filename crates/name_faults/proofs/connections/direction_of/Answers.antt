use Rattle.std.proofs.Common.{◌∙◌, sym, ap}
use Rattle.aadl_tree.specs.proof.PackageViews.{placed}
use Rattle.aadl_names.specs.NameResolution.{direction_in, features_of, type_numbered, direction_of}
use Rattle.name_faults.proofs.NumberedImplementations.{own_direction, inner_direction}
use Rattle.name_faults.proofs.connections.direction_of.Goals as goal

pub returns-in-Own : goal.returns-in-Own
returns-in-Own c = λ x stands.
    let tree = placed c.args.uses.now.names.tree.now in
    c.port_direction.ensures
    ∙ ap (λ t. direction_in (features_of (type_numbered tree t)) c.in-Own.port) c.type_number.ensures
    ∙ own_direction tree c.args.number x stands c.in-Own.port ∙ sym (ap (direction_of tree x) c.in-Own.is)

pub returns-in-Inner : goal.returns-in-Inner
returns-in-Inner c = λ x stands.
    let tree = placed c.args.uses.now.names.tree.now in
    c.port_direction-in-Inner.ensures
    ∙ ap (λ t. direction_in (features_of (type_numbered tree t)) c.in-Inner.port) c.type_below.ensures
    ∙ inner_direction tree c.args.number x stands c.in-Inner.sub c.in-Inner.port
    ∙ sym (ap (direction_of tree x) c.in-Inner.is)
