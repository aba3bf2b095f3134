use Rattle.std.proofs.Common.{◌∙◌, sym, ap}
use Rattle.aadl_tree.specs.proof.PackageViews.{placed}
use Rattle.aadl_tree.specs.proof.DeclarationViews.{type_view}
use Rattle.aadl_tree.specs.proof.PlaceMaps.{kept_place}
use Rattle.aadl_names.specs.NameResolution.{port_named, features_of, type_numbered}
use Rattle.aadl_names.proofs.MemberNumbers.{ok_as}
use Rattle.aadl_names.proofs.DeclarationsAndMembers.{members_there}
use Rattle.aadl_names.proofs.type_ports.port_number.Goals as goal

pub returns-in-Some-type_numbered : goal.returns-in-Some-type_numbered
returns-in-Some-type_numbered c =
    ok_as c.member.result _ _
    (members_there (placed c.args.names.now.tree.now) c.args.of_type c.in-Some.number
    (type_view kept_place c.in-Some-type_numbered.field-0.now) c.args.name.now c.in-Some.is
    c.in-Some-type_numbered.ensures)
    c.member.ensures

pub returns-in-None : goal.returns-in-None
returns-in-None c =
    ap (λ t. port_named (features_of t) c.args.name.now) c.in-None.ensures
    ∙ sym (ap (λ o. port_named (features_of (type_numbered (placed c.args.names.now.tree.now) o)) c.args.name.now)
    c.in-Some.is)

pub returns-in_default : goal.returns-in_default
returns-in_default c =
    sym (ap (λ o. port_named (features_of (type_numbered (placed c.args.names.now.tree.now) o)) c.args.name.now)
    c.in_default.is)
