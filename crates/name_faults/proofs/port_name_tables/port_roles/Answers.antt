use Rattle.std.proofs.Common.{map, refl, sym, ap, cond, Some, None}
use Rattle.aadl_tree.specs.Names.{same_name}
use Rattle.std.specs.Option.{option_or}
use Rattle.aadl_tree.specs.proof.DeclarationViews.{feature_view}
use Rattle.aadl_tree.specs.proof.PlaceMaps.{kept_place}
use Rattle.aadl_names.specs.PackageNameFaults.{role_in, port_roles}
use Rattle.name_faults.proofs.RoleTables.{next_role, last_role}
use Rattle.name_faults.proofs.TypePortNames.{roles-cons}
use Rattle.name_faults.proofs.port_name_tables.port_roles.Goals as goal

pub loop-port-init : goal.loop-port-init
loop-port-init c =
    λ name. ap (λ o. option_or o (port_roles (map (feature_view kept_place) c.args.ports.now) name))
    (sym (c.new-roles.ensures name))

pub loop-port-preserved : goal.loop-port-preserved
loop-port-preserved c = λ name.
    next_role (λ xs. port_roles (map (feature_view kept_place) xs) name)
    (λ x. cond (same_name name (feature_view kept_place x).name.spelling)
    (Some (role_in (feature_view kept_place x).direction)) None)
    (λ x xs. roles-cons name (feature_view kept_place x) (map (feature_view kept_place) xs)) _ _ _ _ _ _
    c.loop-port-test.true c.port-item.is (c.loop-port.invariant name) (c.in_ok-add_role.ensures name)

pub returns : goal.returns
returns c = λ name.
    last_role (λ xs. port_roles (map (feature_view kept_place) xs) name) _ _ _ _ c.loop-port-test.false refl
    (c.loop-port.invariant name)
