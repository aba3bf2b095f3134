use Rattle.std.proofs.Common.{None, map, refl, sym, ap, ◌∙◌}
use Rattle.std.specs.List.{flat_map}
use Rattle.aadl_tree.specs.proof.DeclarationViews.{feature_view}
use Rattle.aadl_tree.specs.proof.PlaceMaps.{kept_place}
use Rattle.aadl_names.specs.proof.FirstFaultSoFar.{found, as_list}
use Rattle.aadl_names.specs.DuplicateNames.{twice}
use Rattle.aadl_names.specs.proof.EarliestDeclarations.{earliest}
use Rattle.aadl_names.specs.DuplicatesByNamespace.{port_entries}
use Rattle.aadl_names.specs.proof.DuplicatesBesidePorts.{beside_one, beside_each, beside}
use Rattle.aadl_names.proofs.FirstFaultSoFar.{next_found, last_found, found_append}
use Rattle.name_faults.proofs.duplicates_beside_ports.check_port_duplicates.Goals as goal

pub loop-entry-preserved : goal.loop-entry-preserved
loop-entry-preserved c =
    let ports = port_entries (map (feature_view kept_place) c.args.ports.now) in
    let others = c.args.others.now in
    let x = c.entry-item.result in
    next_found (λ ys. flat_map (beside_each ports others) ys) (beside_each ports others) (λ y ys. refl) _ _ _ _ _ _
    c.loop-entry-test.true c.entry-item.is
    c.loop-entry.invariant
    (c.in_ok-check_one.ensures
    ∙ (ap (λ o. found c.loop-entry.finder (beside_one ports o c.in_ok-other.other x))
    (c.in_ok-port.ensures ∙ (c.requires.earliest _ ∙ ap (λ n. earliest n 0 ports) c.as_str-name.ensures.value))
    ∙ ap (λ o. found c.loop-entry.finder (beside_one ports (earliest x.name 0 ports) o x))
    (c.in_ok-other.ensures ∙ (c.in_ok-own.ensures _ ∙ ap (λ n. earliest n 0 others) c.as_str-name.ensures.value))))

pub returns : goal.returns
unfolding beside
returns c =
    let ports = port_entries (map (feature_view kept_place) c.args.ports.now) in
    let others = c.args.others.now in
    last_found (λ ys. flat_map (beside_each ports others) ys) _ _ _ _ c.loop-entry-test.false refl
    c.loop-entry.invariant
    ∙ (ap (λ o. found o (flat_map (beside_each ports others) others))
    (c.in_ok-add.ensures ∙ ap (λ o. found c.args.finder.now (as_list o)) c.requires.again)
    ∙ sym (found_append c.args.finder.now (as_list (found None (twice ports)))
    (flat_map (beside_each ports others) others)))
