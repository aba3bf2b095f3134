use Rattle.std.proofs.Common.{map, sym, ap, ◌∙◌}
use Rattle.aadl_tree.specs.Names.{same_name}
use Rattle.std.specs.Prelude.{not, slice_get}
use Rattle.std.specs.List.{flat_map, enumerate_from}
use Rattle.aadl_tree.specs.proof.PackageViews.{placed}
use Rattle.aadl_tree.specs.proof.DeclarationViews.{declaration_view}
use Rattle.aadl_tree.specs.proof.PlaceMaps.{kept_place}
use Rattle.aadl_names.specs.DuplicateNames.{wrong_if}
use Rattle.aadl_names.specs.proof.FirstFaultSoFar.{found}
use Rattle.aadl_names.specs.QualifiedNameSpellings.{spelled_name}
use Rattle.aadl_names.specs.PackageNameFaults.{declaration_faults, wrong_names}
use Rattle.aadl_names.proofs.FirstFaultSoFar.{found_append}
use Rattle.name_faults.proofs.FaultsByDeclaration.{next_numbered, last_numbered, numbered}
use Rattle.name_faults.proofs.declarations.check_declarations.Goals as goal

pub check_declaration-requires : goal.check_declaration-requires
check_declaration-requires c =
    record {
      all = c.requires;
      number =
          ap (λ items. slice_get (map (declaration_view kept_place) items) c.loop-number.number)
          (sym c.deref-declaration-items.ensures.value)
          ∙ numbered (declaration_view kept_place) c.deref-declaration-items.result.now c.loop-number.number
          c.declaration-item.result
          c.loop-number-test.true c.declaration-item.is;
    }

pub loop-number-preserved : goal.loop-number-preserved
loop-number-preserved c =
    next_numbered (declaration_view kept_place)
    (declaration_faults (placed c.args.wires.now.uses.names.tree.now) c.args.root) _ _ _ _ _ _
    c.loop-number-test.true c.declaration-item.is c.loop-number.invariant c.in_ok-check_declaration.ensures

pub returns : goal.returns
unfolding wrong_names
returns c =
    let tree = placed c.args.wires.now.uses.names.tree.now in
    last_numbered (declaration_view kept_place) (declaration_faults tree c.args.root) _ _ _ _ c.loop-number-test.false
    c.loop-number.invariant
    ∙ (ap (λ ds. found c.check_end_name.new.finder (flat_map (declaration_faults tree c.args.root)
    (enumerate_from 0 (map (declaration_view kept_place) ds)))) c.deref-declaration-items.ensures.value
    ∙ (ap (λ o. found o (flat_map (declaration_faults tree c.args.root) (enumerate_from 0 tree.declarations)))
    c.in_ok-check_end_name.ensures
    ∙ sym (found_append c.args.finder.now
    (wrong_if (not (same_name (spelled_name tree.end_name) (spelled_name tree.name))) tree.end_name.first.at)
    (flat_map (declaration_faults tree c.args.root) (enumerate_from 0 tree.declarations)))))
