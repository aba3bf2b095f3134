use Rattle.std.proofs.Common.{◌≡◌, ◌++◌, List, Option, map, refl, sym, ap, ◌∙◌}
use Rattle.std.specs.Prelude.{slice_get}
use Rattle.std.specs.List.{flat_map, filter_map}
use Rattle.aadl_tree.specs.proof.PackageViews.{placed}
use Rattle.aadl_tree.specs.proof.DeclarationViews.{declaration_view}
use Rattle.aadl_tree.specs.proof.PlaceMaps.{kept_place}
use Rattle.aadl_names.specs.declared.fault.PackageFault.{PackageFault}
use Rattle.aadl_names.specs.proof.FirstFaultSoFar.{found}
use Rattle.aadl_names.specs.DuplicateNames.{twice}
use Rattle.aadl_names.specs.DuplicatesByNamespace.{type_entry, implementation_entry}
use Rattle.aadl_names.specs.proof.DuplicatesBesidePorts.{beside_in, beside_names}
use Rattle.aadl_names.proofs.FirstFaultSoFar.{next_found, last_found, found_append}
use Rattle.name_faults.proofs.FaultsByDeclaration.{numbered}
use Rattle.name_faults.proofs.duplicates_by_namespace.check_duplicates.Goals as goal

-- three concatenated lists of findings
three_found : (first one two last : (Option PackageFault)) (a b c : List PackageFault) → one ≡ found first a
    → two ≡ found one b → last ≡ found two c
    → last ≡ found first (a ++ b ++ c)
three_found first one two last a b c x y z =
    z ∙ (ap (λ o. found o c) (y ∙ ap (λ o. found o b) x)
    ∙ sym (found_append first (a ++ b) c ∙ ap (λ o. found o c) (found_append first a b)))

pub check_in-requires : goal.check_in-requires
check_in-requires c =
    record {
      all = c.requires;
      number =
          ap (λ items. slice_get (map (declaration_view kept_place) items) c.loop-number.number)
          (sym c.deref-declaration-items.ensures.value)
          ∙ numbered (declaration_view kept_place) c.deref-declaration-items.result.now c.loop-number.number
          c.declaration-item.result
          c.loop-number-test.true c.declaration-item.is;
    }

pub loop-number-preserved : goal.loop-number-preserved
loop-number-preserved c =
    next_found (λ xs. flat_map (beside_in (placed c.args.uses.now.names.tree.now))
    (map (declaration_view kept_place) xs))
    (λ x. beside_in (placed c.args.uses.now.names.tree.now) (declaration_view kept_place x)) (λ x xs. refl) _ _ _ _ _ _
    c.loop-number-test.true c.declaration-item.is c.loop-number.invariant c.in_ok-check_in.ensures

pub returns : goal.returns
unfolding beside_names
returns c =
    let tree = placed c.args.uses.now.names.tree.now in
    three_found c.args.finder.now _ _ _ (twice (filter_map type_entry tree.declarations))
    (twice (filter_map implementation_entry tree.declarations))
    (flat_map (beside_in tree) tree.declarations)
    (c.in_ok-check_twice.ensures
    ∙ ap (λ es. found c.args.finder.now (twice es)) (c.as_slice.ensures.value ∙ c.in_ok-types.ensures))
    (c.in_ok-check_twice-2.ensures
    ∙ ap (λ es. found c.check_twice.new.finder (twice es))
    (c.as_slice-2.ensures.value ∙ c.in_ok-implementations.ensures))
    (last_found (λ xs. flat_map (beside_in tree) (map (declaration_view kept_place) xs)) _ _ _ _
    c.loop-number-test.false refl c.loop-number.invariant
    ∙ ap (λ ds. found c.check_twice-2.new.finder (flat_map (beside_in tree) (map (declaration_view kept_place) ds)))
    c.deref-declaration-items.ensures.value)
