use Rattle.std.proofs.Common.{◌≡◌, ℕ, List, ◌∷◌, Bool, map, refl, sym, ap, ◌∙◌}
use Rattle.aadl_tree.specs.Names.{same_name, identifiers}
use Rattle.std.specs.List.{flat_map}
use Rattle.std.specs.Option.{option_or}
use Rattle.std.proofs.lemmas.List.Folds.{list_any-append}
use Rattle.aadl_tree.specs.declared.annex.VariableDeclaration.{VariableDeclaration}
use Rattle.aadl_tree.specs.proof.AnnexViews.{variable_view}
use Rattle.aadl_tree.specs.proof.PlaceMaps.{kept_place}
use Rattle.aadl_names.specs.declared.name_roles.Role.TheVariants.{Varies}
use Rattle.aadl_names.specs.PackageNameFaults.{is_among}
use Rattle.name_faults.specs.proof.ConditionalValues.{value_if}
use Rattle.name_faults.proofs.RoleTables.{next_role, last_role, value_or}
use Rattle.name_faults.proofs.behaviour_name_tables.variable_roles.Goals as goal

abbrev among : List ℕ → List VariableDeclaration → Bool
among name xs = is_among (flat_map (λ d. identifiers d.names) (map (variable_view kept_place) xs)) name

abbrev among_here : List ℕ → VariableDeclaration → Bool
among_here name x = is_among (identifiers (variable_view kept_place x).names) name

splits : (name : List ℕ) (x : VariableDeclaration) (xs : List VariableDeclaration)
    → value_if Varies (among name (x ∷ xs))
    ≡ option_or (value_if Varies (among_here name x)) (value_if Varies (among name xs))
splits name x xs =
    ap (value_if Varies) (list_any-append (λ y. same_name name y.spelling)
    (identifiers (variable_view kept_place x).names)
    (flat_map (λ d. identifiers d.names) (map (variable_view kept_place) xs)))
    ∙ value_or Varies (among_here name x) (among name xs)

pub loop-declaration-init : goal.loop-declaration-init
loop-declaration-init c =
    λ name. ap (λ o. option_or o (value_if Varies (among name c.variables_in-declaration-items.result.now)))
    (sym (c.new-table.ensures name))

pub loop-declaration-preserved : goal.loop-declaration-preserved
loop-declaration-preserved c = λ name.
    next_role (λ xs. value_if Varies (among name xs)) (λ x. value_if Varies (among_here name x))
    (splits name) _ _ _ _ _ _
    c.loop-declaration-test.true c.declaration-item.is (c.loop-declaration.invariant name)
    (c.in_ok-add_words.ensures name)

pub returns : goal.returns
returns c = λ name.
    let whole =
    last_role (λ xs. value_if Varies (among name xs)) _ _ _ _ c.loop-declaration-test.false refl
    (c.loop-declaration.invariant name) in
    whole ∙ ap (λ ds. value_if Varies (is_among (flat_map (λ d. identifiers d.names) ds) name))
    c.variables_in-declaration-items.ensures
