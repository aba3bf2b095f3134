use Rattle.std.proofs.Common.{◌≡◌, ◌∙◌, not, sym, ap}
use Rattle.std.proofs.lemmas.Bool.Decides.{same_from_decides}
use Rattle.std.proofs.lemmas.Slice.Eq.{bytes_eq-Decides}
use Rattle.std.specs.Str.{str_to_ascii_lowercase}
use Rattle.aadl_tree.specs.Names.{same_name}
use Rattle.aadl_tree.specs.proof.PackageViews.{placed}
use Rattle.aadl_tree.specs.proof.DeclarationViews.{implementation_view}
use Rattle.aadl_tree.specs.proof.PlaceMaps.{kept_place}
use Rattle.aadl_names.specs.DuplicateNames.{wrong_if}
use Rattle.aadl_names.specs.proof.FirstFaultSoFar.{found}
use Rattle.aadl_names.specs.QualifiedNameSpellings.{spelled_implementation}
use Rattle.aadl_names.specs.NameResolution.{type_numbered, type_of}
use Rattle.aadl_names.specs.PackageNameFaults.{has_type}
use Rattle.aadl_names.proofs.FirstFaultSoFar.{found_append}
use Rattle.name_faults.proofs.implementations.check_heading.Goals as goal

pub returns : goal.returns
returns c =
    let tree = placed c.args.tree.now in
    let x = implementation_view kept_place c.args.x.now in
    let old = c.args.finder.now in
    let end = spelled_implementation x.end_name in
    let name = spelled_implementation x.name in
    let at = x.end_name.component_type.at in
    let same : c.eq_ignore_ascii_case.result ≡ same_name end name =
    same_from_decides _ _ c.eq_ignore_ascii_case.ensures.test
    (bytes_eq-Decides (str_to_ascii_lowercase c.as_str.result.now) (str_to_ascii_lowercase c.as_str-2.result.now))
    ∙ ap (λ t. same_name t c.as_str-2.result.now) (c.as_str.ensures ∙ c.in_ok-end_name.ensures)
    ∙ ap (same_name end) (c.as_str-2.ensures ∙ c.in_ok-name.ensures) in
    let has : c.has_type.result ≡ has_type x.category (type_of tree x) =
    c.has_type.ensures ∙ ap (λ n. has_type x.category (type_numbered tree n)) c.requires in
    let first : c.wrong_if.new.self ≡ found old (wrong_if (not (same_name end name)) at) =
    c.wrong_if.ensures ∙ ap (λ b. found old (wrong_if (not b) at)) same in
    c.wrong_if-2.ensures ∙ ap (λ b. found c.wrong_if.new.self (wrong_if (not b) x.at)) has
    ∙ ap (λ f. found f (wrong_if (not (has_type x.category (type_of tree x))) x.at)) first
    ∙ sym (found_append old (wrong_if (not (same_name end name)) at)
    (wrong_if (not (has_type x.category (type_of tree x))) x.at))
