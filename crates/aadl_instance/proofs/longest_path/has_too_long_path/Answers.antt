use Rattle.std.proofs.Common.{◌≡◌, ◌+◌, ◌∙◌, ℕ, Bool, List, None, ap, arith, get_or, length, map, subst, sym}
use Rattle.std.proofs.lemmas.List.{length-map}
use Rattle.pals_base.specs.declared.limits.TheConstants.{PATH_BYTES}
use Rattle.aadl_tree.specs.proof.PlaceMaps.{kept_place}
use Rattle.aadl_tree.specs.proof.PackageViews.{placed}
use Rattle.aadl_tree.specs.proof.DeclarationViews.{declaration_view}
use Rattle.aadl_uses.specs.proof.PackageContainment.{targets_in}
use Rattle.aadl_uses.specs.proof.ThreadCounts.{thread_marks}
use Rattle.aadl_uses.specs.proof.ContainmentGraphs.{Graph}
use Rattle.aadl_uses.specs.proof.HeaviestPaths.{IsHeaviest}
use Rattle.aadl_instance.specs.proof.PathLengths.{weights_in, name_weights, is_over}
use Rattle.aadl_instance.proofs.PathLengths.{tells_long}
use Rattle.aadl_instance.proofs.longest_path.has_too_long_path.Goals as goal

pub returns : goal.returns
returns c =
    let tree = placed c.args.uses.now.names.tree.now in
    let root = c.args.root in
    let found = c.in_ok-found.found.items in
    let rows = ap length c.containment.ensures in
    let size = length-map tree.declarations (targets_in tree) in
    let heaviest = c.in_ok-found.ensures root (omega (arith, rows, size, c.requires.root)) in
    let marked =
    subst (λ (m : List Bool).
    IsHeaviest (PATH_BYTES + 2) c.containment.result.now m c.in_ok-weights.weights root
    (get_or found root None)) (c.as_slice-2.ensures.value ∙ c.in_ok-marks.ensures) heaviest in
    let weighed =
    subst (λ (w : List (List ℕ)).
    IsHeaviest (PATH_BYTES + 2) c.containment.result.now (thread_marks tree) w root (get_or found root None))
    (c.in_ok-weights.ensures
    ∙ ap (λ (l : List _). map weights_in (map (declaration_view kept_place) l)) c.as_slice.ensures.value) marked in
    let whole =
    subst (λ (g : Graph). IsHeaviest (PATH_BYTES + 2) g (thread_marks tree) (name_weights tree) root
    (get_or found root None)) c.containment.ensures weighed in
    let test : c.is_over.result ≡ is_over (get_or found root None) = c.is_over.ensures
    ∙ ap (λ l. is_over (get_or l root None)) c.as_slice-3.ensures.value in
    let tells = tells_long tree root (get_or found root None) whole in
    (λ e. tells.0 (sym test ∙ e), λ t. test ∙ tells.1 t)
