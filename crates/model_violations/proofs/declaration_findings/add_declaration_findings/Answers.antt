use Rattle.std.proofs.Common.{◌≡◌, ◌∙◌, Some, ap, sym}
use Rattle.std.specs.Prelude.{slice_get}
use Rattle.aadl_tree.specs.Declarations.{implementation}
use Rattle.aadl_tree.specs.proof.PlaceMaps.{kept_place}
use Rattle.aadl_tree.specs.proof.PackageViews.{placed}
use Rattle.aadl_tree.specs.proof.DeclarationViews.{declaration_view, implementation_view}
use Rattle.aadl_names.specs.NameResolution.{implementation_in}
use Rattle.model_violations.proofs.declaration_findings.add_declaration_findings.Goals as goal

pub add_implementation_findings-requires-clause-number : goal.add_implementation_findings-requires-clause-number
add_implementation_findings-requires-clause-number c =
    c.requires.number ∙ ap (λ d. Some (declaration_view kept_place d)) c.in-Implementation.is

pub add_implementation_findings-requires-clause-small : goal.add_implementation_findings-requires-clause-small
add_implementation_findings-requires-clause-small c =
    let at : slice_get (placed c.args.in_use.now.wires.now.uses.names.tree.now).declarations c.args.number
    ≡ Some (implementation (implementation_view kept_place c.in-Implementation.x)) =
    c.requires.number ∙ ap (λ d. Some (declaration_view kept_place d)) c.in-Implementation.is in
    λ thread. c.requires.small.each c.args.number (implementation_view kept_place c.in-Implementation.x)
    (sym c.contains-in-Implementation.ensures ∙ c.if-contains-2.true) (ap implementation_in at) thread
