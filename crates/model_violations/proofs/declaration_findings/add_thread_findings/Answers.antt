use Rattle.std.proofs.Common.{◌∙◌, ◌++◌, [], subst, sym, ap}
use Rattle.std.specs.Prelude.{if◌then◌else◌}
use Rattle.std.proofs.lemmas.Option.{same_Some}
use Rattle.aadl_tree.specs.proof.PlaceMaps.{kept_place}
use Rattle.aadl_tree.specs.proof.PackageViews.{placed}
use Rattle.aadl_tree.specs.proof.DeclarationViews.{implementation_view}
use Rattle.aadl_names.specs.NameResolution.{is_thread}
use Rattle.model_violations.specs.ThreadBehaviours.{IsSmall, implementation_findings}
use Rattle.model_violations.proofs.declaration_findings.add_thread_findings.Goals as goal

pub resolve_implementation-requires : goal.resolve_implementation-requires
resolve_implementation-requires c = λ x is.
    subst (IsSmall (placed c.args.uses.now.names.tree.now))
    (same_Some (implementation_view kept_place c.args.x.now) x (sym c.requires.number ∙ is))
    (c.requires.small (ap is_thread c.in-Thread.is))

pub returns-in_ok-_behaviour-in-Thread : goal.returns-in_ok-_behaviour-in-Thread
returns-in_ok-_behaviour-in-Thread c =
    let tree = placed c.args.uses.now.names.tree.now in
    let x = implementation_view kept_place c.args.x.now in
    c.in_ok-_behaviour-in-Thread.ensures.found x c.requires.number
    ∙ ap (λ is. c.args.found.now ++ (if is then implementation_findings tree x else []))
    (sym (ap is_thread c.in-Thread.is))
