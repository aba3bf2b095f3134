use Rattle.std.proofs.Common.{◌∙◌, ◌++◌, sym, ap}
use Rattle.std.specs.Option.{option_and_then}
use Rattle.std.proofs.lemmas.Option.{none-some, same_Some}
use Rattle.aadl_tree.specs.proof.PlaceMaps.{kept_place}
use Rattle.aadl_tree.specs.proof.PackageViews.{placed}
use Rattle.aadl_tree.specs.proof.DeclarationViews.{implementation_view}
use Rattle.model_violations.specs.ThreadBehaviours.{behaviour_in, implementation_findings}
use Rattle.model_violations.proofs.thread_behaviour.resolve_implementation.Goals as goal

pub resolve_numbered-requires-clause-number : goal.resolve_numbered-requires-clause-number
resolve_numbered-requires-clause-number c = sym c.in-Some.ensures

pub resolve_numbered-requires-clause-small : goal.resolve_numbered-requires-clause-small
resolve_numbered-requires-clause-small c =
    c.requires (implementation_view kept_place c.in-Some.x.now) (sym c.in-Some.ensures)

pub returns-in_default-clause-parts : goal.returns-in_default-clause-parts
returns-in_default-clause-parts c =
    ap (option_and_then (behaviour_in (placed c.args.uses.now.names.tree.now))) c.in_default.ensures

pub returns-in_default-clause-found : goal.returns-in_default-clause-found
returns-in_default-clause-found c = λ x is. absurd (none-some x (c.in_default.ensures ∙ is))

pub returns-clause-parts : goal.returns-clause-parts
returns-clause-parts c =
    c.in_ok-parts.ensures.parts
    ∙ ap (option_and_then (behaviour_in (placed c.args.uses.now.names.tree.now))) c.in-Some.ensures

pub returns-clause-found : goal.returns-clause-found
returns-clause-found c = λ x is.
    let tree = placed c.args.uses.now.names.tree.now in
    c.in_ok-parts.ensures.found
    ∙ ap (λ y. c.args.found.now ++ implementation_findings tree y)
    (same_Some (implementation_view kept_place c.in-Some.x.now) x (c.in-Some.ensures ∙ is))
