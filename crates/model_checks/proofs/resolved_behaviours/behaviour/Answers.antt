use Rattle.std.proofs.Common.{◌∙◌, sym, ap}
use Rattle.std.specs.Option.{option_and_then}
use Rattle.aadl_tree.specs.proof.PackageViews.{placed}
use Rattle.model_violations.specs.ThreadBehaviours.{behaviour_in}
use Rattle.model_checks.proofs.resolved_behaviours.behaviour.Goals as goal

pub resolve-requires-clause-small : goal.resolve-requires-clause-small
resolve-requires-clause-small c = λ x is. c.requires.limits x (sym c.in-Some.ensures ∙ is)

pub resolve-requires-clause-rules : goal.resolve-requires-clause-rules
resolve-requires-clause-rules c = λ b is.
    c.requires.rules b (sym (ap (option_and_then (behaviour_in (placed c.args.uses.now.names.tree.now)))
    c.in-Some.ensures) ∙ is)

pub returns-in-Some-2-clause-value : goal.returns-in-Some-2-clause-value
returns-in-Some-2-clause-value c =
    sym (c.requires.kept c.in-Some.number c.in-Some-2.behaviour (sym c.in_ok-behaviour.ensures ∙ c.in-Some-2.is))
    ∙ ap (option_and_then (behaviour_in (placed c.args.uses.now.names.tree.now))) c.in-Some.ensures
