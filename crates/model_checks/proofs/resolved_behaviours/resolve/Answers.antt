use Rattle.std.proofs.Common.{◌∙◌, Some, sym, ap}
use Rattle.aadl_tree.specs.proof.PackageViews.{placed}
use Rattle.model_checks.proofs.CachedBehaviours.{kept_more}
use Rattle.model_checks.proofs.resolved_behaviours.resolve.Goals as goal

pub resolve_implementation-requires : goal.resolve_implementation-requires
resolve_implementation-requires c = c.requires.small

pub new-requires : goal.new-requires
new-requires c = c.requires.rules c.in-Some.parts (sym c.in_ok-parts.ensures.parts ∙ c.in-Some.is)

pub returns-clause-kept : goal.returns-clause-kept
returns-clause-kept c =
    kept_more (placed c.args.uses.now.names.tree.now) c.args.kept.now.entries c.insert.new.self.entries c.args.number
    c.in_ok-try_clone.field-0
    (ap Some (c.in_ok-try_clone.ensures ∙ c.in_ok-behaviour.ensures) ∙ (sym c.in-Some.is ∙ c.in_ok-parts.ensures.parts))
    c.in_ok-insert.ensures.updates.0 c.requires.kept
