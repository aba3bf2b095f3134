use Rattle.std.proofs.Common.{ap, ◌∙◌, refl, ◌++◌, ◌∷◌, []}
use Rattle.aadl_tree.specs.proof.PlaceMaps.{kept_place}
use Rattle.aadl_tree.specs.proof.NameViews.{identifier_view}
use Rattle.annex_resolve.specs.NameMeanings.{entry_named}
use Rattle.annex_resolve.proofs.ResolvedExpressions.{name_read, name_unread}
use Rattle.annex_resolve.proofs.expressions.resolve_name.Goals as goal

pub returns-in-Some : goal.returns-in-Some
returns-in-Some c =
    name_read c.args.scope.now (identifier_view kept_place c.args.name.now) c.args.fresh _ c.read_of.result
    c.in-Some.expr c.read_kind-kind.result c.args.found.now
    (c.find-entry.ensures ∙ ap (entry_named c.args.scope.now) c.as_str.ensures.value) c.read_of.ensures c.in-Some.is
    c.read_kind-kind.ensures

pub returns-in_ok-push-in-None : goal.returns-in_ok-push-in-None
returns-in_ok-push-in-None c =
    name_unread c.args.scope.now (identifier_view kept_place c.args.name.now) c.args.fresh _ c.read_of.result _
    c.read_kind-kind.result c.args.found.now _
    (c.find-entry.ensures ∙ ap (entry_named c.args.scope.now) c.as_str.ensures.value) c.read_of.ensures c.in-None.is
    c.read_kind-kind.ensures refl
    (c.in_ok-push-in-None.ensures.ok ∙ ap (λ v. c.args.found.now ++ v ∷ []) c.bare.ensures)
