use Rattle.std.proofs.Common.{◌∙◌, sym, ap}
use Rattle.aadl_tree.specs.proof.PackageViews.{placed}
use Rattle.aadl_names.specs.NameResolution.{features_of, type_numbered}
use Rattle.model_violations.specs.ConnectionFindings.{kind_numbered, site_kind}
use Rattle.model_violations.proofs.ConnectionEndTypes.{own_kind, inner_kind}
use Rattle.model_violations.proofs.connection_findings.site_kind.Goals as goal

pub returns-in-Own : goal.returns-in-Own
returns-in-Own c = λ x is.
    let tree = placed c.args.uses.now.names.tree.now in
    c.kind_numbered.ensures ∙ ap (λ o. kind_numbered (features_of (type_numbered tree o)) c.in-Own.port)
    c.type_number.ensures
    ∙ own_kind tree c.args.number x is c.in-Own.port ∙ ap (site_kind tree x) (sym c.in-Own.is)

pub returns-in-Inner : goal.returns-in-Inner
returns-in-Inner c = λ x is.
    let tree = placed c.args.uses.now.names.tree.now in
    c.kind_numbered-in-Inner.ensures
    ∙ ap (λ o. kind_numbered (features_of (type_numbered tree o)) c.in-Inner.port) c.type_below.ensures
    ∙ inner_kind tree c.args.number x is c.in-Inner.sub c.in-Inner.port ∙ ap (site_kind tree x) (sym c.in-Inner.is)
