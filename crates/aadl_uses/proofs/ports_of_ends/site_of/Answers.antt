use Rattle.std.proofs.Common.{◌∙◌, sym, ap, option_map, slice_get}
use Rattle.list_lemmas.proofs.Results.{IfOk-weaker}
use Rattle.aadl_tree.specs.proof.PlaceMaps.{kept_place}
use Rattle.aadl_tree.specs.proof.NameViews.{identifier_view}
use Rattle.aadl_tree.specs.proof.DeclarationViews.{end_view}
use Rattle.aadl_names.specs.proof.MemberNumbers.{member_of}
use Rattle.aadl_tree.specs.proof.PackageViews.{placed}
use Rattle.aadl_uses.proofs.EndPorts.{own_is, inner_is, none_is}
use Rattle.aadl_uses.proofs.ports_of_ends.site_of.Goals as goal

pub returns-in_default : goal.returns-in_default
returns-in_default c =
    let tree = placed c.args.uses.now.names.tree.now in
    let end = end_view kept_place c.args.end.now in
    IfOk-weaker _ _ c.own_port.result
    (λ port e x is. e ∙ own_is tree c.args.number x end is
    (ap (option_map (identifier_view kept_place)) c.in_default.is)) c.own_port.ensures

pub returns-in-Some-2 : goal.returns-in-Some-2
returns-in-Some-2 c =
    let tree = placed c.args.uses.now.names.tree.now in
    let end = end_view kept_place c.args.end.now in
    let second = ap (option_map (identifier_view kept_place)) c.in-Some.is in
    let found =
    sym (ap (member_of (slice_get tree.declarations c.args.number)) c.as_str.ensures.value)
    ∙ (sym c.in_ok-sub.ensures ∙ c.in-Some-2.is) in
    IfOk-weaker _ _ c.inner_site.result
    (λ port e x is. e ∙ inner_is tree c.args.number x end is (identifier_view kept_place c.in-Some.port) c.in-Some-2.sub
    second found) c.inner_site.ensures

pub returns-in-None : goal.returns-in-None
returns-in-None c = λ x is.
    let tree = placed c.args.uses.now.names.tree.now in
    let end = end_view kept_place c.args.end.now in
    let second = ap (option_map (identifier_view kept_place)) c.in-Some.is in
    let found =
    sym (ap (member_of (slice_get tree.declarations c.args.number)) c.as_str.ensures.value)
    ∙ (sym c.in_ok-sub.ensures ∙ c.in-None.is) in
    none_is tree c.args.number x end is (identifier_view kept_place c.in-Some.port) second found
