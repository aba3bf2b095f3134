use Rattle.std.proofs.Common.{◌≡◌, ℕ, List, ◌++◌, codes, true, refl, ap, ◌∙◌}
use Rattle.aadl_tree.specs.proof.PackageViews.{placed}
use Rattle.aadl_tree.specs.proof.NameViews.{reference_view}
use Rattle.aadl_tree.specs.proof.PlaceMaps.{kept_place}
use Rattle.aadl_names.specs.NameResolution as spec
use Rattle.aadl_names.specs.NameResolution.{first_number, is_implementation, referred}
use Rattle.aadl_names.proofs.MemberNumbers.{ok_as}
use Rattle.aadl_names.proofs.package_names.Names.referred.Goals as goal

pub returns : goal.returns
unfolding referred
returns c =
    let some = c.in-Some.is in
    let own : spec.is_of (placed c.args.self.now.tree.now) (reference_view kept_place c.args.x.now) ≡ true =
    cc (c.is_of.ensures, c.if-not-is_of.false) in
    let tree = placed c.args.self.now.tree.now in
    let key = ap (λ (l : List ℕ). l ++ codes "." ++ c.as_str-2.result.now) c.as_str.ensures.value
    ∙ ap (λ (l : List ℕ). c.args.x.now.type_name.spelling ++ codes "." ++ l) c.as_str-2.ensures.value in
    ok_as c.dotted_value.result _ _
    (c.args.self.now.of_implementations (c.as_str.result.now ++ codes "." ++ c.as_str-2.result.now)
    ∙ (ap (λ (bs : List ℕ). first_number (is_implementation bs) tree.declarations) key ∙ rw (some, own) refl))
    c.dotted_value.ensures
