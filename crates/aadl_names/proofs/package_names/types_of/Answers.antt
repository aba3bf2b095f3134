use Rattle.std.proofs.Common.{arith}
use Rattle.aadl_tree.specs.proof.DeclarationViews.{declaration_view}
use Rattle.aadl_tree.specs.proof.PlaceMaps.{kept_place}
use Rattle.aadl_names.specs.NameResolution.{is_type}
use Rattle.aadl_names.proofs.FirstMatches.{next_first, last_first}
use Rattle.aadl_names.proofs.package_names.types_of.Goals as goal

pub loop-number-preserved : goal.loop-number-preserved
loop-number-preserved c = λ name.
    next_first (declaration_view kept_place) (is_type name) c.args.declarations.now c.loop-number.number
    c.index-declarations-number.result _ _
    (omega arith) c.index-declarations-number.is (c.loop-number.invariant name) (c.in_ok-add_type.ensures name)

pub returns : goal.returns
returns c =
    λ name. last_first (declaration_view kept_place) (is_type name) c.args.declarations.now c.loop-number.number _
    c.loop-number-test.false (c.loop-number.invariant name)
