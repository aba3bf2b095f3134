use Rattle.std.proofs.Common.{arith}
use Rattle.aadl_tree.specs.Names.{same_name}
use Rattle.aadl_tree.specs.proof.DeclarationViews.{feature_view}
use Rattle.aadl_tree.specs.proof.PlaceMaps.{kept_place}
use Rattle.aadl_names.proofs.FirstMatches.{next_first, last_first}
use Rattle.aadl_names.proofs.package_names.port_numbers.Goals as goal

pub loop-number-preserved : goal.loop-number-preserved
loop-number-preserved c = λ name.
    next_first (feature_view kept_place) (λ p. same_name name p.name.spelling) c.args.ports.now c.loop-number.number
    c.index-ports-number.result _ _
    (omega arith) c.index-ports-number.is (c.loop-number.invariant name) (c.in_ok-add_word.ensures name)

pub returns : goal.returns
returns c =
    λ name. last_first (feature_view kept_place) (λ p. same_name name p.name.spelling) c.args.ports.now
    c.loop-number.number _
    c.loop-number-test.false (c.loop-number.invariant name)
