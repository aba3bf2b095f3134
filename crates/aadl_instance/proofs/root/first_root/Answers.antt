use Rattle.std.proofs.Common.{◌∙◌, arith, sym}
use Rattle.aadl_tree.specs.proof.PlaceMaps.{kept_place}
use Rattle.aadl_tree.specs.proof.DeclarationViews.{declaration_view}
use Rattle.aadl_names.specs.NameResolution.{is_root}
use Rattle.aadl_instance.proofs.RootSearch.{mapped_here, mapped_next, mapped_none}
use Rattle.aadl_instance.proofs.root.first_root.Goals as goal

pub returns-then-branch : goal.returns-then-branch
returns-then-branch c =
    sym (c.loop-number.invariant
    ∙ mapped_here (declaration_view kept_place) (is_root c.args.name.now) c.args.declarations.now c.loop-number.number
    c.index-declarations-number.result
    (omega arith) c.index-declarations-number.is (sym c.in_ok-is_root.ensures ∙ c.if-branch.true))

pub loop-number-preserved : goal.loop-number-preserved
loop-number-preserved c =
    c.loop-number.invariant
    ∙ mapped_next (declaration_view kept_place) (is_root c.args.name.now) c.args.declarations.now c.loop-number.number
    c.index-declarations-number.result
    (omega arith) c.index-declarations-number.is (sym c.in_ok-is_root.ensures ∙ c.if-branch.false)

pub returns : goal.returns
returns c =
    sym (c.loop-number.invariant
    ∙ mapped_none (declaration_view kept_place) (is_root c.args.name.now) c.args.declarations.now c.loop-number.number
    (omega arith))
