use Rattle.std.proofs.Common.{◌∙◌, ◌&&◌, ap, refl, arith}
use Rattle.std.specs.List.{list_any, enumerate_from}
use Rattle.std.specs.Option.{option_and_then}
use Rattle.std.proofs.lemmas.List.{take_all}
use Rattle.aadl_tree.specs.proof.PackageViews.{placed}
use Rattle.aadl_names.specs.NameResolution.{implementation_in, type_number}
use Rattle.model_violations.specs.IgnoredProperties.{is_number}
use Rattle.model_violations.specs.UsedDeclarations.{has, uses_type}
use Rattle.model_violations.proofs.NumberSets.{one_more_passes}
use Rattle.model_violations.proofs.used_declarations.types_used.Goals as goal

pub loop-number-preserved : goal.loop-number-preserved
loop-number-preserved c = λ n.
    let tree = placed c.args.uses.now.names.tree.now in
    let used = has c.args.used.now.keys in
    let size = c.len-number-end.ensures in
    one_more_passes (uses_type tree used n)
    (λ d. used c.loop-number.number && is_number n (option_and_then (type_number tree) (implementation_in d)))
    tree.declarations c.loop-number.number _ _ (λ d. refl)
    (omega (arith, size, c.loop-number-test.true)) (c.loop-number.invariant n) (c.in_ok-add_type_of.ensures n)

pub returns : goal.returns
returns c = λ n.
    let tree = placed c.args.uses.now.names.tree.now in
    let size = c.len-number-end.ensures in
    c.loop-number.invariant n
    ∙ ap (λ l. list_any (uses_type tree (has c.args.used.now.keys) n) (enumerate_from 0 l))
    (take_all c.loop-number.number tree.declarations (omega (arith, size, c.loop-number-test.false)))
