use Rattle.std.proofs.Common.{◌∙◌, ◌++◌, sym, ap, arith, vec_len, codes}
use Rattle.std.proofs.lemmas.Bool.{eqb-true}
use Rattle.aadl_tree.specs.Names.{same_name}
use Rattle.aadl_tree.specs.proof.PlaceMaps.{kept_place}
use Rattle.aadl_tree.specs.proof.NameViews.{identifier_view}
use Rattle.aadl_names.proofs.PiecewiseComparison.{one_word}
use Rattle.aadl_names.proofs.name_comparison.is_spelled.Goals as goal

pub returns-then-is_empty : goal.returns-then-is_empty
returns-then-is_empty c =
    let rest = c.args.name.now.rest in
    let none = eqb-true (vec_len rest) 0 (sym c.if-is_empty.ensures) in
    c.is_identifier.ensures
    ∙ ap (λ whole. same_name whole c.args.text.now)
    (sym (one_word (λ y. codes "::" ++ y.spelling) (identifier_view kept_place) c.args.name.now.first.spelling
    rest.items
    (omega (arith, none, rest.ok))))
