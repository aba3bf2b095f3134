-- A list of qualifiers with one identifier, and the test whether it is `Base_Types`.
use Rattle.std.proofs.Common.{◌≡◌, ◌≤◌, ◌<◌, Bool, List, [], ◌∷◌, length, get_or, codes, map, ap, ◌∙◌}
use Rattle.std.proofs.Common.{arith}
use Rattle.aadl_tree.specs.Names.{same_name}
use Rattle.aadl_tree.specs.declared.names.Identifier as source
use Rattle.aadl_tree.specs.proof.PlaceMaps.{kept_place}
use Rattle.aadl_tree.specs.proof.NameViews.{identifier_view}
use Rattle.annex_resolve.specs.ExpressionTypesAndFindings.{is_base_types}

pub one_qualifier : (xs : List source.Identifier) (x : source.Identifier) (r : Bool) → 1 ≤ length xs → length xs < 2
    → x ≡ get_or xs 0 x
    → r ≡ same_name x.spelling (codes "Base_Types")
    → r ≡ is_base_types (map (identifier_view kept_place) xs)
one_qualifier [] x r least most is same = absurd (omega arith)
one_qualifier (y ∷ []) x r least most is same =
    same ∙ ap (λ (z : source.Identifier). same_name z.spelling (codes "Base_Types")) is
one_qualifier (y ∷ z ∷ zs) x r least most is same = absurd (omega arith)
