-- Parts of actions that have no tree of their own.
use Rattle.std.specs.Prelude.{ℕ, List, [], ◌∷◌, ◌++◌, option_map}
use Rattle.aadl_tree.specs.declared.actions.Choice.{Choice, out-Choice}
use Rattle.aadl_tree.specs.SpellingParts.{SpellingPart, plain}
use Rattle.aadl_tree.specs.Names.{identifier_parts, reference_parts}
use Rattle.aadl_tree.specs.Actions.{test_parts, actions_parts, elsifs_parts, otherwise_parts, bound_parts}
use Rattle.aadl_tree.specs.proof.NameViews.{identifier_view, reference_view}
use Rattle.aadl_tree.specs.proof.ExpressionViews.{expression_view}
use Rattle.aadl_tree.specs.proof.ActionViews.{actions_view, elsifs_view, otherwise_of}
use Rattle.aadl_tree.specs.proof.PlaceMaps.{kept_place}
use Rattle.behaviour_parse.specs.declared.actions.LoopHead.{LoopHead}
use Rattle.aadl_tree.specs.declared.mark.Mark.TheVariants as k

-- the parentheses of a loop
abbrev pub head_parts : LoopHead → List (SpellingPart ℕ)
head_parts x =
    plain k.ParenOpen ∷ (identifier_parts (identifier_view kept_place x.variable)
    ++ (plain k.Colon ∷ (reference_parts (reference_view kept_place x.data_type) ++ (plain k.In
    ∷ (bound_parts x.low ++ (plain k.Range ∷ (bound_parts x.high ++ plain k.ParenClose ∷ [])))))))

-- a choice after its `if`
abbrev pub choice_parts : Choice → List (SpellingPart ℕ)
choice_parts x =
    test_parts (expression_view kept_place (out-Choice x).test)
    ++ (actions_parts (actions_view kept_place (out-Choice x).actions)
    ++ (elsifs_parts (elsifs_view kept_place (out-Choice x).elsifs.items)
    ++ (otherwise_parts (otherwise_of (option_map (λ b. actions_view kept_place b.value) (out-Choice x).otherwise))
    ++ (plain k.End ∷ (plain k.If ∷ [])))))
